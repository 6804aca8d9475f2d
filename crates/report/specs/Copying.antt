-- What solving a file into a list of heights answers and leaves.
use Rattle.std.specs.Prelude.{◌≡◌, ℕ, ◌≤◌, List, length, Err, Result}
use Rattle.limits.specs.Checking.{CheckedBy}
use Rattle.tile.specs.declared.shape.Shape.{Shape}
use Rattle.tile.specs.Shapes.{cells}
use Rattle.tile.specs.Tiles.{Tile}
use Rattle.passes.specs.Copying.{copied}
use Rattle.tilefile.specs.Files.{FileChecked}
use Rattle.report.specs.declared.refusing.FileRefusal.{FileRefusal}
use Rattle.report.specs.declared.refusing.FileRefusal.TheVariants.{File, FewPlaces}
use Rattle.report.specs.declared.solving.Solution.{Solution}
use Rattle.report.specs.Refusing.{file_refusal_number}
use Rattle.report.specs.Solving.{FileSolved, RoomChecked}

-- a refusal leaves the tile t and the list of heights hs as they were
pub record LeavesBoth (t : Tile) (hs : List ℕ) (answer : Result Solution FileRefusal) (t' : Tile) (hs' : List ℕ) (e : FileRefusal) : Type 0 where
  pub answers : answer ≡ Err e
  pub tile : t' ≡ t
  pub list : hs' ≡ hs

-- the file f of the shape s was solved, and the list begins with the heights of its cells
pub record SolvedInto (leaves : Shape → Tile → Tile → Type 0) (s : Shape) (f : List ℕ) (t : Tile) (hs : List ℕ) (answer : Result Solution FileRefusal) (t' : Tile) (hs' : List ℕ) : Type 0 where
  pub solved : FileSolved leaves s f t answer t'
  pub writes : hs' ≡ copied (cells s) t' hs

-- a place for each height of the shape s; the refusal has no number of the table
abbrev pub PlacesChecked : Shape → (places : ℕ) → (FileRefusal → Type 0) → Type 0 → Type 0
PlacesChecked s places Left Rest = CheckedBy file_refusal_number 0 FewPlaces (cells s ≤ places) Left Rest

-- a file without a fault: first the places are checked, and then the workspace
abbrev pub SolveFileIntoDoes : (Shape → Tile → Tile → Type 0) → List ℕ → Tile → (entries : ℕ) → List ℕ → Result Solution FileRefusal → Tile → List ℕ → Type 0
SolveFileIntoDoes leaves f t n hs answer t' hs' =
    let Left = LeavesBoth t hs answer t' hs' in
    FileChecked f (length t) (λ e. Left (File e)) (λ s. PlacesChecked s (length hs) Left (RoomChecked s n Left (SolvedInto leaves s f t hs answer t' hs')))
