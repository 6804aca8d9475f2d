-- What C gets of solving a tile file.
use Rattle.std.specs.Prelude.{◌≡◌, ℕ, ◌*◌, ℤ, pos, neg_ℤ, Ok, Err, Result, List}
use Rattle.limits.specs.Limits.{most_rows, most_columns}
use Rattle.tile.specs.Tiles.{Tile}
use Rattle.flow.specs.Points.{FourPoints}
use Rattle.tilefile.specs.Faults.{section_number, flaw_number, inner_number}
use Rattle.report.specs.declared.refusing.FileRefusal.{FileRefusal}
use Rattle.report.specs.declared.refusing.FileRefusal.TheVariants.{File, FewEntries, FewPlaces}
use Rattle.report.specs.declared.solving.Solution.{Solution}
use Rattle.report.specs.Copying.{SolveFileIntoDoes}
use Rattle.host.specs.declared.fault.FaultNumbers.{FaultNumbers}

-- the most cells a tile may have: so many entries of workspace serve every tile
abbrev pub most_cells : ℕ
most_cells = most_rows * most_columns

-- The numbers of a refusal: a fault's place, number, section and inner number; or a number alone, which is below 0 where the table of
-- refusals has none.
abbrev pub fault_numbers : FileRefusal → FaultNumbers
fault_numbers (File f) = record { place = f.place; number = pos (flaw_number f.flaw); section = section_number f.section; inner = inner_number f.flaw }
fault_numbers FewEntries = record { place = 0; number = pos 7; section = 0; inner = 0 }
fault_numbers FewPlaces = record { place = 0; number = neg_ℤ (pos 1); section = 0; inner = 0 }

-- 0 where the call was done, else the number of its refusal
abbrev pub answer_code : {N : Type 0} → Result N FileRefusal → ℤ
answer_code (Ok _) = pos 0
answer_code (Err e) = (fault_numbers e).number

-- what is answered; what was there before where the call was refused
abbrev pub written : {N : Type 0} → Result N FileRefusal → N → N
written (Ok n) before = n
written (Err _) before = before

-- the numbers of the refusal; where there is none, what was there before
abbrev pub faulted : {N : Type 0} → Result N FileRefusal → FaultNumbers → FaultNumbers
faulted (Ok _) before = before
faulted (Err e) before = fault_numbers e

-- The answer of solving the file f, with so many entries of workspace and by a maker that keeps the four points, into the list of heights
-- hs, told by its number; the solution is written over x, and the numbers of a refusal over y.
pub record FileTold (f : List ℕ) (t : Tile) (entries : ℕ) (hs : List ℕ) (x : Solution) (y : FaultNumbers) (code : ℤ) (t' : Tile) (hs' : List ℕ) (x' : Solution) (y' : FaultNumbers) : Type 0 where
  pub answer : Result Solution FileRefusal
  pub does : SolveFileIntoDoes FourPoints f t entries hs answer t' hs'
  pub told : code ≡ answer_code answer
  pub solution : x' ≡ written answer x
  pub fault : y' ≡ faulted answer y

-- the workspace is as it was where the file was refused; where it was solved it is free
abbrev pub KeptUnlessDone : {W : Type 0} → (code : ℤ) → W → W → Type 0
KeptUnlessDone code before after = (code ≡ pos 0 → ⊥) → after ≡ before
