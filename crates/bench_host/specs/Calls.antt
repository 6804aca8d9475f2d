-- What the calls of the benchmark answer and leave, refusals too.
use Rattle.std.specs.Prelude.{◌≡◌, ℕ, ◌*◌, ◌≤◌, ◌⊎◌, ℤ, pos, negsuc, List, length, Ok, Err, Result}
use Rattle.limits.specs.Limits.{most_rows, most_strip_rows, most_columns, most_top}
use Rattle.price.specs.Rules.{Rule}
use Rattle.theory.specs.Sets.{SmallestCheapestSet}
use Rattle.tile.specs.declared.shape.Shape.{Shape}
use Rattle.tile.specs.Shapes.{cells, Ranged, MadeOf}
use Rattle.tile.specs.Tiles.{Tile}
use Rattle.flow.specs.Networks.{network, charges, marks}
use Rattle.flow.specs.Points.{Cuttable, FourPoints}
use Rattle.passes.specs.Soundness.{Sound}
use Rattle.filter.specs.declared.states.Draft.{Draft}
use Rattle.filter.specs.Calls.{HalvedBy}
use Rattle.tilefile.specs.declared.fault.Fault.{Fault}
use Rattle.tilefile.specs.declared.letter.Letter.{Letter}
use Rattle.tilefile.specs.Letters.{letter_byte, letter_rule, NamesOne}
use Rattle.tilefile.specs.Files.{ReadDoes as FileReadDoes}

-- ---- refusals

-- −1 is answered, and the tile is as it was
abbrev pub Refused : Tile → ℤ → Tile → Type 0
Refused t code t' = (code ≡ negsuc 0) × (t' ≡ t)

-- what a call needs: where it holds, the call comes to the rest; where it does not, Left says what is left
abbrev pub Needed : Type 0 → (Left Rest : Type 0) → Type 0
Needed Holds Left Rest = (Holds × Rest) ⊎ ((Holds → ⊥) × Left)

-- ---- reading a file

-- 0 where the file was read
abbrev pub read_code : Result (Draft × Letter) Fault → ℤ
read_code (Ok _) = pos 0
read_code (Err _) = negsuc 0

-- what the reader does with the file f, told by a code
abbrev pub ReadDoes : List ℕ → Tile → ℤ → Tile → Type 0
ReadDoes f t code t' = (answer : Result (Draft × Letter) Fault) × (FileReadDoes f t answer t' × (code ≡ read_code answer))

-- ---- a cut

-- so many entries serve every tile that is cut; and every tile that is solved
abbrev pub most_strip_cells : ℕ
most_strip_cells = most_strip_rows * most_columns

abbrev pub most_cells : ℕ
most_cells = most_rows * most_columns

-- an entry for each cell, and a tile as a cut maker wants it
pub record MayBeCut (s : Shape) (t : Tile) (entries : ℕ) : Type 0 where
  pub room : cells s ≤ entries
  pub cuttable : Cuttable s t

-- 0 is answered; the maker left a tile that it may leave, which keeps the four points, and the marks are the smallest cheapest set
-- of the tile that was handed over
pub record Cut (leaves : Shape → Tile → Tile → Type 0) (s : Shape) (t : Tile) (code : ℤ) (t' : Tile) : Type 0 where
  pub done : code ≡ pos 0
  pub left : leaves s t t'
  pub points : FourPoints s t t'
  pub smallest : SmallestCheapestSet (network s t) (charges t) (marks t')

-- A cut does not look at the top of its shape, which is the greatest.
abbrev pub CutDoes : (Shape → Tile → Tile → Type 0) → (rows columns : ℕ) → Tile → (entries : ℕ) → ℤ → Tile → Type 0
CutDoes leaves rows columns t entries code t' =
    Needed (Ranged most_strip_rows rows columns most_top) (Refused t code t')
    ((s : Shape) × (MadeOf most_strip_rows rows columns most_top s × Needed (MayBeCut s t entries) (Refused t code t') (Cut leaves s t code t')))

-- ---- a round

-- a record and an entry for each cell, and records that are sound after so many rounds
pub record MayBeHalved (s : Shape) (done : ℕ) (t : Tile) (entries : ℕ) : Type 0 where
  pub whole : cells s ≤ length t
  pub room : cells s ≤ entries
  pub sound : Sound s done t

-- of a tile of this shape: 0 is answered, and the tile is charged under the rule, cut by the maker, and narrowed
abbrev pub ShapeRoundDoes : (Shape → Tile → Tile → Type 0) → Rule → Shape → (done : ℕ) → Tile → (entries : ℕ) → ℤ → Tile → Type 0
ShapeRoundDoes leaves rule s done t entries code t' =
    Needed (MayBeHalved s done t entries) (Refused t code t') ((code ≡ pos 0) × HalvedBy rule leaves s t t')

-- of rows, columns and a top, under the rule of the letter that the byte b is
abbrev pub RoundDoes : (Shape → Tile → Tile → Type 0) → (rows columns top done b : ℕ) → Tile → (entries : ℕ) → ℤ → Tile → Type 0
RoundDoes leaves rows columns top done b t entries code t' =
    Needed (Ranged most_rows rows columns top) (Refused t code t')
    ((s : Shape) × (MadeOf most_rows rows columns top s
    × Needed (NamesOne b) (Refused t code t') ((letter : Letter) × ((b ≡ letter_byte letter) × ShapeRoundDoes leaves (letter_rule letter s.top) s done t entries code t'))))
