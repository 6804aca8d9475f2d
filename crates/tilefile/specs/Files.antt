-- Tile files, what they say, and what reading one answers and leaves.
use Rattle.std.specs.Prelude.{◌≡◌, ℕ, zero, suc, ◌≤◌, length, List, [], ◌∷◌, take, drop, Ok, Result}
use Rattle.limits.specs.Limits.{most_rows}
use Rattle.limits.specs.declared.refusal.Refusal.{Refusal}
use Rattle.limits.specs.declared.refusal.Refusal.TheVariants.{FewRecords}
use Rattle.limits.specs.Checking.{Checked, RefusedAs}
use Rattle.price.specs.Rules.{Rule, Lawful}
use Rattle.tile.specs.declared.shape.Shape.{Shape}
use Rattle.tile.specs.Shapes.{cells, MadeOf}
use Rattle.tile.specs.Tiles.{Tile, Survey}
use Rattle.passes.specs.Writing.{rewritten}
use Rattle.filter.specs.declared.states.Draft.{Draft}
use Rattle.filter.specs.Runs.{put_at, tied_at, History, draft, Run}
use Rattle.tilefile.specs.declared.fault.Fault.{Fault}
use Rattle.tilefile.specs.declared.letter.Letter.{Letter}
use Rattle.tilefile.specs.Bytes.{byte_at}
use Rattle.tilefile.specs.Letters.{letter_byte}
use Rattle.tilefile.specs.Survey.{entries_survey, cell_record}
use Rattle.tilefile.specs.Sections.{RuleChecked, rows_at, columns_at, top_at, ShapeChecked, reading_place, ReadingsChecked, ties_place, TiesChecked, EndChecked}

-- ---- where the sections begin: Rule at 0, Shape at 3, Readings at 11, and Ties behind them

abbrev pub ties_start : Shape → ℕ
ties_start s = reading_place 11 (cells s)

-- ---- the checks of a file, in file order; Left says what a fault leaves, and Rest what acceptance comes to

-- from the place p on, Readings, Ties, and no byte more
abbrev pub CellsChecked : Shape → List ℕ → ℕ → (Fault → Type 0) → Type 0 → Type 0
CellsChecked s f p Left Rest =
    let q = reading_place p (cells s) in
    ReadingsChecked s f p Left (TiesChecked s f q Left (EndChecked f (ties_place q (cells s)) Left Rest))

-- the shape that the file asks for
abbrev pub Asked : List ℕ → Shape → Type 0
Asked f s = MadeOf most_rows (rows_at f 3) (columns_at f 3) (top_at f 3) s

-- all checks of a file, for so many records; Rest s is what acceptance comes to where the file asks for the shape s
abbrev pub FileChecked : List ℕ → (records : ℕ) → (Fault → Type 0) → (Shape → Type 0) → Type 0
FileChecked f records Left Rest = RuleChecked f 0 Left (ShapeChecked f 3 records Left ((s : Shape) × Asked f s × CellsChecked s f 11 Left (Rest s)))

-- ---- what a file of the shape s says

abbrev pub file_survey : Shape → List ℕ → Survey
file_survey s f = entries_survey (drop 11 f) (drop (ties_start s) f)

-- ---- reading a file

-- a draft of the shape s is answered, and the records of its cells are those of the survey y
pub record FilledBy (s : Shape) (y : Survey) (t : Tile) (answer : Result Draft Refusal) (t' : Tile) : Type 0 where
  pub draft : Draft
  pub answers : answer ≡ Ok draft
  pub shape : draft.shape ≡ s
  pub writes : t' ≡ rewritten (cells s) (cell_record s.top y) t

abbrev pub FillDoes : Shape → Survey → Tile → Result Draft Refusal → Tile → Type 0
FillDoes s y t answer t' = Checked 2 FewRecords (cells s ≤ length t) (RefusedAs t answer t') (FilledBy s y t answer t')

-- a draft of the shape s and the letter are answered, and the records of its cells are those of what the file says
pub record ReadAs (s : Shape) (f : List ℕ) (t : Tile) (answer : Result (Draft × Letter) Fault) (t' : Tile) : Type 0 where
  pub draft : Draft
  pub letter : Letter
  pub answers : answer ≡ Ok (draft, letter)
  pub shape : draft.shape ≡ s
  pub names : byte_at f 2 ≡ letter_byte letter
  pub writes : t' ≡ rewritten (cells s) (cell_record s.top (file_survey s f)) t

-- A file with a fault is refused with the first one, and the tile is as it was.
abbrev pub ReadDoes : List ℕ → Tile → Result (Draft × Letter) Fault → Tile → Type 0
ReadDoes f t answer t' = FileChecked f (length t) (RefusedAs t answer t') (λ s. ReadAs s f t answer t')

-- ---- the run that a file stands for

-- a put and a tie for each of the first n cells, in the order of their numbers, the latest first
abbrev pub survey_calls : Survey → ℕ → History
survey_calls y zero = []
survey_calls y (suc u) = tied_at u (y.tie u) ∷ put_at u (y.reading u) (y.class u) ∷ survey_calls y u

-- under every lawful rule a run of start, and a put and a tie of the survey y for every cell, led to the draft d over these records
abbrev pub LedTo : Draft → Survey → Tile → Type 0
LedTo d y t = (rule : Rule) → Lawful rule → Run rule d.shape (survey_calls y (cells d.shape)) (draft d) (take (cells d.shape) t)
