-- What solving a file answers and leaves.
use Rattle.std.specs.Prelude.{◌≡◌, ℕ, suc, ◌<◌, ◌≤◌, List, length, take, Ok, Result}
use Rattle.limits.specs.Checking.{CheckedBy, RefusedAs}
use Rattle.price.specs.Rules.{Rule}
use Rattle.theory.specs.Sets.{SmallestCheapestSet}
use Rattle.theory.specs.Grids.{LowestCheapestGrid, energy}
use Rattle.tile.specs.declared.shape.Shape.{Shape}
use Rattle.tile.specs.Halving.{RoundsDue}
use Rattle.tile.specs.Shapes.{cells}
use Rattle.tile.specs.Tiles.{Tile, Survey, cell, problem, heights}
use Rattle.flow.specs.Networks.{network, marks}
use Rattle.passes.specs.Writing.{rewritten}
use Rattle.passes.specs.Rounds.{charge_in}
use Rattle.filter.specs.declared.states.Level.{Level}
use Rattle.filter.specs.Calls.{HalvedBy}
use Rattle.filter.specs.Laws.{Recorded}
use Rattle.filter.specs.Runs.{surveyed}
use Rattle.solve.specs.Solving.{PastKept, HalvedTimes, FinishedRun}
use Rattle.tilefile.specs.declared.letter.Letter.{Letter}
use Rattle.tilefile.specs.Bytes.{byte_at}
use Rattle.tilefile.specs.Letters.{letter_byte, letter_rule}
use Rattle.tilefile.specs.Survey.{cell_record}
use Rattle.tilefile.specs.Files.{FileChecked, file_survey, survey_calls}
use Rattle.report.specs.declared.refusing.FileRefusal.{FileRefusal}
use Rattle.report.specs.declared.refusing.FileRefusal.TheVariants.{File, FewEntries}
use Rattle.report.specs.declared.solving.Solution.{Solution}
use Rattle.report.specs.Refusing.{file_refusal_number}

-- The low ends of the tile t' are the lowest cheapest grid of the survey y under the rule, and x tells its shape, the rounds due, and
-- its energy.
pub record SolvedAs (rule : Rule) (s : Shape) (y : Survey) (t' : Tile) (x : Solution) : Type 0 where
  pub lowest_cheapest : LowestCheapestGrid (problem rule s y) (heights t')
  pub rows : x.rows ≡ s.rows
  pub columns : x.columns ≡ s.columns
  pub top : x.top ≡ s.top
  pub rounds : RoundsDue s.top x.rounds
  pub energy : x.energy ≡ energy (problem rule s y) (heights t')

-- The rounds led from the tile t to the tile t', and the last of them, done on the tile `before`, left the charges and the marks of t'.
pub record LastRound (rule : Rule) (leaves : Shape → Tile → Tile → Type 0) (s : Shape) (rounds : ℕ) (t t' : Tile) : Type 0 where
  pub earlier : ℕ
  pub counted : rounds ≡ suc earlier
  pub before : Tile
  pub halved_before : HalvedTimes rule leaves s earlier t before
  pub halved : HalvedBy rule leaves s before t'
  pub charges : (u : ℕ) → u < cells s → (cell t' u).charge ≡ charge_in rule s before u
  pub marks : SmallestCheapestSet (network s before) (charge_in rule s before) (marks t')
  pub bits : (u : ℕ) → u < cells s → (cell t' u).mark ≤ 1

-- What the records hold in the end: readings, classes and ties of the survey y, in every bracket just its height, and what the rounds
-- of this maker left since the draft was filled. Flows and ranks are free within what the maker may leave in the last round. A
-- finished run of the survey led to these records.
pub record RecordsSolved (rule : Rule) (leaves : Shape → Tile → Tile → Type 0) (s : Shape) (y : Survey) (rounds : ℕ) (t t' : Tile) : Type 0 where
  pub survey : Recorded s y t'
  pub settled : (u : ℕ) → u < cells s → (cell t' u).high ≡ heights t' u
  pub last_round : LastRound rule leaves s rounds (rewritten (cells s) (cell_record s.top y) t) t'
  pub run : (l : Level) × FinishedRun rule s (surveyed (survey_calls y (cells s))) l (take (cells s) t')

-- the file f of the shape s was solved under the rule of its letter, made for its top
pub record FileSolved (leaves : Shape → Tile → Tile → Type 0) (s : Shape) (f : List ℕ) (t : Tile) (answer : Result Solution FileRefusal) (t' : Tile) : Type 0 where
  pub solution : Solution
  pub answers : answer ≡ Ok solution
  pub letter : Letter
  pub names : byte_at f 2 ≡ letter_byte letter
  pub solved : SolvedAs (letter_rule letter s.top) s (file_survey s f) t' solution
  pub records : RecordsSolved (letter_rule letter s.top) leaves s (file_survey s f) solution.rounds t t'
  pub kept : PastKept (cells s) t t'

-- an entry of workspace for each cell of the shape s
abbrev pub RoomChecked : Shape → (entries : ℕ) → (FileRefusal → Type 0) → Type 0 → Type 0
RoomChecked s n Left Rest = CheckedBy file_refusal_number 7 FewEntries (cells s ≤ n) Left Rest

-- A file with a fault is refused with the first one, and a file without one for too few entries of workspace alone; then the tile is
-- as it was.
abbrev pub SolveFileDoes : (Shape → Tile → Tile → Type 0) → List ℕ → Tile → (entries : ℕ) → Result Solution FileRefusal → Tile → Type 0
SolveFileDoes leaves f t n answer t' = FileChecked f (length t) (λ e. RefusedAs t answer t' (File e)) (λ s. RoomChecked s n (RefusedAs t answer t') (FileSolved leaves s f t answer t'))
