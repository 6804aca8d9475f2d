-- A tile of one cell, from start to level.
use Rattle.std.specs.Prelude.{ℕ, ◌≤◌, [], length, take, Result, IsOkAnd}
use Rattle.limits.specs.Limits.{most_rows}
use Rattle.limits.specs.declared.refusal.Refusal.{Refusal}
use Rattle.limits.specs.declared.refusal.Refusal.TheVariants.{FewRecords, FewEntries}
use Rattle.limits.specs.Checking.{Checked, RefusedAs}
use Rattle.price.specs.Rules.{Rule}
use Rattle.tile.specs.declared.shape.Shape.{Shape}
use Rattle.tile.specs.Shapes.{MadeOf}
use Rattle.tile.specs.Tiles.{Tile}
use Rattle.passes.specs.Writing.{fresh, rewritten}
use Rattle.filter.specs.declared.states.Draft.{Draft}
use Rattle.filter.specs.declared.states.Level.{Level}
use Rattle.filter.specs.Runs.{surveyed, draft, Run}
use Rattle.solve.specs.Solving.{HalvedTimes, FinishedRun}

-- the tile as start leaves it: its first record is fresh, with top 1
abbrev pub started : Tile → Tile
started t = rewritten 1 (λ _. fresh 1) t

-- under every rule a run of a tile of one cell with top 1 led to the draft and to the first record, with nothing accepted since start
pub record OneCellStarted (d : Draft) (t : Tile) : Type 0 where
  pub made : MadeOf most_rows 1 1 1 d.shape
  pub whole : 1 ≤ length t
  pub run : (rule : Rule) → Run rule d.shape [] (draft d) (take 1 t)

-- The rounds of the level led from the started tile t to t', each done by the maker that was handed over; and a finished run of such a
-- tile, whose readings and ties are all 0, led to the level and to the first record.
pub record OneCellSolved (rule : Rule) (leaves : Shape → Tile → Tile → Type 0) (t : Tile) (answered : Level) (t' : Tile) : Type 0 where
  pub shape : Shape
  pub made : MadeOf most_rows 1 1 1 shape
  pub rounds : HalvedTimes rule leaves shape answered.done t t'
  pub finished_run : FinishedRun rule shape (surveyed []) answered (take 1 t')

-- a record and an entry are needed, which is checked before anything is written; then the level is answered
abbrev pub OneCellDoes : Rule → (leaves : Shape → Tile → Tile → Type 0) → Tile → (entries : ℕ) → Result Level Refusal → Tile → Type 0
OneCellDoes rule leaves t entries answer t' =
    Checked 2 FewRecords (1 ≤ length t) (RefusedAs t answer t')
    (Checked 7 FewEntries (1 ≤ entries) (RefusedAs t answer t') (IsOkAnd answer (λ l. OneCellSolved rule leaves (started t) l t')))
