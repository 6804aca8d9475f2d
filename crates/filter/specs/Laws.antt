-- The law that every run keeps.
use Rattle.std.specs.Prelude.{◌≡◌, ℕ, ◌<◌, ◌≤◌}
use Rattle.price.specs.Rules.{Rule, Lawful}
use Rattle.theory.specs.Grids.{Heights, LowestCheapestGrid}
use Rattle.tile.specs.declared.shape.Shape.{Shape}
use Rattle.tile.specs.declared.side.Side.{Side}
use Rattle.tile.specs.Halving.{from_to, Holds}
use Rattle.tile.specs.Records.{stored_tie, stored_bracket}
use Rattle.tile.specs.Shapes.{cells}
use Rattle.tile.specs.Tiles.{Tile, Survey, cell, problem, heights}
use Rattle.passes.specs.Soundness.{Sound}
use Rattle.filter.specs.Runs.{History, Finished, surveyed, State, shape_of, done_of, Run}

-- the same rows, columns and top
pub record SameShape (s s' : Shape) : Type 0 where
  pub rows : s.rows ≡ s'.rows
  pub columns : s.columns ≡ s'.columns
  pub top : s.top ≡ s'.top

-- on the cells of a shape: the same classes and ties, and no reading of the second survey is lower
pub record Raised (s : Shape) (y z : Survey) : Type 0 where
  pub class : (u : ℕ) → u < cells s → z.class u ≡ y.class u
  pub tie : (u : ℕ) (d : Side) → u < cells s → z.tie u d ≡ y.tie u d
  pub reading : (u : ℕ) → u < cells s → y.reading u ≤ z.reading u

-- the records of the cells hold the survey
pub record Recorded (s : Shape) (y : Survey) (t : Tile) : Type 0 where
  pub reading : (u : ℕ) → u < cells s → (cell t u).reading ≡ y.reading u
  pub class : (u : ℕ) → u < cells s → (cell t u).class ≡ y.class u
  pub tie : (u : ℕ) (d : Side) → u < cells s → stored_tie (cell t u) d ≡ y.tie u d

-- What holds at the end of a run with this history, this state and these records. Its costs are the energies under its rule
-- with the readings, classes and ties of its history.
pub record Law (rule : Rule) (s : Shape) (h : History) (x : State) (t : Tile) : Type 0 where
  -- If finish was the last call accepted, no grid of heights 0..top costs less than the grid of the low ends, and no grid of
  -- the same cost is lower at any cell.
  pub finished_grid_is_lowest_cheapest : Finished h → LowestCheapestGrid (problem rule s (surveyed h)) (heights t)
  -- Then the rule reaches top.
  pub finished_rule_reaches_top : Finished h → s.top ≤ rule.greatest
  -- Whichever call came last, there is a lowest cheapest grid, and every bracket contains its height.
  pub lowest_cheapest_grid_exists : s.top ≤ rule.greatest → (g : Heights) × LowestCheapestGrid (problem rule s (surveyed h)) g
  pub brackets_contain_it : s.top ≤ rule.greatest → (g : Heights) → LowestCheapestGrid (problem rule s (surveyed h)) g →
      (u : ℕ) → u < cells s → Holds (stored_bracket (cell t u)) (g u)
  -- Where the rule's greatest level is below top, no round is ever done: every bracket is 0..top.
  pub brackets_stay_whole : rule.greatest < s.top → (u : ℕ) → u < cells s → stored_bracket (cell t u) ≡ from_to 0 s.top
  -- If another run of the same rule, rows, columns and top is finished too, with the same classes and ties and no reading
  -- lower, then no height of it is lower.
  pub raised_readings_lower_no_height : Finished h → (s' : Shape) (k : History) (y : State) (w : Tile) → SameShape s s' → Run rule s' k y w → Finished k →
      Raised s (surveyed h) (surveyed k) → (u : ℕ) → u < cells s → heights t u ≤ heights w u
  -- The state keeps the shape; the records hold the survey of the history, and are never corrupt.
  pub shape_stays : shape_of x ≡ s
  pub records_hold_the_survey : Recorded s (surveyed h) t
  pub records_stay_sound : Sound s (done_of x) t

-- Every run under a lawful rule keeps the law.
abbrev pub EveryRunKeepsTheLaw : Type 0
EveryRunKeepsTheLaw = (rule : Rule) → Lawful rule → (s : Shape) (h : History) (x : State) (t : Tile) → Run rule s h x t → Law rule s h x t
