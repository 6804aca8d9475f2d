-- What a round writes: the charges before its cut, and the narrowed brackets after it.
use Rattle.std.specs.Prelude.{ℕ, ◌<◌, ◌≤◌, cond, length, ℤ, ◌==◌}
use Rattle.limits.specs.Limits.{most_class}
use Rattle.price.specs.Rules.{Rule}
use Rattle.theory.specs.Brackets.{halving_charges}
use Rattle.tile.specs.declared.bracket.Bracket.{Bracket}
use Rattle.tile.specs.declared.cell.Cell.{Cell}
use Rattle.tile.specs.declared.shape.Shape.{Shape}
use Rattle.tile.specs.Halving.{half_below, half_above}
use Rattle.tile.specs.Records.{stored_tie, stored_bracket, recharged}
use Rattle.tile.specs.Shapes.{cells}
use Rattle.tile.specs.Tiles.{Tile, cell, survey, problem}
use Rattle.flow.specs.Networks.{brackets}
use Rattle.passes.specs.Writing.{with_bracket, rewritten}
use Rattle.passes.specs.Soundness.{SoundTies}

-- The charge of the cell u: 0 where it is settled; else its step at the middle of its bracket, plus the weight of each tie to a
-- cell with a lower bracket, minus the weight of each tie to a cell with a higher one.
abbrev pub charge_in : Rule → Shape → Tile → ℕ → ℤ
charge_in rule s t u = halving_charges (problem rule s (survey t)) (brackets t) u

-- every charge written; flows, marks and ranks at 0
abbrev pub charged : Rule → Shape → Tile → Tile
charged rule s t = rewritten (cells s) (λ u. recharged (charge_in rule s t u) (cell t u)) t

-- the upper half of a cell's bracket where its mark is 1, else the lower
abbrev pub half_marked : Cell → Bracket
half_marked c = cond (c.mark == 1) (half_above (stored_bracket c)) (half_below (stored_bracket c))

-- every bracket narrowed by its mark
abbrev pub narrowed : Shape → Tile → Tile
narrowed s t = rewritten (cells s) (λ u. with_bracket (half_marked (cell t u)) (cell t u)) t

-- ---- what the passes of a round need of the records; sound ones have it

-- what charging needs: a record for each cell, and readings, classes, ties and brackets in their ranges
pub record Chargeable (s : Shape) (t : Tile) : Type 0 where
  pub whole : cells s ≤ length t
  pub readings : (u : ℕ) → u < cells s → (cell t u).reading ≤ s.top
  pub classes : (u : ℕ) → u < cells s → (cell t u).class ≤ most_class
  pub ties : (u : ℕ) → u < cells s → SoundTies s u (stored_tie (cell t u))
  pub lows : (u : ℕ) → u < cells s → (cell t u).low ≤ s.top
  pub highs : (u : ℕ) → u < cells s → (cell t u).high ≤ s.top

-- what narrowing needs: a record for each cell, and brackets of heights up to top
pub record Narrowable (s : Shape) (t : Tile) : Type 0 where
  pub whole : cells s ≤ length t
  pub lows : (u : ℕ) → u < cells s → (cell t u).low ≤ s.top
  pub highs : (u : ℕ) → u < cells s → (cell t u).high ≤ s.top
