-- What rating the heights that records hold answers.
use Rattle.std.specs.Prelude.{◌≡◌, ℕ, ◌+◌, ◌<◌, ◌≤◌, length, Option, MatchOption}
use Rattle.price.specs.Rules.{Rule, priced}
use Rattle.theory.specs.Sums.{total}
use Rattle.theory.specs.Grids.{Heights, tie_cost, energy}
use Rattle.tile.specs.declared.shape.Shape.{Shape}
use Rattle.tile.specs.declared.side.Side.{Side}
use Rattle.tile.specs.Shapes.{cells}
use Rattle.tile.specs.Ties.{tie_on, ties_of, graph}
use Rattle.tile.specs.Tiles.{Tile, Survey, survey, heights, problem}

-- what the tie on a side of the cell u costs; 0 where there is none
abbrev pub side_cost : Shape → Survey → Heights → ℕ → Side → ℕ
side_cost s y h u d = total (tie_on s u d) (tie_cost (graph s y.tie) h)

-- what the cell u costs: the price of its height, and the ties that its record stores
abbrev pub cell_cost : Rule → Shape → Survey → Heights → ℕ → ℕ
cell_cost rule s y h u = priced rule (y.reading u) (y.class u) (h u) + total (ties_of s u) (tie_cost (graph s y.tie) h)

-- the energy of the heights
pub record EnergyOf (rule : Rule) (s : Shape) (t : Tile) (n : ℕ) : Type 0 where
  pub whole : cells s ≤ length t
  pub value : n ≡ energy (problem rule s (survey t)) (heights t)

-- what rating answers: the energy, and none exactly where there are fewer records than cells
abbrev pub Rated : Rule → Shape → Tile → Option ℕ → Type 0
Rated rule s t r = MatchOption r (length t < cells s) (EnergyOf rule s t)
