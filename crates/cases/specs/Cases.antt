-- A worked tile: what was surveyed, and the lowest cheapest grid with its energy that are expected of it.
use Rattle.std.specs.Prelude.{◌≡◌, ℕ, List, slice_index}
use Rattle.price.specs.Rules.{Rule}
use Rattle.theory.specs.Grids.{Heights, Problem, energy, LowestCheapestGrid}
use Rattle.tile.specs.declared.shape.Shape.{Shape}
use Rattle.tile.specs.declared.side.Side.{Side}
use Rattle.tile.specs.declared.side.Side.TheVariants.{Rightward, Downward}
use Rattle.tile.specs.Ties.{Tie}
use Rattle.tile.specs.Tiles.{Survey, problem}

-- the lists run over the cells in the order of their numbers; what a list does not reach is 0
pub record Case : Type 0 where
  pub rule : Rule
  pub shape : Shape
  pub readings : List ℕ
  pub classes : List ℕ
  -- the weights of the ties to the next column and to the next row
  pub right : List ℕ
  pub down : List ℕ
  -- what is expected: the heights of the lowest cheapest grid, and their energy
  pub heights : List ℕ
  pub energy : ℕ

-- the weight of the tie on a side of the cell u
abbrev pub tie_weight : Case → ℕ → Side → ℕ
tie_weight c u Rightward = slice_index c.right u
tie_weight c u Downward = slice_index c.down u

-- what was surveyed
abbrev pub surveyed : Case → Survey
surveyed c = record { reading = λ u. slice_index c.readings u; class = λ u. slice_index c.classes u; tie = tie_weight c }

-- the problem that the tile poses
abbrev pub posed : Case → Problem Tie
posed c = problem c.rule c.shape (surveyed c)

-- the height of the cell u in a list of heights; 0 where there is none
abbrev pub height : List ℕ → Heights
height hs u = slice_index hs u

-- the expected heights are the lowest cheapest grid, and the expected energy is theirs
pub record RightCase (c : Case) : Type 0 where
  pub lowest_cheapest : LowestCheapestGrid (posed c) (height c.heights)
  pub energy_of_it : energy (posed c) (height c.heights) ≡ c.energy
