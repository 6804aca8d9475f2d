-- The ties of a shape, and the graph that they make.
use Rattle.std.specs.Prelude.{ℕ, zero, suc, ◌+◌, ◌%◌, Bool, cond, ◌&&◌, List, [], ◌∷◌, ◌++◌, Some, None, Option, nat_lt}
use Rattle.std.specs.List.{flat_map}
use Rattle.theory.specs.Graphs.{Graph, Proper}
use Rattle.tile.specs.declared.shape.Shape.{Shape}
use Rattle.tile.specs.declared.side.Side.{Side}
use Rattle.tile.specs.declared.side.Side.TheVariants.{Rightward, Downward}
use Rattle.tile.specs.Shapes.{cells}

-- the sides on which a record stores a tie
abbrev pub sides : List Side
sides = Rightward ∷ Downward ∷ []

-- how far the next record on a side lies, in rows of so many columns
abbrev pub offset : ℕ → Side → ℕ
offset c Rightward = 1
offset c Downward = c

-- has the cell u a neighbour on the side?
abbrev pub has_neighbour : Shape → ℕ → Side → Bool
has_neighbour s u Rightward = nat_lt (u % s.columns + 1) s.columns
has_neighbour s u Downward = nat_lt (u + s.columns) (cells s)

-- the number of that neighbour
abbrev pub neighbour : Shape → ℕ → Side → ℕ
neighbour s u Rightward = u + 1
neighbour s u Downward = u + s.columns

-- the neighbour of a cell that may lie outside the shape
abbrev pub neighbour_within : Shape → ℕ → Side → Option ℕ
neighbour_within s u d = cond (nat_lt u (cells s) && has_neighbour s u d) (Some (neighbour s u d)) None

-- a tie, told apart by the cell whose record stores it and the side
pub record Tie : Type 0 where
  pub cell : ℕ
  pub side : Side

-- the tie on a side of the cell u, where there is one
abbrev pub tie_on : Shape → ℕ → Side → List Tie
tie_on s u d = cond (has_neighbour s u d) (record { cell = u; side = d } ∷ []) []

-- the ties that the record of the cell u stores, side by side
abbrev pub ties_of : Shape → ℕ → List Tie
ties_of s u = flat_map (tie_on s u) sides

-- the ties that the records of the first n cells store, cell by cell
abbrev pub ties_below : Shape → ℕ → List Tie
ties_below s zero = []
ties_below s (suc u) = ties_below s u ++ ties_of s u

-- all ties of a shape
abbrev pub ties : Shape → List Tie
ties s = ties_below s (cells s)

-- the cells and ties of a shape, with the weight that w gives to the tie on each side of each cell
abbrev pub graph : Shape → (ℕ → Side → ℕ) → Graph Tie
graph s w = record { cells = cells s; ties = ties s; near = λ x. x.cell; far = λ x. neighbour s x.cell x.side; weight = λ x. w x.cell x.side }

-- ---- theorem

abbrev pub TiesJoinCells : Type 0
TiesJoinCells = (s : Shape) (w : ℕ → Side → ℕ) → Proper (graph s w)
