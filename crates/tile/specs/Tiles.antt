-- Tiles, what they survey, and the problem that a survey poses under a price rule.
use Rattle.std.specs.Prelude.{ℕ, List, pos, slice_index_or}
use Rattle.price.specs.Rules.{Rule, priced}
use Rattle.theory.specs.Grids.{Heights, Problem}
use Rattle.tile.specs.declared.cell.Cell.{Cell}
use Rattle.tile.specs.declared.shape.Shape.{Shape}
use Rattle.tile.specs.declared.side.Side.{Side}
use Rattle.tile.specs.Records.{stored_tie}
use Rattle.tile.specs.Ties.{Tie, graph}

-- the records of the cells, in the order of their numbers
abbrev pub Tile : Type 0
Tile = List Cell

-- a record of zeros
abbrev pub blank : Cell
blank =
    record { reading = 0; class = 0; right = 0; down = 0; right_flow = pos 0; down_flow = pos 0; low = 0; high = 0; charge = pos 0; mark = 0; rank = 0 }

-- the record of the cell u; blank where there is none
abbrev pub cell : Tile → ℕ → Cell
cell t u = slice_index_or t u blank

-- what was surveyed: the reading and the class of each cell, and the weight of the tie on each side of it
pub record Survey : Type 0 where
  pub reading : ℕ → ℕ
  pub class : ℕ → ℕ
  pub tie : ℕ → Side → ℕ

-- the survey that the records hold
abbrev pub survey : Tile → Survey
survey t = record { reading = λ u. (cell t u).reading; class = λ u. (cell t u).class; tie = λ u d. stored_tie (cell t u) d }

-- the heights that the records hold: the low end of each cell
abbrev pub heights : Tile → Heights
heights t u = (cell t u).low

-- heights up to the shape's top, priced by the rule, over the shape's ties
abbrev pub problem : Rule → Shape → Survey → Problem Tie
problem rule s y = record { graph = graph s y.tie; top = s.top; price = λ u k. priced rule (y.reading u) (y.class u) k }
