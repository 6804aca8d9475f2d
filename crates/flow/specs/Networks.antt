-- A tile as a network: its live ties, its charges, and the flow that its records store.
use Rattle.std.specs.Prelude.{ℕ, Bool, ◌&&◌, ◌==◌}
use Rattle.theory.specs.Graphs.{Graph}
use Rattle.theory.specs.Sets.{CellSet, Charges}
use Rattle.theory.specs.Flows.{Flow}
use Rattle.theory.specs.Brackets.{Brackets, live, live_graph}
use Rattle.tile.specs.declared.shape.Shape.{Shape}
use Rattle.tile.specs.declared.side.Side.{Side}
use Rattle.tile.specs.Records.{stored_flow}
use Rattle.tile.specs.Ties.{Tie, has_neighbour, graph}
use Rattle.tile.specs.Tiles.{Tile, cell, survey}

-- the brackets of the cells
abbrev pub brackets : Tile → Brackets
brackets t = record { low = λ u. (cell t u).low; high = λ u. (cell t u).high }

-- the charges of the cells
abbrev pub charges : Tile → Charges
charges t u = (cell t u).charge

-- the flow over each tie, away from the cell whose record stores it
abbrev pub flow_on : Tile → Flow Tie
flow_on t x = stored_flow (cell t x.cell) x.side

-- the ties of the shape, with the weights that the records store
abbrev pub weighted : Shape → Tile → Graph Tie
weighted s t = graph s (survey t).tie

-- the live ties alone
abbrev pub network : Shape → Tile → Graph Tie
network s t = live_graph (weighted s t) (brackets t)

-- has the cell u a live tie on the side?
abbrev pub is_live : Shape → Tile → ℕ → Side → Bool
is_live s t u d = has_neighbour s u d && live (weighted s t) (brackets t) (record { cell = u; side = d })

-- the marked cells
abbrev pub marks : Tile → CellSet
marks t u = (cell t u).mark == 1
