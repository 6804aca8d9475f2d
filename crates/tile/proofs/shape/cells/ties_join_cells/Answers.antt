use Rattle.tile.proofs.Joins.{ties_join_cells}
use Rattle.tile.proofs.shape.cells.ties_join_cells.Goals as goal

pub returns : goal.returns
returns c = ties_join_cells
