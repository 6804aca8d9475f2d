use Rattle.std.proofs.Common.{◌≡◌, take}
use Rattle.tile.specs.Shapes.{cells}
use Rattle.solve.specs.Solving.{PastKept}
use Rattle.solve.specs.Surveying.{sampled, WrittenTo}
use Rattle.solve.proofs.surveying.write_samples.Given as goal

abbrev pub invariant-loop-cell : goal.invariant-loop-cell
invariant-loop-cell l = record {
  same : l.state ≡ l.initial.state;
  past : PastKept (cells l.initial.state.shape) l.initial.tile l.tile;
  written : WrittenTo l.initial.state l.tile (sampled (take l.cell l.samples));
}
