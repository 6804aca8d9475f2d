use Rattle.std.proofs.Common.{length}
use Rattle.passes.specs.Writing.{reset}
use Rattle.passes.proofs.Rewrites.{PartRewritten}
use Rattle.passes.proofs.writing.reset.Given as goal

abbrev pub invariant-loop-cell : goal.invariant-loop-cell
invariant-loop-cell l = PartRewritten (reset l.shape.top) (length l.initial.cell-items) l.fn.tile l.cell-index l.cell-items
