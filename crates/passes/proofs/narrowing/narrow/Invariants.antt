use Rattle.std.proofs.Common.{length}
use Rattle.passes.specs.Writing.{with_bracket}
use Rattle.passes.specs.Rounds.{half_marked}
use Rattle.passes.proofs.Rewrites.{PartRewritten}
use Rattle.passes.proofs.narrowing.narrow.Given as goal

abbrev pub invariant-loop-cell : goal.invariant-loop-cell
invariant-loop-cell l = PartRewritten (λ x. with_bracket (half_marked x) x) (length l.initial.cell-items) l.fn.tile l.cell-index l.cell-items
