use Rattle.std.proofs.Common.{None}
use Rattle.cut.proofs.Visiting.{turning_on}
use Rattle.cut.proofs.push_relabel.rank_all.Goals as goal

pub loop-cell-preserved : goal.loop-cell-preserved
loop-cell-preserved c = turning_on (λ x. x) (λ _. None) _ _ _ _ _ _ _ c.loop-cell.invariant c.in-Some.ensures c.visit_all.ensures
