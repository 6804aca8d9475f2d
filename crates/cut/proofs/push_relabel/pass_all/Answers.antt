use Rattle.cut.proofs.Lent.{eased_then}
use Rattle.cut.proofs.push_relabel.pass_all.Goals as goal

pub loop-v-preserved-then-v-flows : goal.loop-v-preserved-then-v-flows
loop-v-preserved-then-v-flows c = eased_then _ _ _ c.loop-v.invariant c.pass_on.ensures
