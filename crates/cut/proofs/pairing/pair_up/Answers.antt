use Rattle.cut.proofs.Lent.{eased_then}
use Rattle.cut.proofs.pairing.pair_up.Goals as goal

pub loop-u-preserved : goal.loop-u-preserved
loop-u-preserved c = eased_then _ _ _ c.loop-u.invariant c.give_all.ensures
