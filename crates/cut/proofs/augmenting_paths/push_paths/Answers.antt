use Rattle.cut.proofs.Lent.{eased_then}
use Rattle.cut.proofs.augmenting_paths.push_paths.Goals as goal

pub loop-preserved : goal.loop-preserved
loop-preserved c = eased_then _ _ _ c.loop.invariant c.try_path-left.ensures
