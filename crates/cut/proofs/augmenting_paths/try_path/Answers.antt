use Rattle.cut.proofs.Lent.{eased_then}
use Rattle.cut.proofs.augmenting_paths.try_path.Goals as goal

pub returns : goal.returns
returns c = eased_then _ _ _ c.clear_way-left.ensures c.push_on.ensures
