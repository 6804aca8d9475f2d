use Rattle.cut.proofs.Reaches.{cut_done}
use Rattle.cut.proofs.makers.cut_whole.Goals as goal

pub returns : goal.returns
returns g c = cut_done _ _ _ _ c.settle_whole.ensures c.mark_all.ensures
