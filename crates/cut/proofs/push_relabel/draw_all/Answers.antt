use Rattle.cut.proofs.Relabeling.{eases_trans}
use Rattle.cut.proofs.push_relabel.draw_all.Goals as goal

pub loop-toward-preserved : goal.loop-toward-preserved
loop-toward-preserved c = eases_trans (λ x. x) _ _ _ _ _ _ c.loop-toward.invariant c.draw.ensures
