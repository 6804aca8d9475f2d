use Rattle.cut.proofs.Relabeling.{eases_more}
use Rattle.cut.proofs.push_relabel.draw.Goals as goal

pub returns-then-in_surplus : goal.returns-then-in_surplus
returns-then-in_surplus c = eases_more (λ x. x) _ _ _ _ _ _ c.send.ensures.rows c.send.ensures.sent.eased c.in-Some.ensures.inside c.enqueue.ensures
