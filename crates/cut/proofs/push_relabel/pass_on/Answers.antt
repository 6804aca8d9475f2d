use Rattle.cut.proofs.Lent.{eased_four}
use Rattle.cut.proofs.push_relabel.pass_on.Goals as goal

pub returns-then-is_ranked_surplus : goal.returns-then-is_ranked_surplus
returns-then-is_ranked_surplus c = eased_four _ _ _ _ _ c.pass.ensures c.pass-then-is_ranked_surplus.ensures c.pass-then-is_ranked_surplus-2.ensures c.pass-then-is_ranked_surplus-3.ensures
