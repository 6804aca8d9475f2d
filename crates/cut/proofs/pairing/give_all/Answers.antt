use Rattle.cut.proofs.Lent.{eased_four}
use Rattle.cut.proofs.pairing.give_all.Goals as goal

pub returns-then-up-left : goal.returns-then-up-left
returns-then-up-left c = eased_four _ _ _ _ _ c.give_if.ensures c.give_if-then-up-left.ensures c.give_if-then-up-left-2.ensures c.give_if-then-up-left-3.ensures
