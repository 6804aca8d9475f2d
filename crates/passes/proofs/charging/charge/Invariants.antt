use Rattle.passes.proofs.Charges.{ChargedBelow}
use Rattle.passes.proofs.charging.charge.Given as goal

abbrev pub invariant-loop-at : goal.invariant-loop-at
invariant-loop-at g l = ChargedBelow (g.P.PriceRule.rule l.rule) l.shape l.initial.tile l.at l.tile
