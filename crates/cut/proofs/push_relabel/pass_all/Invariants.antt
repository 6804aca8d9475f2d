use Rattle.flow.specs.Sides.{Eased}
use Rattle.cut.specs.Lent.{InPlace}
use Rattle.cut.proofs.push_relabel.pass_all.Given as goal

abbrev pub invariant-loop-v : goal.invariant-loop-v
invariant-loop-v l = InPlace Eased l.initial.flows l.flows
