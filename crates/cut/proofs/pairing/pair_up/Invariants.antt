use Rattle.flow.specs.Sides.{Eased}
use Rattle.cut.specs.Lent.{InPlace}
use Rattle.cut.proofs.pairing.pair_up.Given as goal

abbrev pub invariant-loop-u : goal.invariant-loop-u
invariant-loop-u l = InPlace Eased l.initial.flows l.flows
