use Rattle.flow.specs.Sides.{Eased}
use Rattle.cut.specs.Lent.{InPlace}
use Rattle.cut.proofs.augmenting_paths.push_paths.Given as goal

abbrev pub invariant-loop : goal.invariant-loop
invariant-loop l = InPlace Eased l.initial.flows l.flows
