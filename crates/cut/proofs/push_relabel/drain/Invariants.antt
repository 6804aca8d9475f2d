use Rattle.flow.specs.Sides.{Eased}
use Rattle.cut.specs.Lent.{InPlace}
use Rattle.cut.specs.Searches.{AllInside}
use Rattle.cut.proofs.push_relabel.drain.Given as goal

abbrev pub invariant-loop : goal.invariant-loop
invariant-loop l = record { eased : InPlace Eased l.initial.flows l.flows; inside : AllInside (λ x. x) l.flows.tile.now l.queue }
