use Rattle.flow.specs.Sides.{Eased}
use Rattle.cut.specs.declared.entry.Step.{Step}
use Rattle.cut.specs.Lent.{InPlace}
use Rattle.cut.specs.Searches.{AllInside}
use Rattle.cut.proofs.augmenting_paths.go_on.Given as goal

abbrev pub invariant-loop : goal.invariant-loop
invariant-loop l = record { eased : InPlace Eased l.fn.flows l.flows; inside : AllInside (λ (s : Step). s.cell) l.flows.tile.now l.queue }
