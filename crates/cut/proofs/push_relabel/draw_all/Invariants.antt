use Rattle.cut.specs.Searches.{Eases}
use Rattle.cut.proofs.push_relabel.draw_all.Given as goal

abbrev pub invariant-loop-toward : goal.invariant-loop-toward
invariant-loop-toward l = Eases (λ x. x) l.initial.flows l.flows l.initial.queue l.queue
