use Rattle.cut.specs.Searches.{AllInside}
use Rattle.cut.proofs.push_relabel.collect.Given as goal

abbrev pub invariant-loop-u : goal.invariant-loop-u
invariant-loop-u l = AllInside (λ x. x) l.flows.tile.now l.queue
