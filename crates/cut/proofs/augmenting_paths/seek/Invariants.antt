use Rattle.cut.specs.declared.entry.Step.{Step}
use Rattle.cut.specs.Searches.{load, spots}
use Rattle.cut.proofs.Visiting.{Seeking}
use Rattle.cut.proofs.augmenting_paths.seek.Given as goal

abbrev pub invariant-loop-cell : goal.invariant-loop-cell
invariant-loop-cell l = Seeking (λ (s : Step). s.cell) (λ (s : Step). s.side) l.initial.flows l.flows l.queue

abbrev pub decreases-loop-cell : goal.decreases-loop-cell
decreases-loop-cell l = load l.flows.tile.now (spots (λ (s : Step). s.cell) l.queue)
