use Rattle.std.proofs.Common.{None}
use Rattle.cut.specs.Searches.{load, spots}
use Rattle.cut.proofs.Visiting.{Turning}
use Rattle.cut.proofs.push_relabel.rank_all.Given as goal

abbrev pub invariant-loop-cell : goal.invariant-loop-cell
invariant-loop-cell l = Turning (λ x. x) (λ _. None) l.fn.flows l.flows l.queue

abbrev pub decreases-loop-cell : goal.decreases-loop-cell
decreases-loop-cell l = load l.flows.tile.now (spots (λ x. x) l.queue)
