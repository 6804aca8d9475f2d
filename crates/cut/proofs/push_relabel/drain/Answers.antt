use Rattle.std.proofs.Common.{None}
use Rattle.cut.proofs.Lent.{eased_then}
use Rattle.cut.proofs.Visiting.{inside_kept, inside_rest}
use Rattle.cut.proofs.push_relabel.drain.Goals as goal

pub loop-preserved : goal.loop-preserved
loop-preserved c =
    let e = c.relieve.ensures in
    let i = e.inside (inside_rest (λ x. x) (λ _. None) c.loop.flows.tile.now _ _ _ c.in-Some.ensures c.loop.invariant.inside).1 in
    record {
      eased = eased_then _ _ _ c.loop.invariant.eased (record { rows = e.rows; holds = e.eased });
      inside = inside_kept (λ x. x) (λ _. None) _ _ _ e.eased.still.long i;
    }
