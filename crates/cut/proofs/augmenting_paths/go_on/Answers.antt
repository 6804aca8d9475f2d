use Rattle.cut.specs.declared.entry.Step.{Step}
use Rattle.cut.proofs.Lent.{eased_then}
use Rattle.cut.proofs.Visiting.{inside_kept, inside_rest}
use Rattle.cut.proofs.augmenting_paths.go_on.Goals as goal

pub loop-init : goal.loop-init
loop-init c =
    let e = c.serve-left.ensures in
    record {
      eased = record { rows = e.rows; holds = e.eased };
      inside = inside_kept (λ (s : Step). s.cell) (λ (s : Step). s.side) _ _ _ e.eased.still.long (e.inside c.requires.inside);
    }

pub loop-preserved : goal.loop-preserved
loop-preserved c =
    let inv = c.loop.invariant in
    let e = c.serve-left-in-loop.ensures in
    let rest = (inside_rest (λ (s : Step). s.cell) (λ (s : Step). s.side) c.loop.flows.tile.now _ _ _ c.in-Some.ensures inv.inside).1 in
    record {
      eased = eased_then _ _ _ inv.eased (record { rows = e.rows; holds = e.eased });
      inside = inside_kept (λ (s : Step). s.cell) (λ (s : Step). s.side) _ _ _ e.eased.still.long (e.inside rest);
    }
