use Rattle.cut.specs.declared.entry.Step.{Step}
use Rattle.cut.proofs.Relabeling.{eases_trans, eases_moved, eases_leveled}
use Rattle.cut.proofs.augmenting_paths.serve.Goals as goal

pub returns-then-flows-u-gt0 : goal.returns-then-flows-u-gt0
returns-then-flows-u-gt0 c =
    let v = c.visit_all.ensures in
    eases_trans (λ (s : Step). s.cell) _ _ _ _ _ _ (eases_moved (λ (s : Step). s.cell) _ _ _ c.push_paths-left.ensures) (eases_leveled (λ (s : Step). s.cell) _ _ _ _ v.level v.inside)
