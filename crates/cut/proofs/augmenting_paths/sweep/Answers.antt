use Rattle.cut.specs.declared.entry.Step.{Step}
use Rattle.cut.proofs.Lent.{leveled_trans, leveled_eased, eased_relieved, relieved_eased}
use Rattle.cut.proofs.Visiting.{inside_kept}
use Rattle.cut.proofs.Settling.{swept_none, swept_met}
use Rattle.cut.proofs.augmenting_paths.sweep.Goals as goal

pub returns-in_default : goal.returns-in_default
returns-in_default c = swept_none _ _ (leveled_trans _ _ _ c.start_search.ensures.level c.in_default.ensures.level) c.in_default.ensures.sought.0 c.in_default.ensures.sought.1

pub go_on-requires-clause-inside : goal.go_on-requires-clause-inside
go_on-requires-clause-inside c = inside_kept (λ (s : Step). s.cell) (λ (s : Step). s.side) _ _ _ c.push_path.ensures.eased.holds.still.long c.in-Some.ensures.inside

pub returns : goal.returns
returns c =
    let so = c.in-Some.ensures.sought in
    let first = leveled_eased _ _ (leveled_trans _ _ _ c.start_search.ensures.level c.in-Some.ensures.level) in
    swept_met _ _ (relieved_eased _ _ _ (eased_relieved _ _ _ first (c.push_path.ensures.fewer so.1 so.2)) c.go_on.ensures)
