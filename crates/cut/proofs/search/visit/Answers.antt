use Rattle.std.proofs.Common.{◌≡◌, Some, ◌∙◌, rules}
use Rattle.cut.proofs.Visiting.{goes_none, goes_put}
use Rattle.cut.proofs.search.visit.Goals as goal

pub returns-then-eq : goal.returns-then-eq
returns-then-eq g c =
    let e : c.args.from ≡ Some c.args.toward = search rules in
    goes_none _ _ _ _ _ _ _ (λ b _. b c.args.toward e)

pub returns-in_default : goal.returns-in_default
returns-in_default g c = goes_none _ _ _ _ _ _ _ (λ _. c.in_default.ensures)

pub returns : goal.returns
returns g c = goes_put _ _ _ _ _ _ _ _ _ _ _ _ _ c.in-Some.ensures c.put_rank.ensures.rows c.saturating_sub-rank.ensures c.put_rank.ensures.ranked c.enqueue.ensures c.reached.ensures.cell (λ h e. c.reached.ensures.back h e ∙ c.opposite.ensures)
