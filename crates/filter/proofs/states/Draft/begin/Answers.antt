use Rattle.std.proofs.Common.{refl}
use Rattle.limits.proofs.Outcomes.{unrefused}
use Rattle.filter.proofs.Keeps.{every_run}
use Rattle.filter.proofs.Joining.{begin_met}
use Rattle.filter.proofs.states.Draft.begin.Goals as goal

pub returns-in-Err-clause-law : goal.returns-in-Err-clause-law
returns-in-Err-clause-law c = every_run

pub returns : goal.returns
returns c =
    begin_met c.args.self c.args.tile.now _
    (unrefused (unrefused (λ _. record { rounding = c.no_round_done.result; answers = refl; shape = c.no_round_done.ensures.shape; done = c.no_round_done.ensures.done })) c.in_default.ensures)
