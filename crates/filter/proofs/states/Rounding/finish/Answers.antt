use Rattle.std.proofs.Common.{refl}
use Rattle.limits.proofs.Outcomes.{unrefused}
use Rattle.filter.proofs.Keeps.{every_run}
use Rattle.filter.proofs.Joining.{finish_met}
use Rattle.filter.proofs.states.Rounding.finish.Goals as goal

pub returns-in-Err-clause-law : goal.returns-in-Err-clause-law
returns-in-Err-clause-law c = every_run

pub returns : goal.returns
returns c =
    finish_met c.args.self c.args.tile.now _
    (unrefused (unrefused (unrefused (λ _. record { level = _; answers = refl; shape = refl; done = refl }))) c.in_default.ensures)
