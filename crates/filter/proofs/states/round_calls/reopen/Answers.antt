use Rattle.std.proofs.Common.{refl}
use Rattle.limits.proofs.Outcomes.{unrefused}
use Rattle.filter.proofs.states.round_calls.reopen.Goals as goal

pub returns : goal.returns
returns g c =
    unrefused (unrefused (λ _. record { draft = c.args.draft; answers = refl; shape = refl; writes = c.reset_draft.ensures })) c.in_default.ensures
