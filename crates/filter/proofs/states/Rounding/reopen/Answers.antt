use Rattle.filter.proofs.Joining.{reopen_rounding_met}
use Rattle.filter.proofs.states.Rounding.reopen.Goals as goal

pub returns : goal.returns
returns c = reopen_rounding_met c.args.self c.args.tile.now _ _ c.reopen.ensures
