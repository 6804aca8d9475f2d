use Rattle.filter.proofs.Joining.{reopen_level_met}
use Rattle.filter.proofs.states.Level.reopen.Goals as goal

pub returns : goal.returns
returns c = reopen_level_met c.args.self c.args.tile.now _ _ c.reopen.ensures
