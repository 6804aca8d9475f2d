use Rattle.solve.proofs.Steps.{closed}
use Rattle.solve.proofs.solving.finish_rounds.Goals as goal

pub returns : goal.returns
returns c = closed c.args.rounding c.args.tile.now c.finish.result c.unwrap.result c.requires c.finish.ensures.does c.finish.ensures.goes_on c.unwrap.ensures
