use Rattle.solve.proofs.Steps.{opened}
use Rattle.solve.proofs.solving.begin_rounds.Goals as goal

pub returns : goal.returns
returns c = opened c.args.draft c.args.tile.now c.begin.result c.unwrap.result c.requires c.begin.ensures.does c.begin.ensures.goes_on c.unwrap.ensures
