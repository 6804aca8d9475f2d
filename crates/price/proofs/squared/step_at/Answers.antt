use Rattle.std.proofs.Common.{arith}
use Rattle.price.proofs.Steps.{squared_step}
use Rattle.price.proofs.squared.step_at.Goals as goal

pub returns-else-asked : goal.returns-else-asked
returns-else-asked c = grind (arith, squared_step c.args.asked.reading c.args.asked.class c.args.asked.height)
