use Rattle.std.proofs.Common.{arith}
use Rattle.tile.proofs.Halves.{digits_due}
use Rattle.tile.proofs.bracket.rounds_due.Goals as goal

pub returns : goal.returns
returns c = digits_due c.args.top c.digits.result (omega arith) c.digits.ensures
