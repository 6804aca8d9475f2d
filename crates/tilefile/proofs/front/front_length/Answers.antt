use Rattle.std.proofs.Common.{arith}
use Rattle.tilefile.proofs.Bounded.{front_suffices, none_longer}
use Rattle.tilefile.proofs.front.front_length.Goals as goal

pub returns-clause-none_longer : goal.returns-clause-none_longer
returns-clause-none_longer c = none_longer _ c.args.records (omega (arith, c.min-cells.ensures))

pub returns-clause-tells : goal.returns-clause-tells
returns-clause-tells c = front_suffices _ c.args.records (omega (arith, c.min-cells.ensures))
