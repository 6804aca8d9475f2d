use Rattle.std.proofs.Common.{arith}
use Rattle.cut.proofs.Settling.{eased_settled}
use Rattle.cut.proofs.makers.settle.Goals as goal

pub sweep_all-requires : goal.sweep_all-requires
sweep_all-requires g c = omega (arith, c.pair_up.ensures.holds.still.long, c.requires)

pub returns : goal.returns
returns g c = eased_settled _ _ _ c.pair_up.ensures c.sweep_all.ensures
