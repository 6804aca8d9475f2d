use Rattle.std.proofs.Common.{arith}
use Rattle.cut.proofs.Lent.{eased_then}
use Rattle.cut.proofs.Settling.{relieved_is_eased, settled_swept, relieved_swept}
use Rattle.cut.proofs.makers.sweep_all.Goals as goal

pub returns : goal.returns
returns g c = settled_swept _ _ _ _ c.loop.invariant.eased c.sweep.ensures c.loop-test.false

pub loop-preserved : goal.loop-preserved
loop-preserved g c =
    let e = relieved_is_eased _ _ (relieved_swept _ _ _ c.sweep.ensures c.loop-test.true) in
    record { eased = eased_then _ _ _ c.loop.invariant.eased e; rooms = omega (arith, e.holds.still.long, c.loop.invariant.rooms) }
