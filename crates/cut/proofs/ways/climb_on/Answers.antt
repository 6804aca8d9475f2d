use Rattle.std.proofs.Common.{arith}
use Rattle.cut.proofs.Lent.{eased_then}
use Rattle.cut.proofs.ways.climb_on.Goals as goal

pub returns-then-deficit : goal.returns-then-deficit
returns-then-deficit c = eased_then _ _ _ c.loop.invariant.eased (record { rows = c.send.ensures.rows; holds = c.send.ensures.sent.eased })

pub loop-preserved : goal.loop-preserved
loop-preserved c = record {
  eased = eased_then _ _ _ c.loop.invariant.eased (record { rows = c.send.ensures.rows; holds = c.send.ensures.sent.eased });
  place = omega (arith, c.in-Some.ensures, c.send.ensures.sent.eased.still.long);
}
