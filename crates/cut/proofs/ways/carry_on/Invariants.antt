use Rattle.std.proofs.Common.{◌<◌, length}
use Rattle.cut.proofs.ways.carry_on.Given as goal

abbrev pub invariant-loop : goal.invariant-loop
invariant-loop l = l.v < length l.flows.tile.now
