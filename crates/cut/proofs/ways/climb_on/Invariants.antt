use Rattle.std.proofs.Common.{◌<◌, length}
use Rattle.flow.specs.Sides.{Eased}
use Rattle.cut.specs.Lent.{InPlace}
use Rattle.cut.proofs.ways.climb_on.Given as goal

abbrev pub invariant-loop : goal.invariant-loop
invariant-loop l = record { eased : InPlace Eased l.initial.flows l.flows; place : l.v < length l.flows.tile.now }
