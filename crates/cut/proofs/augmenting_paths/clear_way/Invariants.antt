use Rattle.std.proofs.Common.{◌<◌, length}
use Rattle.flow.specs.Sides.{Eased}
use Rattle.cut.specs.Lent.{InPlace}
use Rattle.cut.proofs.augmenting_paths.clear_way.Given as goal

abbrev pub invariant-loop-left : goal.invariant-loop-left
invariant-loop-left l = record { eased : InPlace Eased l.initial.flows l.flows; place : l.from < length l.flows.tile.now }
