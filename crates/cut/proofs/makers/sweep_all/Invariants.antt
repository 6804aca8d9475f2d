use Rattle.std.proofs.Common.{◌≤◌, length}
use Rattle.flow.specs.Sides.{Eased, total_lack}
use Rattle.cut.specs.Lent.{InPlace}
use Rattle.cut.proofs.makers.sweep_all.Given as goal

abbrev pub invariant-loop : goal.invariant-loop
invariant-loop g l = record { eased : InPlace Eased l.initial.flows l.flows; rooms : length l.flows.tile.now ≤ length l.work }

abbrev pub decreases-loop : goal.decreases-loop
decreases-loop g l = total_lack l.flows.tile.now l.flows.columns
