use Rattle.std.proofs.Common.{◌-◌, ◌<◌, length}
use Rattle.flow.specs.Sides.{InSurplus, Eased}
use Rattle.cut.specs.Ranks.{rank_of}
use Rattle.cut.specs.Lent.{InPlace}
use Rattle.cut.specs.Climbs.{Above}
use Rattle.cut.proofs.climb.climb.Given as goal

abbrev pub invariant-loop-u : goal.invariant-loop-u
invariant-loop-u l = record {
  eased : InPlace Eased l.initial.flows l.flows;
  place : l.v < length l.flows.tile.now;
  surplus : InSurplus l.flows.tile.now l.flows.columns l.v;
  above : Above l.initial.flows.columns l.initial.flows.tile.now (rank_of l.initial.flows.tile.now l.from) → Above l.flows.columns l.flows.tile.now (rank_of l.flows.tile.now l.v);
}

abbrev pub decreases-loop-u : goal.decreases-loop-u
decreases-loop-u l = 65536 - rank_of l.flows.tile.now l.v
