use Rattle.std.proofs.Common.{◌-◌, ◌<◌, ◌≤◌, length, pos, nat_abs, ◌<ℤ◌}
use Rattle.flow.specs.Sides.{InDeficit}
use Rattle.cut.specs.Ranks.{rank_of}
use Rattle.cut.proofs.climb.carry.Given as goal

abbrev pub invariant-loop-u : goal.invariant-loop-u
invariant-loop-u l = record {
  place : l.v < length l.flows.tile.now;
  supplied : InDeficit l.flows.tile.now l.flows.columns l.v → ⊥;
  ranks : rank_of l.flows.tile.now l.e ≤ rank_of l.flows.tile.now l.v;
  some : pos 0 <ℤ l.f;
  few : nat_abs l.f ≤ 340000;
}

abbrev pub decreases-loop-u : goal.decreases-loop-u
decreases-loop-u l = 65536 - rank_of l.flows.tile.now l.v
