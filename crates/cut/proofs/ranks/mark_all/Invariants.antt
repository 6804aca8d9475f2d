use Rattle.std.proofs.Common.{◌≡◌, ℕ, ◌<◌}
use Rattle.flow.specs.Sides.{SameFlows}
use Rattle.cut.specs.Ranks.{rank_of, mark_of}
use Rattle.cut.proofs.ranks.mark_all.Given as goal

abbrev pub invariant-loop-cell : goal.invariant-loop-cell
invariant-loop-cell l = record {
  level : SameFlows l.initial.tile l.tile;
  ranks : (b : ℕ) → rank_of l.tile b ≡ rank_of l.initial.tile b;
  ones : (b : ℕ) → b < l.cell-index → 0 < rank_of l.initial.tile b → mark_of l.tile b ≡ 1;
  zeros : (b : ℕ) → b < l.cell-index → rank_of l.initial.tile b ≡ 0 → mark_of l.tile b ≡ 0;
}
