use Rattle.std.proofs.Common.{◌≡◌, ℕ, ◌<◌}
use Rattle.flow.specs.Sides.{SameFlows}
use Rattle.cut.specs.Ranks.{rank_of}
use Rattle.cut.proofs.ranks.clear_ranks.Given as goal

abbrev pub invariant-loop-cell : goal.invariant-loop-cell
invariant-loop-cell l = record { level : SameFlows l.initial.tile l.tile; none : (b : ℕ) → b < l.cell-index → rank_of l.tile b ≡ 0 }
