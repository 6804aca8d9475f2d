use Rattle.std.proofs.Common.{ℕ, ◌<◌, get_or}
use Rattle.flow.specs.declared.direction.Direction.TheVariants.{Right}
use Rattle.cut.specs.Climbs.{Higher}
use Rattle.cut.proofs.climb.higher.Given as goal

abbrev pub invariant-loop-toward : goal.invariant-loop-toward
invariant-loop-toward l = (k : ℕ) → k < l.toward-index → Higher l.flows.columns l.flows.tile.now l.v (get_or l.toward-items k Right) → ⊥
