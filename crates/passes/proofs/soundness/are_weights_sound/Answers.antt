use Rattle.std.proofs.lemmas.Bool.{both_ways}
use Rattle.tile.specs.declared.side.Side.TheVariants.{Rightward, Downward}
use Rattle.passes.proofs.Sounds.{both_weights}
use Rattle.passes.proofs.soundness.are_weights_sound.Goals as goal

pub returns-then-is_weight_sound : goal.returns-then-is_weight_sound
returns-then-is_weight_sound c = (
  λ e. both_weights c.args.cell.now c.args.right c.args.below (c.is_weight_sound.ensures.0 c.if-is_weight_sound.true) (c.is_weight_sound-then-is_weight_sound.ensures.0 e),
  λ k. c.is_weight_sound-then-is_weight_sound.ensures.1 (k Downward),
)

pub returns-else-is_weight_sound : goal.returns-else-is_weight_sound
returns-else-is_weight_sound c = (λ e. absurd (both_ways c.is_weight_sound.result c.if-is_weight_sound.false e), λ k. c.is_weight_sound.ensures.1 (k Rightward))
