use Rattle.std.proofs.lemmas.Bool.{both_ways}
use Rattle.tile.specs.declared.side.Side.TheVariants.{Rightward, Downward}
use Rattle.passes.specs.Writing.{weights}
use Rattle.passes.proofs.Sounds.{both_sound}
use Rattle.passes.proofs.soundness.are_ties_sound.Goals as goal

pub returns-then-is_tie_sound : goal.returns-then-is_tie_sound
returns-then-is_tie_sound c = (
  λ e. both_sound c.args.shape c.args.at (weights c.args.right c.args.down) (c.is_tie_sound.ensures.0 c.if-is_tie_sound.true) (c.is_tie_sound-then-is_tie_sound.ensures.0 e),
  λ k. c.is_tie_sound-then-is_tie_sound.ensures.1 (k Downward),
)

pub returns-else-is_tie_sound : goal.returns-else-is_tie_sound
returns-else-is_tie_sound c = (λ e. absurd (both_ways c.is_tie_sound.result c.if-is_tie_sound.false e), λ k. c.is_tie_sound.ensures.1 (k Rightward))
