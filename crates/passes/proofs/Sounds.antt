-- What sound records have.
use Rattle.std.proofs.Common.{ℕ, ◌≤◌, Bool, length, sym, subst}
use Rattle.tile.specs.declared.bracket.Bracket.{Bracket}
use Rattle.tile.specs.declared.cell.Cell.{Cell}
use Rattle.tile.specs.declared.shape.Shape.{Shape}
use Rattle.tile.specs.declared.side.Side.{Side}
use Rattle.tile.specs.declared.side.Side.TheVariants.{Rightward, Downward}
use Rattle.tile.specs.Records.{stored_tie}
use Rattle.tile.specs.Shapes.{cells}
use Rattle.tile.specs.Tiles.{Tile}
use Rattle.tile.proofs.Halves.{halving_below}
use Rattle.passes.specs.Soundness.{SoundTie, SoundTies, SoundBracket, SoundWeight, Sound, by_side}
use Rattle.passes.specs.Rounds.{Chargeable}

-- both sides sound, and each of them
pub both_sound : (s : Shape) (u : ℕ) (w : Side → ℕ) → SoundTie s u Rightward (w Rightward) → SoundTie s u Downward (w Downward) → SoundTies s u w
both_sound s u w r d Rightward = r
both_sound s u w r d Downward = d

-- the ties that a record stores, and each of them
pub both_weights : (c : Cell) (right below : Bool) → SoundWeight right c.right → SoundWeight below c.down → (d : Side) → SoundWeight (by_side right below d) (stored_tie c d)
both_weights c right below r d Rightward = r
both_weights c right below r d Downward = d

-- the high end of a sound bracket is a height too
pub sound_high : (top done : ℕ) (b : Bracket) → SoundBracket top done b → b.high ≤ top
sound_high top done b k = subst (λ (z : Bracket). z.high ≤ top) (sym k.halved) (halving_below done top b.low k.height)

-- sound records can be charged
pub sound_chargeable : (s : Shape) (done : ℕ) (t : Tile) → cells s ≤ length t → Sound s done t → Chargeable s t
sound_chargeable s done t whole k = record {
  whole = whole;
  readings = λ u l. (k u l).reading.reading;
  classes = λ u l. (k u l).reading.class;
  ties = λ u l. (k u l).ties;
  lows = λ u l. (k u l).bracket.height;
  highs = λ u l. sound_high s.top done _ (k u l).bracket;
}
