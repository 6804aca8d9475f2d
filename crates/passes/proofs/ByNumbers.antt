-- The examples in numbers, computed.
use Rattle.std.proofs.Common.{◌≡◌, ℕ, ◌≤◌, [], ◌∷◌, refl, ap, arith, true≢false}
use Rattle.limits.specs.Limits.{most_tie}
use Rattle.theory.proofs.ByNumbers.{both}
use Rattle.tile.specs.declared.bracket.Bracket.{Bracket}
use Rattle.tile.specs.declared.cell.Cell.{Cell}
use Rattle.tile.specs.declared.side.Side.{Side}
use Rattle.tile.specs.declared.side.Side.TheVariants.{Rightward, Downward}
use Rattle.tile.specs.Halving.{from_to}
use Rattle.tile.specs.Records.{stored_tie, stored_bracket}
use Rattle.tile.specs.Tiles.{cell}
use Rattle.tile.specs.Examples.{two_in_a_row, first, second}
use Rattle.passes.specs.Soundness.{SoundReading, SoundTies, SoundBracket, SoundCell, Sound}
use Rattle.passes.specs.Writing.{fresh, with_bracket}
use Rattle.passes.specs.Examples.{SoundnessIsRead, TilesAreSound, RecordsAreWritten, RoundsAreRead}

pub soundness : SoundnessIsRead
soundness = record {
  reading_at_top = record { reading = omega arith; class = omega arith };
  reading_above_top = λ r. omega (arith, r.reading);
  class_16 = λ r. omega (arith, r.class);
  greatest_tie = record { few = omega arith; edge = λ e. absurd (true≢false e) };
  tie_too_great = λ t. omega (arith, t.few);
  no_tie_off_the_edge = record { few = omega arith; edge = λ e. refl };
  a_tie_off_the_edge = λ t. omega (arith, t.edge refl);
  lower_half = record { height = omega arith; halved = refl };
  upper_half = record { height = omega arith; halved = refl };
  half_of_the_lower_half = record { height = omega arith; halved = refl };
  no_half = λ b. omega (arith, ap (λ (x : Bracket). x.high) b.halved);
  half_of_another_round = λ b. omega (arith, ap (λ (x : Bracket). x.high) b.halved);
  turned_round = λ done b. omega (arith, b.height);
}

-- the ties of two cells in a row
pub first_ties : (w : Side → ℕ) → w Rightward ≤ most_tie → w Downward ≡ 0 → SoundTies two_in_a_row 0 w
first_ties w few none Rightward = record { few = few; edge = λ e. absurd (true≢false e) }
first_ties w few none Downward = record { few = omega arith; edge = λ e. none }

pub second_ties : (w : Side → ℕ) → w Rightward ≡ 0 → w Downward ≡ 0 → SoundTies two_in_a_row 1 w
second_ties w right down Rightward = record { few = omega arith; edge = λ e. right }
second_ties w right down Downward = record { few = omega arith; edge = λ e. down }

-- two records in a row are sound
two_sound : (done : ℕ) (a b : Cell) → SoundReading 10 a.reading a.class → SoundTies two_in_a_row 0 (stored_tie a) → SoundBracket 10 done (stored_bracket a) →
    SoundReading 10 b.reading b.class → SoundTies two_in_a_row 1 (stored_tie b) → SoundBracket 10 done (stored_bracket b) → Sound two_in_a_row done (a ∷ b ∷ [])
two_sound done a b r t k r' t' k' = both (λ u. SoundCell two_in_a_row done u (cell (a ∷ b ∷ []) u)) (record { reading = r; ties = t; bracket = k }) (record { reading = r'; ties = t'; bracket = k' })

pub sound : TilesAreSound
sound = record {
  fresh_records = two_sound 0 (fresh 10) (fresh 10) (record { reading = omega arith; class = omega arith }) (first_ties (stored_tie (fresh 10)) (omega arith) refl) (record { height = omega arith; halved = refl })
      (record { reading = omega arith; class = omega arith }) (second_ties (stored_tie (fresh 10)) refl refl) (record { height = omega arith; halved = refl });
  put_and_tied = two_sound 0 first second (record { reading = omega arith; class = omega arith }) (first_ties (stored_tie first) (omega arith) refl) (record { height = omega arith; halved = refl })
      (record { reading = omega arith; class = omega arith }) (second_ties (stored_tie second) refl refl) (record { height = omega arith; halved = refl });
  after_a_round = two_sound 1 (with_bracket (from_to 0 5) first) (with_bracket (from_to 6 10) second)
      (record { reading = omega arith; class = omega arith }) (first_ties (stored_tie (with_bracket (from_to 0 5) first)) (omega arith) refl) (record { height = omega arith; halved = refl })
      (record { reading = omega arith; class = omega arith }) (second_ties (stored_tie (with_bracket (from_to 6 10) second)) refl refl) (record { height = omega arith; halved = refl });
  not_after_two = λ s. omega (arith, ap (λ (x : Bracket). x.high) (s 0 (omega arith)).bracket.halved);
  blank_records_are_not = λ s. omega (arith, ap (λ (x : Bracket). x.high) (s 0 (omega arith)).bracket.halved);
}

pub written : RecordsAreWritten
written = record {
  fresh_record = refl;
  reset_record = refl;
  reading_put = refl;
  ties_put = refl;
  bracket_put = refl;
  recharged_record = refl;
  first_record_alone = refl;
}

pub rounds : RoundsAreRead
rounds = record {
  charge_of_the_first_cell = refl;
  charge_of_the_second_cell = refl;
  charged_tile = refl;
  half_of_the_first_cell = refl;
  half_of_the_second_cell = refl;
  narrowed_tile = refl;
  second_charge_of_the_first_cell = refl;
  second_charge_of_the_second_cell = refl;
  low_ends_copied = refl;
}
