-- Examples in numbers, which pin the definitions: the first round on readings 0 and 10, with squared prices and a tie of weight 6.
use Rattle.std.specs.Prelude.{◌≡◌, ℕ, [], ◌∷◌, pos, neg_ℤ}
use Rattle.price.specs.Kinds.{squared}
use Rattle.tile.specs.declared.side.Side.TheVariants.{Rightward}
use Rattle.tile.specs.Halving.{from_to}
use Rattle.tile.specs.Records.{recharged}
use Rattle.tile.specs.Tiles.{blank}
use Rattle.tile.specs.Examples.{two_in_a_row, first, second, settled_at_seven, pair}
use Rattle.flow.specs.Examples.{before}
use Rattle.passes.specs.Soundness.{SoundReading, SoundTie, SoundBracket, Sound}
use Rattle.passes.specs.Writing.{with_reading, with_ties, with_bracket, weights, fresh, reset, rewritten}
use Rattle.passes.specs.Rounds.{charge_in, charged, half_marked, narrowed}
use Rattle.passes.specs.Copying.{copied}

-- ---- which records are sound

pub record SoundnessIsRead : Type 0 where
  pub reading_at_top : SoundReading 10 10 15
  pub reading_above_top : SoundReading 10 11 15 → ⊥
  pub class_16 : SoundReading 10 10 16 → ⊥
  pub greatest_tie : SoundTie two_in_a_row 0 Rightward 10000
  pub tie_too_great : SoundTie two_in_a_row 0 Rightward 10001 → ⊥
  pub no_tie_off_the_edge : SoundTie two_in_a_row 1 Rightward 0
  pub a_tie_off_the_edge : SoundTie two_in_a_row 1 Rightward 1 → ⊥
  pub lower_half : SoundBracket 10 1 (from_to 0 5)
  pub upper_half : SoundBracket 10 1 (from_to 6 10)
  pub half_of_the_lower_half : SoundBracket 10 2 (from_to 3 5)
  pub no_half : SoundBracket 10 1 (from_to 0 4) → ⊥
  pub half_of_another_round : SoundBracket 10 2 (from_to 0 5) → ⊥
  pub turned_round : (done : ℕ) → SoundBracket 4 done (from_to 5 4) → ⊥

pub record TilesAreSound : Type 0 where
  pub fresh_records : Sound two_in_a_row 0 (fresh 10 ∷ fresh 10 ∷ [])
  pub put_and_tied : Sound two_in_a_row 0 pair
  pub after_a_round : Sound two_in_a_row 1 (narrowed two_in_a_row pair)
  pub not_after_two : Sound two_in_a_row 2 (narrowed two_in_a_row pair) → ⊥
  pub blank_records_are_not : Sound two_in_a_row 0 (blank ∷ blank ∷ []) → ⊥

-- ---- what is written

pub record RecordsAreWritten : Type 0 where
  pub fresh_record : fresh 10 ≡ record { reading = 0; class = 0; right = 0; down = 0; right_flow = pos 0; down_flow = pos 0; low = 0; high = 10; charge = pos 0; mark = 0; rank = 0 }
  pub reset_record : reset 10 settled_at_seven ≡ record { reading = 10; class = 1; right = 0; down = 0; right_flow = pos 0; down_flow = pos 0; low = 0; high = 10; charge = pos 0; mark = 0; rank = 0 }
  pub reading_put : with_reading 4 2 (fresh 10) ≡ record { reading = 4; class = 2; right = 0; down = 0; right_flow = pos 0; down_flow = pos 0; low = 0; high = 10; charge = pos 0; mark = 0; rank = 0 }
  pub ties_put : with_ties (weights 6 8) (fresh 10) ≡ record { reading = 0; class = 0; right = 6; down = 8; right_flow = pos 0; down_flow = pos 0; low = 0; high = 10; charge = pos 0; mark = 0; rank = 0 }
  pub bracket_put : with_bracket (from_to 3 5) (fresh 10) ≡ record { reading = 0; class = 0; right = 0; down = 0; right_flow = pos 0; down_flow = pos 0; low = 3; high = 5; charge = pos 0; mark = 0; rank = 0 }
  pub recharged_record : recharged (neg_ℤ (pos 9)) second ≡ record { reading = 10; class = 1; right = 0; down = 0; right_flow = pos 0; down_flow = pos 0; low = 0; high = 10; charge = neg_ℤ (pos 9); mark = 0; rank = 0 }
  pub first_record_alone : rewritten 1 (λ _. blank) pair ≡ blank ∷ second ∷ []

-- ---- a round: charges 11 and −9, a cut that marks the second cell, and the brackets 0..5 and 6..10

pub record RoundsAreRead : Type 0 where
  pub charge_of_the_first_cell : charge_in (squared 10) two_in_a_row pair 0 ≡ pos 11
  pub charge_of_the_second_cell : charge_in (squared 10) two_in_a_row pair 1 ≡ neg_ℤ (pos 9)
  pub charged_tile : charged (squared 10) two_in_a_row pair ≡ before
  pub half_of_the_first_cell : half_marked first ≡ from_to 0 5
  pub half_of_the_second_cell : half_marked second ≡ from_to 6 10
  pub narrowed_tile : narrowed two_in_a_row pair ≡ with_bracket (from_to 0 5) first ∷ with_bracket (from_to 6 10) second ∷ []
  pub second_charge_of_the_first_cell : charge_in (squared 10) two_in_a_row (narrowed two_in_a_row pair) 0 ≡ neg_ℤ (pos 1)
  pub second_charge_of_the_second_cell : charge_in (squared 10) two_in_a_row (narrowed two_in_a_row pair) 1 ≡ pos 3
  pub low_ends_copied : copied 2 (narrowed two_in_a_row pair) (8 ∷ 8 ∷ 8 ∷ []) ≡ 0 ∷ 6 ∷ 8 ∷ []
