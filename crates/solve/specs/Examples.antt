-- Examples in numbers, which pin the definitions: a tile of one cell with the reading 1, and samples of two cells.
use Rattle.std.specs.Prelude.{◌≡◌, List, [], ◌∷◌, Ok, neg_ℤ, pos}
use Rattle.limits.specs.declared.refusal.Refusal.TheVariants.{FewRecords, FewEntries, Ceiling}
use Rattle.price.specs.Kinds.{absolute}
use Rattle.tile.specs.Tiles.{Tile}
use Rattle.tile.specs.declared.side.Side.TheVariants.{Rightward, Downward}
use Rattle.tile.specs.Examples.{two_in_a_row, first, second}
use Rattle.flow.specs.Points.{FourPoints}
use Rattle.filter.specs.Runs.{surveyed}
use Rattle.filter.specs.Examples.{one_cell, drafted, levelled, put_in, ended, calls, given_back}
use Rattle.solve.specs.declared.samples.Sample.{Sample}
use Rattle.solve.specs.declared.samples.SamplesRefusal.TheVariants.{FewSamples, Call}
use Rattle.solve.specs.Surveying.{At, sampled, samples_refusal_number}
use Rattle.solve.specs.Solving.{PastKept, HalvedTimes, SolveDoes, FinishedRun}

-- readings 0 and 10 of class 1, a tie of 6 to the right and one of 8 downward
abbrev pub two_samples : List Sample
two_samples = record { reading = 0; class = 1; right = 6; down = 8 } ∷ record { reading = 10; class = 1; right = 0; down = 0 } ∷ []

pub record SamplesAreRead : Type 0 where
  pub reading_of_the_second : (sampled two_samples).reading 1 ≡ 10
  pub class_of_the_second : (sampled two_samples).class 1 ≡ 1
  pub tie_to_the_right : (sampled two_samples).tie 0 Rightward ≡ 6
  pub tie_downward : (sampled two_samples).tie 0 Downward ≡ 8
  pub no_third_sample : (sampled two_samples).reading 2 ≡ 0
  pub second_cell_of_the_row : At two_in_a_row 1 0 1
  pub number_of_a_call : samples_refusal_number (Call Ceiling) ≡ 8
  pub few_samples_have_no_number : samples_refusal_number FewSamples ≡ 0

-- what solving leaves of the cell: charge −1, the mark 1, and the height 1
abbrev pub solved : Tile
solved = ended 1 (neg_ℤ (pos 1))

pub record SolvingIsRead : Type 0 where
  pub no_round : HalvedTimes (absolute 1) FourPoints one_cell 0 (put_in 1) (put_in 1)
  pub one_round : HalvedTimes (absolute 1) FourPoints one_cell 1 (put_in 1) solved
  pub not_without_a_round : HalvedTimes (absolute 1) FourPoints one_cell 0 (put_in 1) solved → ⊥
  pub not_by_a_maker_that_leaves_nothing : HalvedTimes (absolute 1) (λ _ _ _. ⊥) one_cell 1 (put_in 1) solved → ⊥
  pub solved_to_a_level : SolveDoes (absolute 1) FourPoints drafted (put_in 1) 1 (Ok levelled) solved
  pub no_other_height : SolveDoes (absolute 1) FourPoints drafted (put_in 1) 1 (Ok levelled) (ended 0 (pos 1)) → ⊥
  pub no_record : SolveDoes (absolute 1) FourPoints drafted [] 1 (given_back drafted FewRecords) []
  pub no_entry : SolveDoes (absolute 1) FourPoints drafted (put_in 1) 0 (given_back drafted FewEntries) (put_in 1)
  pub rule_below_top : SolveDoes (absolute 0) FourPoints drafted (put_in 1) 1 (given_back drafted Ceiling) (put_in 1)
  pub finished_run : FinishedRun (absolute 1) one_cell (surveyed (calls 1)) levelled solved
  pub past_records_are_kept : PastKept 1 (first ∷ second ∷ []) (second ∷ second ∷ [])
  pub no_others_are : PastKept 0 (first ∷ second ∷ []) (second ∷ second ∷ []) → ⊥
