-- Examples in numbers, which pin the definitions.
use Rattle.std.specs.Prelude.{◌≡◌, ℕ, ◌*◌, cond, Ok, Err, pos, neg_ℤ, ◌==◌}
use Rattle.limits.specs.declared.refusal.Refusal.TheVariants.{Range}
use Rattle.price.specs.Rules.{Rule, ruled, step, Lawful, priced, stepped}
use Rattle.price.specs.Weights.{class_weight}
use Rattle.price.specs.Kinds.{absolute_price, squared_price, leaning_price, absolute, squared, leaning}
use Rattle.price.specs.Making.{MadeFor}

-- 1, 1 + 2, and 1 + 2 + .. + 15
pub record WeightsOfClasses : Type 0 where
  pub class_0_weighs_nothing : class_weight 0 ≡ 0
  pub class_1 : class_weight 1 ≡ 1
  pub class_2 : class_weight 2 ≡ 3
  pub class_15 : class_weight 15 ≡ 120

-- a reading of 5: three levels above it, and three below
pub record PricesOfHeights : Type 0 where
  pub absolute_above : absolute_price 5 1 8 ≡ 3
  pub absolute_below : absolute_price 5 1 2 ≡ 3
  pub absolute_of_class_2 : absolute_price 5 2 8 ≡ 9
  pub squared_above : squared_price 5 1 8 ≡ 9
  pub squared_below : squared_price 5 2 2 ≡ 27
  pub leaning_above : leaning_price 5 1 8 ≡ 12
  pub leaning_below : leaning_price 5 1 2 ≡ 3
  pub leaning_at_the_reading : leaning_price 5 1 5 ≡ 0

-- the steps from height 4 to the reading 5, and from 5 to 6
pub record StepsOfHeights : Type 0 where
  pub absolute_to_the_reading : step (absolute 10) 5 1 4 ≡ neg_ℤ (pos 1)
  pub absolute_past_it : step (absolute 10) 5 1 5 ≡ pos 1
  pub squared_two_past_it : step (squared 10) 5 1 7 ≡ pos 5
  pub leaning_to_the_reading : step (leaning 10) 5 1 4 ≡ neg_ℤ (pos 1)
  pub leaning_past_it : step (leaning 10) 5 1 5 ≡ pos 4

-- what a rule for levels up to 10 answers, inside its ranges and outside
pub record AnswersOfRules : Type 0 where
  pub price_in_range : priced (absolute 10) 5 1 10 ≡ 5
  pub reading_too_high : priced (absolute 10) 11 1 10 ≡ 0
  pub class_too_high : priced (absolute 10) 5 16 10 ≡ 0
  pub height_too_high : priced (absolute 10) 5 1 11 ≡ 0
  pub last_step : stepped (absolute 10) 5 1 9 ≡ pos 1
  pub step_past_the_greatest_level : stepped (absolute 10) 5 1 10 ≡ pos 0

-- prices 0, 1 and 1, whose step falls from 1 to 0
abbrev pub falling : Rule
falling = ruled (λ _ _ k. cond (k == 0) 0 1) 2

-- the reading times the height, whose step rises with the reading
abbrev pub rising_with_the_reading : Rule
rising_with_the_reading = ruled (λ v _ k. v * k) 2

-- 250,001 for each level
abbrev pub too_steep : Rule
too_steep = ruled (λ _ _ k. 250001 * k) 2

pub record LawsOfRules : Type 0 where
  pub absolute_is_lawful : Lawful (absolute 10)
  pub squared_is_lawful : Lawful (squared 1023)
  pub leaning_is_lawful : Lawful (leaning 1)
  pub level_0_is_not : Lawful (absolute 0) → ⊥
  pub level_1024_is_not : Lawful (absolute 1024) → ⊥
  pub falling_steps_are_not : Lawful falling → ⊥
  pub steps_that_rise_with_the_reading_are_not : Lawful rising_with_the_reading → ⊥
  pub steps_past_the_greatest_are_not : Lawful too_steep → ⊥

-- a number stands here for what is made
pub record MakingForLevels : Type 0 where
  pub made_for_1023 : MadeFor {X = ℕ} 1023 (λ n. n ≡ 7) (Ok 7)
  pub refused_for_0 : MadeFor {X = ℕ} 0 (λ n. n ≡ 7) (Err Range)
  pub refused_for_1024 : MadeFor {X = ℕ} 1024 (λ n. n ≡ 7) (Err Range)
  pub not_refused_for_1023 : MadeFor {X = ℕ} 1023 (λ n. n ≡ 7) (Err Range) → ⊥
