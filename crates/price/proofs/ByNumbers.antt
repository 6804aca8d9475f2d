-- The examples in numbers, computed.
use Rattle.std.proofs.Common.{refl, arith}
use Rattle.std.proofs.lemmas.Int.{ints}
use Rattle.price.specs.Kept.{absolute_lawful, squared_lawful, leaning_lawful}
use Rattle.price.specs.Examples.{WeightsOfClasses, PricesOfHeights, StepsOfHeights, AnswersOfRules, LawsOfRules, MakingForLevels}

pub weights : WeightsOfClasses
weights = record { class_0_weighs_nothing = refl; class_1 = refl; class_2 = refl; class_15 = refl }

pub prices : PricesOfHeights
prices = record {
  absolute_above = refl;
  absolute_below = refl;
  absolute_of_class_2 = refl;
  squared_above = refl;
  squared_below = refl;
  leaning_above = refl;
  leaning_below = refl;
  leaning_at_the_reading = refl;
}

pub steps : StepsOfHeights
steps = record {
  absolute_to_the_reading = refl;
  absolute_past_it = refl;
  squared_two_past_it = refl;
  leaning_to_the_reading = refl;
  leaning_past_it = refl;
}

pub answers : AnswersOfRules
answers = record {
  price_in_range = refl;
  reading_too_high = refl;
  class_too_high = refl;
  height_too_high = refl;
  last_step = refl;
  step_past_the_greatest_level = refl;
}

pub laws : LawsOfRules
laws = record {
  absolute_is_lawful = absolute_lawful 10 (omega arith, omega arith);
  squared_is_lawful = squared_lawful 1023 (omega arith, omega arith);
  leaning_is_lawful = leaning_lawful 1 (omega arith, omega arith);
  level_0_is_not = λ l. omega (arith, l.level_least);
  level_1024_is_not = λ l. omega (arith, l.level_most);
  falling_steps_are_not = λ l. omega (arith, ints, l.rising_in_height 0 0 0 (omega arith) (omega arith) (omega arith));
  steps_that_rise_with_the_reading_are_not = λ l. omega (arith, ints, l.falling_in_reading 0 0 0 (omega arith) (omega arith) (omega arith));
  steps_past_the_greatest_are_not = λ l. omega (arith, ints, l.step_most 0 0 0 (omega arith) (omega arith) (omega arith));
}

pub making : MakingForLevels
making = record {
  made_for_1023 = ((omega arith, omega arith), refl);
  refused_for_0 = record { outside = λ l. omega (arith, l.0); because = refl; numbered = refl };
  refused_for_1024 = record { outside = λ l. omega (arith, l.1); because = refl; numbered = refl };
  not_refused_for_1023 = λ n. n.outside (omega arith, omega arith);
}
