-- The examples in numbers, computed.
use Rattle.std.proofs.Common.{refl, inl, inr, arith}
use lib.Count.{count_leading_zeros}
use Rattle.theory.specs.Grids.{energy}
use Rattle.tile.specs.Examples.{ShapesAreRead, TiesAreRead, RecordsAreRead, EnergiesOfTiles, Halvings, RoundsAreCounted}
use Rattle.tile.proofs.Halves.{digits_due}

pub shapes : ShapesAreRead
shapes = record {
  cells_of_two_by_two = refl;
  greatest_tile = record { some_rows = omega arith; few_rows = omega arith; some_columns = omega arith; few_columns = omega arith; some_top = omega arith; low_top = omega arith };
  no_65_rows = λ r. omega (arith, r.few_rows);
  strip_of_256_rows = record { some_rows = omega arith; few_rows = omega arith; some_columns = omega arith; few_columns = omega arith; some_top = omega arith; low_top = omega arith };
  no_top_0 = λ r. omega (arith, r.some_top);
  made_as_asked = record {
    ranged = record { some_rows = omega arith; few_rows = omega arith; some_columns = omega arith; few_columns = omega arith; some_top = omega arith; low_top = omega arith };
    same_rows = refl;
    same_columns = refl;
    same_top = refl;
  };
  made_otherwise = λ m. omega (arith, m.same_rows);
  refused_out_of_range = λ r. omega (arith, r.few_rows);
  not_refused_in_range = λ no. no (record { some_rows = omega arith; few_rows = omega arith; some_columns = omega arith; few_columns = omega arith; some_top = omega arith; low_top = omega arith });
}

pub ties_read : TiesAreRead
ties_read = record { right_of_cell_0 = refl; below_cell_0 = refl; right_of_cell_1 = refl; below_cell_2 = refl; of_a_cell_outside = refl; four_ties = refl }

pub records : RecordsAreRead
records = record {
  tie_to_the_right = refl;
  tie_downward = refl;
  flow_to_the_right = refl;
  its_bracket = refl;
  same_brackets = refl;
  other_brackets = refl;
  settled_brackets = refl;
  spoilt_brackets = refl;
  past_the_last_record = refl;
  surveyed_reading = refl;
  surveyed_tie = refl;
}

pub energies : EnergiesOfTiles
unfolding energy
energies = record {
  energy_of_three_and_seven = refl;
  rated = record { whole = omega arith; value = refl };
  rated_otherwise = λ r. omega (arith, r.value);
  too_few_records = omega arith;
  enough_records = λ l. omega (arith, l);
}

pub halvings : Halvings
halvings = record {
  toward_3_none = refl;
  toward_3_first = refl;
  toward_3_second = refl;
  toward_3_third = refl;
  toward_3_fourth = refl;
  toward_7_first = refl;
  toward_7_fourth = refl;
  the_middle_is_below = refl;
  holds_its_high_end = (omega arith, omega arith);
  halves_are_disjoint = inr (omega arith);
  touching_brackets_are_not = λ d. elim d [ inl l ↦ omega (arith, l) | inr l ↦ omega (arith, l) ];
}

pub rounds : RoundsAreCounted
unfolding count_leading_zeros
rounds = record {
  due_for_top_1 = digits_due 1 1 (omega arith) refl;
  due_for_top_7 = digits_due 7 3 (omega arith) refl;
  due_for_top_8 = digits_due 8 4 (omega arith) refl;
  due_for_top_1023 = digits_due 1023 10 (omega arith) refl;
  one_too_many = λ d. omega (arith, d.least 3 (omega arith));
  one_too_few = λ d. omega (arith, d.enough);
  left_after_two = omega arith;
  over_after_three = omega arith;
}
