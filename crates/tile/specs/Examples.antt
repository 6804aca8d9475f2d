-- Examples in numbers, which pin the definitions.
use Rattle.std.specs.Prelude.{◌≡◌, false, true, [], ◌∷◌, Some, None, Ok, Err, pos, neg_ℤ}
use Rattle.std.proofs.Common.{lit≤}
use Rattle.limits.specs.Limits.{most_rows, most_strip_rows}
use Rattle.price.specs.Kinds.{squared}
use Rattle.theory.specs.Grids.{energy}
use Rattle.tile.specs.declared.cell.Cell.{Cell}
use Rattle.tile.specs.declared.shape.Shape.{Shape}
use Rattle.tile.specs.declared.side.Side.TheVariants.{Rightward, Downward}
use Rattle.tile.specs.Records.{stored_tie, stored_flow, stored_bracket, share_bracket}
use Rattle.tile.specs.Ties.{neighbour_within, ties}
use Rattle.tile.specs.Tiles.{Tile, blank, cell, survey, heights, problem}
use Rattle.tile.specs.Shapes.{cells, Ranged, Made}
use Rattle.tile.specs.Rating.{Rated}
use Rattle.tile.specs.Halving.{from_to, half_toward, halving, RoundsOver, RoundLeft, RoundsDue, Holds, Disjoint}

-- ---- shapes: two rows of two cells with heights 0 and 1, and a row of two with heights up to 10

abbrev pub two_by_two : Shape
two_by_two = record { rows = 2; columns = 2; top = 1; tall = (lit≤ tt, lit≤ tt); wide = (lit≤ tt, lit≤ tt); high = (lit≤ tt, lit≤ tt) }

abbrev pub two_in_a_row : Shape
two_in_a_row = record { rows = 1; columns = 2; top = 10; tall = (lit≤ tt, lit≤ tt); wide = (lit≤ tt, lit≤ tt); high = (lit≤ tt, lit≤ tt) }

pub record ShapesAreRead : Type 0 where
  pub cells_of_two_by_two : cells two_by_two ≡ 4
  pub greatest_tile : Ranged most_rows 64 64 1023
  pub no_65_rows : Ranged most_rows 65 64 1023 → ⊥
  pub strip_of_256_rows : Ranged most_strip_rows 256 64 1023
  pub no_top_0 : Ranged most_rows 64 64 0 → ⊥
  pub made_as_asked : Made 2 2 1 (Ok two_by_two)
  pub made_otherwise : Made 2 2 1 (Ok two_in_a_row) → ⊥
  pub refused_out_of_range : Made 65 2 1 (Err (record {}))
  pub not_refused_in_range : Made 2 2 1 (Err (record {})) → ⊥

-- cells 0 and 1 above cells 2 and 3
pub record TiesAreRead : Type 0 where
  pub right_of_cell_0 : neighbour_within two_by_two 0 Rightward ≡ Some 1
  pub below_cell_0 : neighbour_within two_by_two 0 Downward ≡ Some 2
  pub right_of_cell_1 : neighbour_within two_by_two 1 Rightward ≡ None
  pub below_cell_2 : neighbour_within two_by_two 2 Downward ≡ None
  pub of_a_cell_outside : neighbour_within two_by_two 4 Rightward ≡ None
  pub four_ties : ties two_by_two ≡ record { cell = 0; side = Rightward } ∷ record { cell = 0; side = Downward } ∷ record { cell = 1; side = Downward } ∷ record { cell = 2; side = Rightward } ∷ []

-- ---- records: readings 0 and 10 of class 1 over a tie of weight 6, over which 6 runs back, in brackets 0..10

abbrev pub first : Cell
first = record { reading = 0; class = 1; right = 6; down = 0; right_flow = neg_ℤ (pos 6); down_flow = pos 0; low = 0; high = 10; charge = pos 11; mark = 0; rank = 0 }

abbrev pub second : Cell
second = record { reading = 10; class = 1; right = 0; down = 0; right_flow = pos 0; down_flow = pos 0; low = 0; high = 10; charge = neg_ℤ (pos 9); mark = 1; rank = 0 }

-- a record that is settled at the height 7
abbrev pub settled_at_seven : Cell
settled_at_seven = record { reading = 10; class = 1; right = 0; down = 0; right_flow = pos 0; down_flow = pos 0; low = 7; high = 7; charge = pos 0; mark = 1; rank = 0 }

-- a record whose bracket is spoilt: no height lies in it
abbrev pub spoilt : Cell
spoilt = record first { low = 1; high = 0 }

abbrev pub pair : Tile
pair = first ∷ second ∷ []

pub record RecordsAreRead : Type 0 where
  pub tie_to_the_right : stored_tie first Rightward ≡ 6
  pub tie_downward : stored_tie first Downward ≡ 0
  pub flow_to_the_right : stored_flow first Rightward ≡ neg_ℤ (pos 6)
  pub its_bracket : stored_bracket first ≡ from_to 0 10
  pub same_brackets : share_bracket first second ≡ true
  pub other_brackets : share_bracket first settled_at_seven ≡ false
  pub settled_brackets : share_bracket settled_at_seven settled_at_seven ≡ false
  pub spoilt_brackets : share_bracket spoilt spoilt ≡ true
  pub past_the_last_record : cell pair 2 ≡ blank
  pub surveyed_reading : (survey pair).reading 1 ≡ 10
  pub surveyed_tie : (survey pair).tie 0 Rightward ≡ 6

-- the pair with the low ends 3 and 7
abbrev pub halved : Tile
halved = record first { low = 3 } ∷ record second { low = 7 } ∷ []

-- 9 + 9 + 6 · 4, and four records are wanted for two by two
pub record EnergiesOfTiles : Type 0 where
  pub energy_of_three_and_seven : energy (problem (squared 10) two_in_a_row (survey halved)) (heights halved) ≡ 42
  pub rated : Rated (squared 10) two_in_a_row halved (Some 42)
  pub rated_otherwise : Rated (squared 10) two_in_a_row halved (Some 41) → ⊥
  pub too_few_records : Rated (squared 10) two_by_two halved None
  pub enough_records : Rated (squared 10) two_in_a_row halved None → ⊥

-- ---- halving 0..10 toward 3 and toward 7

pub record Halvings : Type 0 where
  pub toward_3_none : halving 0 10 3 ≡ from_to 0 10
  pub toward_3_first : halving 1 10 3 ≡ from_to 0 5
  pub toward_3_second : halving 2 10 3 ≡ from_to 3 5
  pub toward_3_third : halving 3 10 3 ≡ from_to 3 4
  pub toward_3_fourth : halving 4 10 3 ≡ from_to 3 3
  pub toward_7_first : halving 1 10 7 ≡ from_to 6 10
  pub toward_7_fourth : halving 4 10 7 ≡ from_to 7 7
  pub the_middle_is_below : half_toward (from_to 0 10) 5 ≡ from_to 0 5
  pub holds_its_high_end : Holds (from_to 0 5) 5
  pub halves_are_disjoint : Disjoint (from_to 6 10) (from_to 0 5)
  pub touching_brackets_are_not : Disjoint (from_to 0 5) (from_to 5 10) → ⊥

pub record RoundsAreCounted : Type 0 where
  pub due_for_top_1 : RoundsDue 1 1
  pub due_for_top_7 : RoundsDue 7 3
  pub due_for_top_8 : RoundsDue 8 4
  pub due_for_top_1023 : RoundsDue 1023 10
  pub one_too_many : RoundsDue 7 4 → ⊥
  pub one_too_few : RoundsDue 8 3 → ⊥
  pub left_after_two : RoundLeft 7 2
  pub over_after_three : RoundsOver 7 3
