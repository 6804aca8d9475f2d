-- The worked tiles, written out one by one.
use Rattle.std.specs.Prelude.{[], ◌∷◌}
use Rattle.std.proofs.Common.{lit≤}
use Rattle.price.specs.Kinds.{absolute, squared, leaning}
use Rattle.tile.specs.declared.shape.Shape.{Shape}
use Rattle.tile.specs.Examples.{two_by_two, two_in_a_row}
use Rattle.cases.specs.Cases.{RightCase}

-- one cell, with heights up to 7
abbrev pub one_cell : Shape
one_cell = record { rows = 1; columns = 1; top = 7; tall = (lit≤ tt, lit≤ tt); wide = (lit≤ tt, lit≤ tt); high = (lit≤ tt, lit≤ tt) }

-- a row of three cells, with heights up to 7
abbrev pub three_in_a_row : Shape
three_in_a_row = record { rows = 1; columns = 3; top = 7; tall = (lit≤ tt, lit≤ tt); wide = (lit≤ tt, lit≤ tt); high = (lit≤ tt, lit≤ tt) }

-- ---- theorem: each tile has the lowest cheapest grid and the energy that stand here

pub record WorkedTilesAreRight : Type 0 where
  -- a cell that nothing ties keeps its reading
  pub untied_cell : RightCase (record { rule = absolute 7; shape = one_cell; readings = 5 ∷ []; classes = 1 ∷ []; right = []; down = []; heights = 5 ∷ []; energy = 0 })
  -- a reading of class 0 weighs nothing, so every height costs 0, and the lowest is 0
  pub untied_cell_of_class_0 : RightCase (record { rule = absolute 7; shape = one_cell; readings = 5 ∷ []; classes = 0 ∷ []; right = []; down = []; heights = 0 ∷ []; energy = 0 })
  -- a spike between two cells, tied to both, is levelled
  pub spike_tied_twice : RightCase (record { rule = absolute 7; shape = three_in_a_row; readings = 0 ∷ 7 ∷ 0 ∷ []; classes = 1 ∷ 1 ∷ 1 ∷ []; right = 1 ∷ 1 ∷ []; down = []; heights = 0 ∷ 0 ∷ 0 ∷ []; energy = 7 })
  -- tied to one of them, every height of the spike costs the same, and the lowest is 0
  pub spike_tied_once : RightCase (record { rule = absolute 7; shape = three_in_a_row; readings = 0 ∷ 7 ∷ 0 ∷ []; classes = 1 ∷ 1 ∷ 1 ∷ []; right = 1 ∷ 0 ∷ []; down = []; heights = 0 ∷ 0 ∷ 0 ∷ []; energy = 7 })
  -- a tie draws two cells together, but not all the way
  pub squared_pair_tie_6 : RightCase (record { rule = squared 10; shape = two_in_a_row; readings = 0 ∷ 10 ∷ []; classes = 1 ∷ 1 ∷ []; right = 6 ∷ []; down = []; heights = 3 ∷ 7 ∷ []; energy = 42 })
  -- under a heavier tie four grids are cheapest, and this is the lowest of them
  pub squared_pair_tie_7 : RightCase (record { rule = squared 10; shape = two_in_a_row; readings = 0 ∷ 10 ∷ []; classes = 1 ∷ 1 ∷ []; right = 7 ∷ []; down = []; heights = 3 ∷ 6 ∷ []; energy = 46 })
  -- going up costs four times as much as going down, so the first cell comes down to the second
  pub leaning_pair : RightCase (record { rule = leaning 10; shape = two_in_a_row; readings = 10 ∷ 2 ∷ []; classes = 1 ∷ 1 ∷ []; right = 2 ∷ []; down = []; heights = 2 ∷ 2 ∷ []; energy = 8 })
  -- where both cost the same, every common height from 2 to 10 is as cheap, and 2 is the lowest
  pub absolute_pair : RightCase (record { rule = absolute 10; shape = two_in_a_row; readings = 10 ∷ 2 ∷ []; classes = 1 ∷ 1 ∷ []; right = 2 ∷ []; down = []; heights = 2 ∷ 2 ∷ []; energy = 8 })
  -- a corner of class 1 weighs 1, less than its two ties, and falls
  pub corner_of_class_1 : RightCase (record { rule = absolute 1; shape = two_by_two; readings = 1 ∷ 0 ∷ 0 ∷ 0 ∷ []; classes = 1 ∷ 1 ∷ 1 ∷ 1 ∷ []; right = 1 ∷ 0 ∷ 1 ∷ []; down = 1 ∷ 1 ∷ []; heights = 0 ∷ 0 ∷ 0 ∷ 0 ∷ []; energy = 1 })
  -- a corner of class 2 weighs 3, more than its two ties, and stands
  pub corner_of_class_2 : RightCase (record { rule = absolute 1; shape = two_by_two; readings = 1 ∷ 0 ∷ 0 ∷ 0 ∷ []; classes = 2 ∷ 1 ∷ 1 ∷ 1 ∷ []; right = 1 ∷ 0 ∷ 1 ∷ []; down = 1 ∷ 1 ∷ []; heights = 1 ∷ 0 ∷ 0 ∷ 0 ∷ []; energy = 2 })
  -- under the leaning rule the first cell comes down although it weighs three times as much; under the absolute rule the second would
  -- go up
  pub leaning_pair_of_classes_2_and_1 : RightCase (record { rule = leaning 10; shape = two_in_a_row; readings = 10 ∷ 2 ∷ []; classes = 2 ∷ 1 ∷ []; right = 4 ∷ []; down = []; heights = 2 ∷ 2 ∷ []; energy = 24 })
