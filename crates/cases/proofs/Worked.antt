-- The worked tiles, tested one after the other.
use Rattle.std.proofs.Common.{◌≡◌, Bool, true, refl}
use Rattle.theory.specs.Grids.{energy}
use Rattle.tile.proofs.Joins.{ties_join_cells}
use Rattle.cases.specs.Cases.{Case, height, surveyed, posed, RightCase}
use Rattle.cases.specs.Worked.{WorkedTilesAreRight}
use Rattle.cases.proofs.Decided.{is_lowest_cheapest, decided}

-- the test of a worked tile, which goes through all its grids
abbrev is_right : Case → Bool
is_right c = is_lowest_cheapest (posed c) (height c.heights) c.energy

-- it is sound
right : (c : Case) → is_right c ≡ true → RightCase c
right c e =
    let d = decided (posed c) (height c.heights) c.energy (ties_join_cells c.shape (surveyed c).tie) e in
    record { lowest_cheapest = d.0; energy_of_it = d.1 }

pub worked_are_right : WorkedTilesAreRight
unfolding energy
worked_are_right = record {
  untied_cell = right _ refl;
  untied_cell_of_class_0 = right _ refl;
  spike_tied_twice = right _ refl;
  spike_tied_once = right _ refl;
  squared_pair_tie_6 = right _ refl;
  squared_pair_tie_7 = right _ refl;
  leaning_pair = right _ refl;
  absolute_pair = right _ refl;
  corner_of_class_1 = right _ refl;
  corner_of_class_2 = right _ refl;
  leaning_pair_of_classes_2_and_1 = right _ refl;
}
