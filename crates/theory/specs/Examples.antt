-- Examples in numbers, which pin the definitions, and in which all hypotheses of the theorems are met.
use Rattle.std.specs.Prelude.{◌≡◌, ℕ, ◌*◌, ◌<◌, true, false, cond, [], ◌∷◌, pos, neg_ℤ, ◌≤ℤ◌, ◌==◌}
use Rattle.theory.specs.Sums.{sum_below, sumℤ, total, totalℤ}
use Rattle.theory.specs.Graphs.{Graph, Proper, only}
use Rattle.theory.specs.Sets.{CellSet, Charges, meet, join, cost, CheapestSet, SmallestCheapestSet}
use Rattle.theory.specs.Flows.{Flow, leaving, remainder, Deficit, Surplus, Residual, Reached, WithinWeights, Certified}
use Rattle.theory.specs.Instance.{two_cells, two_charges, six_back, second_cell}
use Rattle.theory.specs.Grids.{Problem, Heights, gap, tie_cost, energy, Grid, LowestCheapestGrid, step, StepsNeverFall}
use Rattle.theory.specs.Levels.{above, LevelsAreSmallest, priced}
use Rattle.theory.specs.Brackets.{Brackets, middle, settled, lies_below, live, tied_to, halving_charges, live_graph, Bracketed, upper_half}

-- a value for the first of two cells, and one for the second
abbrev pub pair : {V : Type 0} → V → V → ℕ → V
pair a b u = cond (u == 0) a b

-- ---- sums: 0 + 1 + 2 + 3, and 3 + 5; 11 − 9 both ways

pub record SumsAddUp : Type 0 where
  pub below_four : sum_below 4 (λ n. n) ≡ 6
  pub of_a_list : total (3 ∷ 5 ∷ []) (λ n. n) ≡ 8
  pub signed_below_two : sumℤ 2 two_charges ≡ pos 2
  pub signed_of_a_list : totalℤ (0 ∷ 1 ∷ []) two_charges ≡ pos 2

-- ---- graphs and sets: two cells with charges 11 and −9 over a tie of weight 6

-- the same tie, whose far end is no cell of a graph of one cell
abbrev pub one_cell : Graph ℕ
one_cell = record { cells = 1; ties = 0 ∷ []; near = λ _. 0; far = λ _. 1; weight = λ _. 6 }

abbrev pub nothing : CellSet
nothing _ = false

abbrev pub all_cells : CellSet
all_cells _ = true

pub record GraphsAreRead : Type 0 where
  pub both_ends_are_cells : Proper two_cells
  pub an_end_is_no_cell : Proper one_cell → ⊥
  pub without_its_tie : (only (λ _. false) two_cells).ties ≡ []
  pub with_its_tie : (only (λ _. true) two_cells).ties ≡ 0 ∷ []

-- 0, 11 + 6, −9 + 6, and 11 − 9
pub record CostsOfSets : Type 0 where
  pub cost_of_nothing : cost two_cells two_charges nothing ≡ pos 0
  pub cost_of_the_first_cell : cost two_cells two_charges (pair true false) ≡ pos 17
  pub cost_of_the_second_cell : cost two_cells two_charges second_cell ≡ neg_ℤ (pos 3)
  pub cost_of_both_cells : cost two_cells two_charges all_cells ≡ pos 2
  pub meet_of_both_single_cells : meet (pair true false) second_cell 0 ≡ false
  pub join_of_both_single_cells : join (pair true false) second_cell 0 ≡ true

-- all charges 0: all cells cost 0 as nothing does, so both are cheapest, and only nothing is smallest
pub record SmallestOfTheCheapest : Type 0 where
  pub second_cell_is_smallest_cheapest : SmallestCheapestSet two_cells two_charges second_cell
  pub both_cells_are_not_cheapest : CheapestSet two_cells two_charges all_cells → ⊥
  pub uncharged_cells_are_cheapest : CheapestSet two_cells (λ _. pos 0) all_cells
  pub and_not_smallest : SmallestCheapestSet two_cells (λ _. pos 0) all_cells → ⊥
  pub nothing_is_smallest : SmallestCheapestSet two_cells (λ _. pos 0) nothing

-- with −5 in place of −9 the second cell costs 1, more than nothing
abbrev pub higher_charges : Charges
higher_charges = pair (pos 11) (neg_ℤ (pos 5))

-- what the theorem on higher charges asks for
pub record ChargesCanBeHigher : Type 0 where
  pub nowhere_lower : (u : ℕ) → u < 2 → two_charges u ≤ℤ higher_charges u
  pub smallest_of_the_lower : SmallestCheapestSet two_cells two_charges second_cell
  pub smallest_of_the_higher : SmallestCheapestSet two_cells higher_charges nothing

-- ---- flows: 6 runs over that tie from the second cell to the first

abbrev pub flat : Flow ℕ
flat _ = pos 0

pub record FlowsAreRead : Type 0 where
  pub leaves_the_first_cell : leaving two_cells six_back 0 0 ≡ neg_ℤ (pos 6)
  pub leaves_the_second_cell : leaving two_cells six_back 1 0 ≡ pos 6
  pub remainder_of_the_first_cell : remainder two_cells two_charges six_back 0 ≡ pos 5
  pub remainder_of_the_second_cell : remainder two_cells two_charges six_back 1 ≡ neg_ℤ (pos 3)
  pub the_first_is_in_surplus : Surplus two_cells two_charges six_back 0
  pub the_second_is_in_deficit : Deficit two_cells two_charges six_back 1
  pub room_from_first_to_second : Residual two_cells six_back 0 1
  pub none_from_second_to_first : Residual two_cells six_back 1 0 → ⊥
  pub the_first_is_not_reached : Reached two_cells two_charges six_back 0 → ⊥
  pub seven_is_too_much : WithinWeights two_cells (λ _. pos 7) → ⊥

-- Where nothing runs, the second cell is in deficit, the first is reached from it, and is in surplus: no marks are certified.
pub record CertificatesCanFail : Type 0 where
  pub flat_flows_reach_the_first_cell : Reached two_cells two_charges flat 0
  pub flat_flows_leave_a_marked_surplus : (marks : CellSet) → Certified two_cells two_charges flat marks → ⊥
  pub a_mark_is_missing : Certified two_cells two_charges six_back nothing → ⊥
  pub a_mark_is_too_many : Certified two_cells two_charges six_back all_cells → ⊥

-- ---- grids: readings 0 and 10 at squared prices, heights up to 10, over the same tie

abbrev pub two_readings : Problem ℕ
two_readings = record { graph = two_cells; top = 10; price = pair (λ k. k * k) (λ k. gap k 10 * gap k 10) }

abbrev pub three_and_seven : Heights
three_and_seven = pair 3 7

-- 9 + 9 + 6 · 4, and at the readings themselves 6 · 10
pub record EnergiesOfGrids : Type 0 where
  pub energy_of_three_and_seven : energy two_readings three_and_seven ≡ 42
  pub energy_of_the_readings : energy two_readings (pair 0 10) ≡ 60
  pub cost_of_its_tie : tie_cost two_cells three_and_seven 0 ≡ 24
  pub gap_downward : gap 7 3 ≡ 4
  pub eleven_is_above_top : Grid two_readings (pair 3 11) → ⊥
  pub step_of_the_first_cell : step two_readings 5 0 ≡ pos 11
  pub step_of_the_second_cell : step two_readings 5 1 ≡ neg_ℤ (pos 9)

-- prices 0, 1 and 1, whose step falls from 1 to 0
abbrev pub falling : Problem ℕ
falling = record { graph = two_cells; top = 2; price = λ _ k. cond (k == 0) 0 1 }

-- what the theorems on levels, on grids and on halving ask for
pub record GridsCanBeMet : Type 0 where
  pub steps_never_fall : StepsNeverFall two_readings
  pub steps_of_other_prices_fall : StepsNeverFall falling → ⊥
  pub three_and_seven_is_lowest_cheapest : LowestCheapestGrid two_readings three_and_seven
  pub the_readings_are_not : LowestCheapestGrid two_readings (pair 0 10) → ⊥
  pub levels_are_smallest : LevelsAreSmallest two_readings three_and_seven
  pub heights_below_three_hold_both : above three_and_seven 2 0 ≡ true
  pub height_three_holds_the_second : above three_and_seven 3 0 ≡ false
  pub up_to_seven : above three_and_seven 6 1 ≡ true
  pub and_no_further : above three_and_seven 7 1 ≡ false

-- the reading 0 raised to 1
abbrev pub raised : ℕ → ℕ → ℕ
raised = pair (λ k. gap k 1 * gap k 1) (λ k. gap k 10 * gap k 10)

-- what the theorem on lower steps asks for
pub record StepsCanBeLowered : Type 0 where
  pub steps_never_fall : StepsNeverFall (priced two_cells 10 raised)
  pub steps_are_lower : (u m : ℕ) → u < 2 → m < 10 → step (priced two_cells 10 raised) m u ≤ℤ step two_readings m u

-- ---- brackets: 0..10 for both cells, and 0..5 and 6..10 after one halving

abbrev pub whole : Brackets
whole = record { low = λ _. 0; high = λ _. 10 }

abbrev pub halves : Brackets
halves = record { low = pair 0 6; high = pair 5 10 }

-- 0..5 and 5..10 have the height 5 in common
abbrev pub overlapping : Brackets
overlapping = record { low = pair 0 5; high = pair 5 10 }

-- 4..10 does not contain the height 3
abbrev pub too_high : Brackets
too_high = record { low = λ _. 4; high = λ _. 10 }

-- 3..3 and 7..7
abbrev pub narrow : Brackets
narrow = record { low = three_and_seven; high = three_and_seven }

pub record BracketsAreRead : Type 0 where
  pub middle_of_all : middle 0 10 ≡ 5
  pub middle_rounded_down : middle 0 5 ≡ 2
  pub live_before_the_first_round : live two_cells whole 0 ≡ true
  pub not_live_after_it : live two_cells halves 0 ≡ false
  pub not_live_when_settled : live two_cells (record { low = λ _. 4; high = λ _. 4 }) 0 ≡ false
  pub then_no_tie_is_left : (live_graph two_cells halves).ties ≡ []
  pub the_first_half_lies_below : lies_below halves 0 1 ≡ true
  pub no_half_lies_below_itself : lies_below overlapping 0 1 ≡ false
  pub settled_at_one_height : settled narrow 0 ≡ true
  pub tied_to_a_higher_cell : tied_to two_cells 0 (λ v. lies_below halves 0 v) ≡ 6
  pub tied_to_no_lower_cell : tied_to two_cells 0 (λ v. lies_below halves v 0) ≡ 0

-- In the first round the steps at 5; in the second the step 5 at 2, less a tie of 6 to a higher bracket, and the step −3 at 8,
-- more by a tie of 6 to a lower one; and nothing where a cell is settled.
pub record ChargesOfHalving : Type 0 where
  pub first_round_of_the_first_cell : halving_charges two_readings whole 0 ≡ pos 11
  pub first_round_of_the_second_cell : halving_charges two_readings whole 1 ≡ neg_ℤ (pos 9)
  pub second_round_of_the_first_cell : halving_charges two_readings halves 0 ≡ neg_ℤ (pos 1)
  pub second_round_of_the_second_cell : halving_charges two_readings halves 1 ≡ pos 3
  pub charge_of_a_settled_cell : halving_charges two_readings narrow 0 ≡ pos 0
  pub upper_half_without_the_first : upper_half whole three_and_seven 0 ≡ false
  pub upper_half_with_the_second : upper_half whole three_and_seven 1 ≡ true
  pub upper_half_without_settled_cells : upper_half narrow three_and_seven 1 ≡ false

pub record BracketsCanBeMet : Type 0 where
  pub before_the_first_round : Bracketed two_readings three_and_seven whole
  pub after_it : Bracketed two_readings three_and_seven halves
  pub not_where_they_overlap : Bracketed two_readings three_and_seven overlapping → ⊥
  pub not_without_the_height : Bracketed two_readings three_and_seven too_high → ⊥
