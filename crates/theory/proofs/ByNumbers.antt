-- The examples in numbers, computed.
use Rattle.std.proofs.Common.{◌≡◌, ℕ, suc, ◌+◌, ◌<◌, ◌≤◌, Bool, true, false, cond, ◌&&◌, ◌||◌, not, ◌⊎◌, ℤ, pos, ◌+ℤ◌, ◌<ℤ◌, ◌≤ℤ◌, sym, refl, subst, inl, inr, ⊎_elim, arith}
use borrow.Author.Differences.{ints}
use Rattle.std.specs.Prelude.{T}
use Rattle.std.specs.List.{ContainsAt as Has}
use Rattle.std.specs.Int.Signed.{lt_z, lt_z_yes, lt_z_no}
use Rattle.std.proofs.lemmas.Bool.{and_parts, or_cases, cases_lt, false≢true}
use Rattle.theory.specs.Sets.{CellSet, Charges, differ, cost, SmallestCheapestSet}
use Rattle.theory.specs.Flows.{forth, back, Residual, Reached, deficit, onward}
use Rattle.theory.specs.Instance.{two_cells, two_charges, six_back, second_cell}
use Rattle.theory.specs.Grids.{Problem, energy, Grid, StepsNeverFall, step}
use Rattle.theory.specs.Levels.{above, LevelsAreSmallest, priced}
use Rattle.theory.specs.Brackets.{Brackets}
use Rattle.theory.specs.Examples.{higher_charges, SumsAddUp, GraphsAreRead, CostsOfSets, SmallestOfTheCheapest, ChargesCanBeHigher, FlowsAreRead, CertificatesCanFail, EnergiesOfGrids, GridsCanBeMet, StepsCanBeLowered, BracketsAreRead, ChargesOfHalving, BracketsCanBeMet, nothing, flat, two_readings, three_and_seven, raised, halves}
use Rattle.theory.proofs.Every.{every, every_passes}
use Rattle.theory.proofs.Levels.{stacked_lowest}
use Rattle.theory.proofs.Instance.{only_second, certificate_met}

-- what holds of both cells holds of every cell
pub both : (P : ℕ → Type 0) → P 0 → P 1 → (u : ℕ) → u < 2 → P u
both P a b u l =
    ⊎_elim
    (λ (k : u < 1). subst P (omega arith) a)
    (λ (k : 1 ≤ u). subst P (omega arith) b)
    (cases_lt u 1)

-- ---- which sets of two cells are cheapest, by their four costs

-- what a set costs, by the charges of the cells and whether they are inside
abbrev costs_of : ℤ → ℤ → Bool → Bool → ℤ
costs_of x y a b = ((pos 0 +ℤ cond a x (pos 0)) +ℤ cond b y (pos 0)) +ℤ pos (cond (differ a b) 6 0 + 0)

abbrev same : Bool → Bool → Bool
same a b = not (differ a b)

-- the set is the other one, or costs less
abbrev beats : ℤ → ℤ → Bool → Bool → Bool → Bool → Bool
beats x y a b p q = (same a p && same b q) || lt_z (costs_of x y a b) (costs_of x y p q)

abbrev beats_all : ℤ → ℤ → Bool → Bool → Bool
beats_all x y a b = (beats x y a b false false && beats x y a b false true) && (beats x y a b true false && beats x y a b true true)

is_same : (a b : Bool) → same a b ≡ true → a ≡ b
is_same true true e = refl
is_same false false e = refl
is_same true false e = absurd (false≢true e)
is_same false true e = absurd (false≢true e)

beats_each : (x y : ℤ) (a b p q : Bool) → beats_all x y a b ≡ true → beats x y a b p q ≡ true
beats_each x y a b p q e =
    let parts = and_parts (beats x y a b false false && beats x y a b false true) (beats x y a b true false && beats x y a b true true) e in
    let low = and_parts (beats x y a b false false) (beats x y a b false true) parts.0 in
    let high = and_parts (beats x y a b true false) (beats x y a b true true) parts.1 in
    pick p q low.0 low.1 high.0 high.1
  where
    pick : (p q : Bool) → beats x y a b false false ≡ true → beats x y a b false true ≡ true → beats x y a b true false ≡ true → beats x y a b true true ≡ true → beats x y a b p q ≡ true
    pick false false i j k l = i
    pick false true i j k l = j
    pick true false i j k l = k
    pick true true i j k l = l

beaten : (x y : ℤ) (a b p q : Bool) → beats x y a b p q ≡ true → ((a ≡ p) × (b ≡ q)) ⊎ (costs_of x y a b <ℤ costs_of x y p q)
beaten x y a b p q e =
    ⊎_elim
    (λ (k : (same a p && same b q) ≡ true). let parts = and_parts (same a p) (same b q) k in inl (is_same a p parts.0, is_same b q parts.1))
    (λ (k : lt_z (costs_of x y a b) (costs_of x y p q) ≡ true). inr (lt_z_yes (subst (λ (t : Bool). T t) (sym k) tt)))
    (or_cases (same a p && same b q) (lt_z (costs_of x y a b) (costs_of x y p q)) e)

-- a set that beats all four is the smallest cheapest one
smallest_of : (c : Charges) (s : CellSet) → beats_all (c 0) (c 1) (s 0) (s 1) ≡ true → SmallestCheapestSet two_cells c s
unfolding cost
smallest_of c s e = record {
  cheapest = λ t. elim (wins t) [ inl k ↦ as_cheap t k | inr k ↦ omega (arith, ints) ];
  smallest = λ t cheap. elim (wins t) [
    | inl k ↦ both (λ u. s u ≡ true → t u ≡ true) (subst (λ b. b ≡ true) k.0) (subst (λ b. b ≡ true) k.1)
    | inr k ↦ (let back : cost two_cells c t ≤ℤ cost two_cells c s = cheap s in absurd (omega (arith, ints)))
  ];
}
  where
    wins : (t : CellSet) → ((s 0 ≡ t 0) × (s 1 ≡ t 1)) ⊎ (costs_of (c 0) (c 1) (s 0) (s 1) <ℤ costs_of (c 0) (c 1) (t 0) (t 1))
    wins t = beaten (c 0) (c 1) (s 0) (s 1) (t 0) (t 1) (beats_each (c 0) (c 1) (s 0) (s 1) (t 0) (t 1) e)

    as_cheap : (t : CellSet) → (s 0 ≡ t 0) × (s 1 ≡ t 1) → costs_of (c 0) (c 1) (s 0) (s 1) ≤ℤ costs_of (c 0) (c 1) (t 0) (t 1)
    as_cheap t k = subst (λ b. costs_of (c 0) (c 1) (s 0) (s 1) ≤ℤ costs_of (c 0) (c 1) b (t 1)) k.0 (subst (λ b. costs_of (c 0) (c 1) (s 0) (s 1) ≤ℤ costs_of (c 0) (c 1) (s 0) b) k.1 (omega (arith, ints)))

-- ---- sums, graphs and sets

the_tie : Has two_cells.ties 0
the_tie = (0, omega arith, λ d. refl)

pub sums : SumsAddUp
sums = record { below_four = refl; of_a_list = refl; signed_below_two = refl; signed_of_a_list = refl }

pub graphs : GraphsAreRead
graphs = record {
  both_ends_are_cells = certificate_met.0;
  an_end_is_no_cell = λ proper. omega (arith, (proper 0 the_tie).1);
  without_its_tie = refl;
  with_its_tie = refl;
}

pub costs : CostsOfSets
unfolding cost
costs = record {
  cost_of_nothing = refl;
  cost_of_the_first_cell = refl;
  cost_of_the_second_cell = refl;
  cost_of_both_cells = refl;
  meet_of_both_single_cells = refl;
  join_of_both_single_cells = refl;
}

uncharged : (a b : Bool) → costs_of (pos 0) (pos 0) true true ≤ℤ costs_of (pos 0) (pos 0) a b
uncharged true true = omega (arith, ints)
uncharged true false = omega (arith, ints)
uncharged false true = omega (arith, ints)
uncharged false false = omega (arith, ints)

pub smallest : SmallestOfTheCheapest
unfolding cost
smallest = record {
  second_cell_is_smallest_cheapest = smallest_of two_charges second_cell refl;
  both_cells_are_not_cheapest = λ cheap. omega (arith, ints, cheap nothing);
  uncharged_cells_are_cheapest = λ t. uncharged (t 0) (t 1);
  and_not_smallest = λ s. false≢true (s.smallest nothing (λ t. uncharged (t 0) (t 1)) 0 (omega arith) refl);
  nothing_is_smallest = record { cheapest = λ t. uncharged (t 0) (t 1); smallest = λ t cheap u l e. absurd (false≢true e) };
}

pub higher : ChargesCanBeHigher
higher = record {
  nowhere_lower = both (λ u. two_charges u ≤ℤ higher_charges u) (omega (arith, ints)) (omega (arith, ints));
  smallest_of_the_lower = smallest_of two_charges second_cell refl;
  smallest_of_the_higher = smallest_of higher_charges nothing refl;
}

-- ---- flows

pub flows : FlowsAreRead
flows = record {
  leaves_the_first_cell = refl;
  leaves_the_second_cell = refl;
  remainder_of_the_first_cell = refl;
  remainder_of_the_second_cell = refl;
  the_first_is_in_surplus = omega (arith, ints);
  the_second_is_in_deficit = omega (arith, ints);
  room_from_first_to_second = forth 0 the_tie refl refl (omega (arith, ints));
  none_from_second_to_first = full;
  the_first_is_not_reached = λ r. omega (arith, only_second r);
  seven_is_too_much = λ fits. omega (arith, ints, (fits 0 the_tie).0);
}
  where
    full : Residual two_cells six_back 1 0 → ⊥
    full (forth x i near far w) = omega (arith, near)
    full (back x i far near w) = omega (arith, ints, w)

first_reached : Reached two_cells two_charges flat 0
first_reached = onward (deficit {u = 1} (omega arith) (omega (arith, ints))) (back 0 the_tie refl refl (omega (arith, ints)))

pub certificates : CertificatesCanFail
certificates = record {
  flat_flows_reach_the_first_cell = first_reached;
  flat_flows_leave_a_marked_surplus = λ marks c. c.no_surplus 0 (omega arith) (c.marked 0 (omega arith) first_reached) (omega (arith, ints));
  a_mark_is_missing = λ c. false≢true (c.marked 1 (omega arith) (deficit (omega arith) (omega (arith, ints))));
  a_mark_is_too_many = λ c. omega (arith, only_second (c.reached 0 (omega arith) refl));
}

-- ---- grids

pub energies : EnergiesOfGrids
unfolding energy
energies = record {
  energy_of_three_and_seven = refl;
  energy_of_the_readings = refl;
  cost_of_its_tie = refl;
  gap_downward = refl;
  eleven_is_above_top = λ grid. omega (arith, grid 1 (omega arith));
  step_of_the_first_cell = refl;
  step_of_the_second_cell = refl;
}

-- a test that passes at every number below n, of two signed numbers in order
in_order : (n : ℕ) (f g : ℕ → ℤ) → every n (λ m. not (lt_z (g m) (f m))) ≡ true → (m : ℕ) → m < n → f m ≤ℤ g m
in_order n f g e m l = lt_z_no (subst (λ (t : Bool). T t) (sym (every_passes n (λ k. not (lt_z (g k) (f k))) e m l)) tt)

risen : StepsNeverFall two_readings
risen u m l k =
    let less : m < 9 = omega arith in
    both (λ v. step two_readings m v ≤ℤ step two_readings (suc m) v)
    (in_order 9 (λ n. step two_readings n 0) (λ n. step two_readings (suc n) 0) refl m less)
    (in_order 9 (λ n. step two_readings n 1) (λ n. step two_readings (suc n) 1) refl m less) u l

levels : LevelsAreSmallest two_readings three_and_seven
levels m l = smallest_of (step two_readings m) (above three_and_seven m) (every_passes 10 (λ n. beats_all (step two_readings n 0) (step two_readings n 1) (above three_and_seven n 0) (above three_and_seven n 1)) refl m l)

within : Grid two_readings three_and_seven
within = both (λ u. three_and_seven u ≤ 10) (omega arith) (omega arith)

pub grids : GridsCanBeMet
unfolding energy
grids = record {
  steps_never_fall = risen;
  steps_of_other_prices_fall = λ rises. omega (arith, ints, rises 0 0 (omega arith) (omega arith));
  three_and_seven_is_lowest_cheapest = stacked_lowest two_readings three_and_seven certificate_met.0 within levels;
  the_readings_are_not = λ c. omega (arith, c.least.cheapest three_and_seven within);
  levels_are_smallest = levels;
  heights_below_three_hold_both = refl;
  height_three_holds_the_second = refl;
  up_to_seven = refl;
  and_no_further = refl;
}

pub lower : StepsCanBeLowered
lower = record {
  steps_never_fall = λ u m l k.
      (let less : m < 9 = omega arith in
      both (λ v. step other m v ≤ℤ step other (suc m) v)
      (in_order 9 (λ n. step other n 0) (λ n. step other (suc n) 0) refl m less)
      (in_order 9 (λ n. step other n 1) (λ n. step other (suc n) 1) refl m less) u l);
  steps_are_lower = λ u m l k.
      both (λ v. step other m v ≤ℤ step two_readings m v)
      (in_order 10 (λ n. step other n 0) (λ n. step two_readings n 0) refl m k)
      (in_order 10 (λ n. step other n 1) (λ n. step two_readings n 1) refl m k) u l;
}
  where
    other : Problem ℕ
    other = priced two_cells 10 raised

pub brackets : BracketsAreRead
brackets = record {
  middle_of_all = refl;
  middle_rounded_down = refl;
  live_before_the_first_round = refl;
  not_live_after_it = refl;
  not_live_when_settled = refl;
  then_no_tie_is_left = refl;
  the_first_half_lies_below = refl;
  no_half_lies_below_itself = refl;
  settled_at_one_height = refl;
  tied_to_a_higher_cell = refl;
  tied_to_no_lower_cell = refl;
}

pub charges : ChargesOfHalving
charges = record {
  first_round_of_the_first_cell = refl;
  first_round_of_the_second_cell = refl;
  second_round_of_the_first_cell = refl;
  second_round_of_the_second_cell = refl;
  charge_of_a_settled_cell = refl;
  upper_half_without_the_first = refl;
  upper_half_with_the_second = refl;
  upper_half_without_settled_cells = refl;
}

-- the brackets of two cells are equal or disjoint
abbrev Apart : Brackets → ℕ → ℕ → Type 0
Apart b u v = ((b.low u ≡ b.low v) × (b.high u ≡ b.high v)) ⊎ ((b.high u < b.low v) ⊎ (b.high v < b.low u))

pub bracketed : BracketsCanBeMet
bracketed = record {
  before_the_first_round = record {
    low = λ u l. omega arith;
    high = within;
    top = λ u l. omega arith;
    apart = λ u v l k. inl (refl, refl);
  };
  after_it = record {
    low = both (λ u. halves.low u ≤ three_and_seven u) (omega arith) (omega arith);
    high = both (λ u. three_and_seven u ≤ halves.high u) (omega arith) (omega arith);
    top = both (λ u. halves.high u ≤ 10) (omega arith) (omega arith);
    apart = λ u v l k.
        both (λ x. Apart halves x v)
        (both (Apart halves 0) (inl (refl, refl)) (inr (inl (omega arith))) v k)
        (both (Apart halves 1) (inr (inr (omega arith))) (inl (refl, refl)) v k) u l;
  };
  not_where_they_overlap = λ b. elim (b.apart 0 1 (omega arith) (omega arith)) [
    | inl same ↦ omega (arith, same.0)
    | inr away ↦ elim away [ inl x ↦ omega (arith, x) | inr x ↦ omega (arith, x) ]
  ];
  not_without_the_height = λ b. omega (arith, b.low 0 (omega arith));
}
