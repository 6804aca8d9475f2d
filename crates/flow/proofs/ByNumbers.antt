-- The examples in numbers, computed.
use Rattle.std.specs.Prelude.{unsigned_abs}
use Rattle.std.proofs.Common.{◌≡◌, ℕ, zero, suc, ◌<◌, ◌≤◌, false, [], ◌∷◌, pos, neg_ℤ, ◌<ℤ◌, refl, sym, ap, subst, ⊎_elim, arith, true≢false}
use Rattle.std.proofs.lemmas.Int.{ints}
use Rattle.std.proofs.lemmas.Bool.{cases_lt}
use Rattle.std.specs.List.{ContainsAt as Has}
use Rattle.limits.specs.Limits.{most_charge, most_tie}
use Rattle.theory.specs.Flows.{remainder, forth, back, Reached, deficit, onward}
use Rattle.theory.proofs.ByNumbers.{both}
use Rattle.tile.specs.declared.cell.Cell.{Cell}
use Rattle.tile.specs.declared.side.Side.{Side}
use Rattle.tile.specs.declared.side.Side.TheVariants.{Rightward, Downward}
use Rattle.tile.specs.Records.{stored_tie, stored_flow}
use Rattle.tile.specs.Ties.{Tie, has_neighbour}
use Rattle.tile.specs.Tiles.{Tile, cell}
use Rattle.tile.specs.Examples.{two_in_a_row, first, second, pair}
use Rattle.flow.specs.Sides.{uncut}
use Rattle.flow.specs.Networks.{charges, flow_on, network, is_live}
use Rattle.flow.specs.Points.{Cuttable, FlowsFit, FourPoints}
use Rattle.flow.specs.Examples.{between, before, marked, NetworksAreRead, TilesToCut, PointsOfCuts}
use Rattle.flow.proofs.Certifies.{cut_marks}

pub networks : NetworksAreRead
networks = record {
  one_live_tie = refl;
  none_to_a_settled_cell = refl;
  live_to_the_right = refl;
  none_off_the_edge = refl;
  flow_of_the_tie = refl;
  charge_of_the_second_cell = refl;
  first_is_not_marked = refl;
  second_is_marked = refl;
  remainder_of_the_first_cell = refl;
  remainder_of_the_second_cell = refl;
  uncut_leaves_no_mark = refl;
}

-- ---- what holds of two cells, and of their sides

each : (P : ℕ → Side → Type 0) → P 0 Rightward → P 0 Downward → P 1 Rightward → P 1 Downward → (u : ℕ) (d : Side) → u < 2 → P u d
each P a b x y u Rightward = both (λ v. P v Rightward) a x u
each P a b x y u Downward = both (λ v. P v Downward) b y u

-- ---- which tiles may be cut

given : Cuttable two_in_a_row before
given = record {
  whole = omega arith;
  charges = both (λ u. unsigned_abs (cell before u).charge ≤ most_charge) (omega arith) (omega arith);
  ties = each (λ u d. stored_tie (cell before u) d ≤ most_tie) (omega arith) (omega arith) (omega arith) (omega arith);
  edges = each (λ u d. has_neighbour two_in_a_row u d ≡ false → stored_tie (cell before u) d ≡ 0) (λ e. absurd (true≢false e)) (λ e. refl) (λ e. refl) (λ e. refl);
  flows = record {
    bounded = each (λ u d. unsigned_abs (stored_flow (cell before u) d) ≤ stored_tie (cell before u) d) (omega arith) (omega arith) (omega arith) (omega arith);
    idle = each (λ u d. is_live two_in_a_row before u d ≡ false → stored_flow (cell before u) d ≡ pos 0) (λ e. refl) (λ e. refl) (λ e. refl) (λ e. refl);
  };
}

fit : FlowsFit two_in_a_row pair
fit = record {
  bounded = each (λ u d. unsigned_abs (stored_flow (cell pair u) d) ≤ stored_tie (cell pair u) d) (omega arith) (omega arith) (omega arith) (omega arith);
  idle = each (λ u d. is_live two_in_a_row pair u d ≡ false → stored_flow (cell pair u) d ≡ pos 0) (λ e. absurd (true≢false e)) (λ e. refl) (λ e. refl) (λ e. refl);
}

pub tiles : TilesToCut
tiles = record {
  before_the_cut = given;
  after_it = record {
    whole = omega arith;
    charges = both (λ u. unsigned_abs (cell pair u).charge ≤ most_charge) (omega arith) (omega arith);
    ties = each (λ u d. stored_tie (cell pair u) d ≤ most_tie) (omega arith) (omega arith) (omega arith) (omega arith);
    edges = each (λ u d. has_neighbour two_in_a_row u d ≡ false → stored_tie (cell pair u) d ≡ 0) (λ e. absurd (true≢false e)) (λ e. refl) (λ e. refl) (λ e. refl);
    flows = fit;
  };
  one_record_is_too_few = λ c. omega (arith, c.whole);
  a_flow_on_a_tie_that_is_not_live = λ c. omega (arith, ints, c.flows.idle 0 Rightward (omega arith) refl);
  a_flow_past_the_weight = λ c. omega (arith, c.flows.bounded 0 Rightward (omega arith));
  a_tie_off_the_edge = λ c. omega (arith, c.edges 1 Rightward (omega arith) refl);
}

-- ---- the four points

-- after the cut, with another mark at the first cell
abbrev after : ℕ → Tile
after m = marked m first ∷ second ∷ []

abbrev ReachedAfter : ℕ → ℕ → Type 0
ReachedAfter m = Reached (network two_in_a_row (after m)) (charges (after m)) (flow_on (after m))

only_tie : (x : Tie) → Has (between ∷ []) x → x ≡ between
only_tie x (zero, l, at) = sym (at x)
only_tie x (suc i, l, at) = absurd (omega arith)

-- the tie is full on the way back
full : (m : ℕ) → neg_ℤ (flow_on (after m) between) <ℤ pos ((network two_in_a_row (after m)).weight between) → ⊥
full m w = omega (arith, ints, w)

-- so only the second cell is reached
only_second : (m : ℕ) {u : ℕ} → ReachedAfter m u → u ≡ 1
only_second m {u} (deficit l h) =
    ⊎_elim
    (λ (k : u < 1). let z : u ≡ 0 = omega arith in absurd (five (subst (λ (v : ℕ). remainder (network two_in_a_row (after m)) (charges (after m)) (flow_on (after m)) v <ℤ pos 0) z h)))
    (λ (k : 1 ≤ u). omega arith)
    (cases_lt u 1)
  where
    five : remainder (network two_in_a_row (after m)) (charges (after m)) (flow_on (after m)) 0 <ℤ pos 0 → ⊥
    five h = omega (arith, ints, h)
only_second m (onward r (forth x i near far w)) = absurd (omega (arith, only_second m r, near, ap (λ (y : Tie). y.cell) (only_tie x i)))
only_second m (onward r (back x i far near w)) = absurd (full m (subst (λ y. neg_ℤ (flow_on (after m) y) <ℤ pos ((network two_in_a_row (after m)).weight y)) (only_tie x i) w))

-- where nothing flows, the first cell is reached from the second
first_reached : (m n : ℕ) → let t : Tile = marked m (uncut first) ∷ marked n (uncut second) ∷ [] in Reached (network two_in_a_row t) (charges t) (flow_on t) 0
first_reached m n = onward (deficit {u = 1} (omega arith) (omega (arith, ints))) (back between (0, omega arith, λ d. refl) refl refl (omega (arith, ints)))

kept_points : FourPoints two_in_a_row before pair
kept_points = record {
  long = refl;
  past = past;
  kept = both (λ u. uncut (cell pair u) ≡ uncut (cell before u)) refl refl;
  flows = fit;
  bit = both (λ u. (cell pair u).mark ≤ 1) (omega arith) (omega arith);
  marked = λ u l r. subst (λ v. (cell pair v).mark ≡ 1) (sym (only_second 0 r)) refl;
  reached = both (λ u. (cell pair u).mark ≡ 1 → ReachedAfter 0 u) (λ e. absurd (omega arith)) (λ e. deficit (omega arith) (omega (arith, ints)));
  no_surplus = both (λ u. (cell pair u).mark ≡ 1 → pos 0 <ℤ remainder (network two_in_a_row pair) (charges pair) (flow_on pair) u → ⊥) (λ e more. omega arith) (λ e more. omega (arith, ints, more));
}
  where
    past : (u : ℕ) → 2 ≤ u → cell pair u ≡ cell before u
    past zero l = absurd (omega arith)
    past (suc zero) l = absurd (omega arith)
    past (suc (suc u)) l = refl

pub points : PointsOfCuts
points = record {
  six_back_keep_the_four_points = kept_points;
  the_marks_are_the_smallest_cheapest_set = cut_marks two_in_a_row before pair kept_points;
  flat_flows_break_point_4 = λ p. p.no_surplus 0 (omega arith) refl (omega (arith, ints));
  flat_flows_and_one_mark_break_point_3 = λ p. omega (arith, p.marked 0 (omega arith) (first_reached 0 1));
  both_marks_break_point_3 = λ p. omega (arith, only_second 1 (p.reached 0 (omega arith) refl));
  a_mark_of_2_breaks_point_3 = λ p. omega (arith, p.bit 1 (omega arith));
  seven_back_break_point_2 = λ p. omega (arith, p.flows.bounded 0 Rightward (omega arith));
  another_charge_breaks_point_1 = λ p. omega (arith, ap (λ (c : Cell). c.low) (p.kept 1 (omega arith)));
  another_record_past_the_cells_breaks_point_1 = λ p. omega (arith, ap (λ (c : Cell). c.reading) (p.past 2 (omega arith)));
}
