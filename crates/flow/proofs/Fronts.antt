-- The front of a tile, which holds the cells of its shape: what a maker that cuts it is given, and what it leaves.
use Rattle.std.proofs.Common.{◌≡◌, ℕ, ◌+◌, ◌-◌, ◌*◌, ◌<◌, ◌≤◌, true, false, ◌++◌, length, take, drop, ℤ, pos, nat_abs, ◌<ℤ◌, sym, refl, ap, ◌∙◌, subst, ⊎_elim, arith, length-append, length-drop}
use Rattle.std.proofs.lemmas.Nat.{mul-le}
use Rattle.std.proofs.lemmas.List.{get_or-take, get_or-drop, get_or_past, get_or_append_left, get_or-append_right, length-take-le}
use Rattle.std.proofs.lemmas.Int.{ints}
use Rattle.std.proofs.lemmas.Bool.{cases_lt, cases_Bool, and_left, and_right, and_cases, both_ways}
use Rattle.limits.specs.Limits.{most_charge, most_tie, most_columns, most_strip_rows}
use Rattle.tile.specs.declared.cell.Cell.{Cell}
use Rattle.tile.specs.declared.shape.Shape.{Shape}
use Rattle.tile.specs.declared.side.Side.{Side}
use Rattle.tile.specs.declared.side.Side.TheVariants.{Rightward, Downward}
use Rattle.tile.specs.Records.{stored_tie, stored_flow}
use Rattle.tile.specs.Shapes.{cells}
use Rattle.tile.specs.Ties.{offset, has_neighbour}
use Rattle.tile.specs.Tiles.{Tile, cell, blank}
use Rattle.flow.specs.Sides.{live_pair, uncut, Admissible, Cut}
use Rattle.flow.specs.Networks.{is_live}
use Rattle.flow.specs.Points.{FlowsFit, Cuttable, FourPoints}
use Rattle.flow.proofs.Fields.{weight_still}
use Rattle.flow.proofs.LiveTies.{tie_at, lives, live_by_pair}
use Rattle.flow.proofs.Reaching.{remains_is, reached_reach, reach_reached}

blank_flow : (d : Side) → stored_flow blank d ≡ pos 0
blank_flow Rightward = refl
blank_flow Downward = refl

blank_tie : (d : Side) → stored_tie blank d ≡ 0
blank_tie Rightward = refl
blank_tie Downward = refl

-- ---- what the front is

module _ (s : Shape) (t : Tile) (given : Cuttable s t) where
  pub front_long : length (take (cells s) t) ≡ cells s
  front_long = length-take-le (cells s) t given.whole

  front_same : (u : ℕ) → u < cells s → cell t u ≡ cell (take (cells s) t) u
  front_same u l = sym (get_or-take (cells s) t u blank l)

  front_past : (u : ℕ) → cells s ≤ u → cell (take (cells s) t) u ≡ blank
  front_past u l = get_or_past (take (cells s) t) u blank (subst (λ (n : ℕ). n ≤ u) (sym front_long) l)

  -- what holds of the cells and of a blank record holds all along the front
  throughout : (P : Cell → Type 0) → ((u : ℕ) → u < cells s → P (cell t u)) → P blank → (u : ℕ) → P (cell (take (cells s) t) u)
  throughout P h z u =
      ⊎_elim
      (λ (l : u < cells s). subst P (front_same u l) (h u l))
      (λ (l : cells s ≤ u). subst P (sym (front_past u l)) z)
      (cases_lt u (cells s))

  front_idle : (d : Side) (b : ℕ) → live_pair (take (cells s) t) b (b + offset s.columns d) ≡ false → stored_flow (cell (take (cells s) t) b) d ≡ pos 0
  front_idle d b e =
      ⊎_elim
      (λ (l : b < cells s).
      let off : is_live s t b d ≡ false
      = ⊎_elim
      (λ (n : has_neighbour s b d ≡ true). and_right (has_neighbour s b d) (lives s t (tie_at b d)) (live_by_pair s t (take (cells s) t) front_same b d l n ∙ e))
      (λ (n : has_neighbour s b d ≡ false). and_left (has_neighbour s b d) (lives s t (tie_at b d)) n)
      (cases_Bool (has_neighbour s b d)) in
      subst (λ (x : Cell). stored_flow x d ≡ pos 0) (front_same b l) (given.flows.idle b d l off))
      (λ (l : cells s ≤ b). subst (λ (x : Cell). stored_flow x d ≡ pos 0) (sym (front_past b l)) (blank_flow d))
      (cases_lt b (cells s))

  pub front_admissible : Admissible s.columns (take (cells s) t)
  front_admissible = record {
    wide = s.wide.0;
    wide_few = s.wide.1;
    few = subst (λ (n : ℕ). n ≤ most_strip_rows * most_columns) (sym front_long) (mul-le s.rows s.columns most_strip_rows most_columns s.tall.1 s.wide.1);
    charges = throughout (λ x. nat_abs x.charge ≤ most_charge) given.charges (omega arith);
    weights = λ d. throughout (λ x. stored_tie x d ≤ most_tie) (λ u l. given.ties u d l) (rw (blank_tie d) (omega arith));
    bounded = λ d. throughout (λ x. nat_abs (stored_flow x d) ≤ stored_tie x d) (λ u l. given.flows.bounded u d l) (rw (blank_tie d, blank_flow d) (omega arith));
    idle = front_idle;
  }

-- ---- what a cut of the front leaves

none_of : (z : ℤ) (w : ℕ) → nat_abs z ≤ w → w ≡ 0 → z ≡ pos 0
none_of z w h e = omega (arith, ints)

module _ (s : Shape) (t f : Tile) (given : Cuttable s t) (cut : Cut s.columns (take (cells s) t) f) where
  cut_long : length f ≡ cells s
  cut_long = cut.still.long ∙ front_long s t given

  cut_in : (u : ℕ) → u < cells s → u < length f
  cut_in u l = subst (λ (n : ℕ). u < n) (sym cut_long) l

  abbrev after : Tile
  after = f ++ drop (cells s) t

  after_same : (u : ℕ) → u < cells s → cell after u ≡ cell f u
  after_same u l = get_or_append_left f (drop (cells s) t) blank u (cut_in u l)

  after_past : (u : ℕ) → cells s ≤ u → cell after u ≡ cell t u
  after_past u l =
      let e : cells s + (u - cells s) ≡ u = omega arith in
      get_or-append_right f (drop (cells s) t) (cells s) u blank cut_long l ∙ get_or-drop (cells s) t (u - cells s) blank ∙ ap (λ (k : ℕ). cell t k) e

  after_kept : (u : ℕ) → u < cells s → uncut (cell after u) ≡ uncut (cell t u)
  after_kept u l = ap uncut (after_same u l) ∙ cut.still.same u ∙ ap uncut (sym (front_same s t given u l))

  after_edges : (u : ℕ) (d : Side) → u < cells s → has_neighbour s u d ≡ false → stored_tie (cell after u) d ≡ 0
  after_edges u d l e =
      ap (λ (x : Cell). stored_tie x d) (after_same u l) ∙ weight_still (take (cells s) t) f cut.still d u
      ∙ ap (λ (x : Cell). stored_tie x d) (sym (front_same s t given u l)) ∙ given.edges u d l e

  after_bounded : (u : ℕ) (d : Side) → u < cells s → nat_abs (stored_flow (cell after u) d) ≤ stored_tie (cell after u) d
  after_bounded u d l = subst (λ (x : Cell). nat_abs (stored_flow x d) ≤ stored_tie x d) (sym (after_same u l)) (cut.sound.bounded d u)

  after_idle : (u : ℕ) (d : Side) → u < cells s → is_live s after u d ≡ false → stored_flow (cell after u) d ≡ pos 0
  after_idle u d l e =
      ⊎_elim
      (λ (n : has_neighbour s u d ≡ true).
      let dead : lives s after (tie_at u d) ≡ false
      = ⊎_elim
      (λ (m : has_neighbour s u d ≡ false). absurd (both_ways (has_neighbour s u d) m n))
      (λ (m : lives s after (tie_at u d) ≡ false). m)
      (and_cases (has_neighbour s u d) (lives s after (tie_at u d)) e) in
      subst (λ (x : Cell). stored_flow x d ≡ pos 0) (sym (after_same u l)) (cut.sound.idle d u (sym (live_by_pair s after f after_same u d l n) ∙ dead)))
      (λ (n : has_neighbour s u d ≡ false). none_of (stored_flow (cell after u) d) (stored_tie (cell after u) d) (after_bounded u d l) (after_edges u d l n))
      (cases_Bool (has_neighbour s u d))

  after_fit : FlowsFit s after
  after_fit = record { bounded = after_bounded; idle = after_idle }

  pub front_cut : FourPoints s t (f ++ drop (cells s) t)
  front_cut = record {
    long = let w = given.whole in simp (length-append, length-drop) (omega (arith, cut_long));
    past = after_past;
    kept = after_kept;
    flows = after_fit;
    bit = λ u l. subst (λ (x : Cell). x.mark ≤ 1) (sym (after_same u l)) (cut.bit u (cut_in u l));
    marked = λ u l r. ap (λ (x : Cell). x.mark) (after_same u l) ∙ cut.marked u (reached_reach s after f cut_long after_same after_fit after_edges r);
    reached = λ u l e. reach_reached s after f cut_long after_same after_fit after_edges (cut.reached u (cut_in u l) (ap (λ (x : Cell). x.mark) (sym (after_same u l)) ∙ e));
    no_surplus = λ u l e p.
        cut.no_surplus u (cut_in u l) (ap (λ (x : Cell). x.mark) (sym (after_same u l)) ∙ e)
        (subst (λ (z : ℤ). pos 0 <ℤ z) (remains_is s after f cut_long after_same after_fit after_edges u l) p);
  }

-- ---- the same of a part `tile[0..n]` in rows of c, where the code has worked out n and c

module _ (s : Shape) (t : Tile) (given : Cuttable s t) (n c : ℕ) (all : n ≡ cells s) (row : c ≡ s.columns) where
  part_is : cells s ≡ n - 0
  part_is = omega (arith, all)

  pub part_admissible : Admissible c (take (n - 0) t)
  part_admissible =
      subst (λ (k : ℕ). Admissible k (take (n - 0) t)) (sym row)
      (subst (λ (k : ℕ). Admissible s.columns (take k t)) part_is (front_admissible s t given))

  pub part_cut : (f : Tile) → Cut c (take (n - 0) t) f → FourPoints s t (f ++ drop (n - 0) t)
  part_cut f cut =
      let own : Cut s.columns (take (cells s) t) f
      = subst (λ (k : ℕ). Cut s.columns (take k t) f) (sym part_is) (subst (λ (k : ℕ). Cut k (take (n - 0) t) f) row cut) in
      subst (λ (k : ℕ). FourPoints s t (f ++ drop k t)) part_is (front_cut s t f given own)
