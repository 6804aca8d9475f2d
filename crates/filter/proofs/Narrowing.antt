-- A round takes every bracket to the half that holds the height of the lowest cheapest grid.
use Rattle.std.proofs.Common.{◌≡◌, ℕ, suc, ◌+◌, ◌/◌, ◌<◌, ◌≤◌, Bool, true, false, cond, not, ◌&&◌, eqb, ltb, leb, ◌⊎◌, ℤ, pos, ◌+ℤ◌, ◌-ℤ◌, sym, refl, ap, ◌∙◌, subst, ap₂, inl, inr, ⊎_elim, arith}
use mathlib.Core.Path.{fun_ext}
use Rattle.std.proofs.lemmas.Bool.{cases_lt, cases_Bool, cond-true, cond-false, leb-true, leb-false, lt-ltb, le-ltb, ne_eqb, and_from, and_right, not_from_false}
use Rattle.price.specs.Rules.{Rule, Lawful, priced}
use Rattle.theory.specs.Graphs.{Graph}
use Rattle.theory.specs.Sets.{SmallestCheapestSet}
use Rattle.theory.specs.Grids.{Heights, LowestCheapestGrid}
use Rattle.theory.specs.Brackets.{Brackets, middle, settled, lies_below, tied_to, halving_charges, live_graph, Bracketed, upper_half}
use Rattle.theory.proofs.Sums.{for_all, total_same}
use Rattle.theory.proofs.Sets.{smallest_unique}
use Rattle.theory.proofs.Halving.{halving as halves}
use Rattle.theory.proofs.Locals.{smallest_same}
use Rattle.tile.specs.declared.bracket.Bracket.{Bracket}
use Rattle.tile.specs.declared.cell.Cell.{Cell}
use Rattle.tile.specs.declared.shape.Shape.{Shape}
use Rattle.tile.specs.declared.side.Side.{Side}
use Rattle.tile.specs.Halving.{half_below, half_above, half_toward, halving, Disjoint, Holds}
use Rattle.tile.specs.Records.{stored_bracket, recharged}
use Rattle.tile.specs.Shapes.{cells}
use Rattle.tile.specs.Ties.{Tie, ties, graph}
use Rattle.tile.specs.Tiles.{Tile, Survey, cell, survey, problem}
use Rattle.tile.proofs.Halves.{halving_holds, halving_below, halving_apart}
use Rattle.tile.proofs.Joins.{ties_join_cells}
use Rattle.flow.specs.Networks.{brackets, charges, network, marks}
use Rattle.flow.specs.Points.{FourPoints}
use Rattle.flow.specs.Sides.{uncut}
use Rattle.flow.proofs.Certifies.{cut_marks}
use Rattle.flow.proofs.LiveTies.{live_tie}
use Rattle.passes.specs.Soundness.{SoundSurvey}
use Rattle.passes.specs.Writing.{with_bracket}
use Rattle.passes.specs.Rounds.{charge_in, charged, half_marked, narrowed, Chargeable, Narrowable}
use Rattle.passes.proofs.Charges.{Alike, alike, surveys_alike, brackets_alike}
use Rattle.passes.proofs.Rewrites.{rewritten_length, cell_rewritten, cell_past}
use Rattle.filter.specs.Laws.{Recorded}
use Rattle.filter.proofs.Grids.{never_fall}

-- ---- what charging and narrowing keep

module _ (rule : Rule) (s : Shape) (t : Tile) where
  -- what does not look at the charge, flows, mark and rank of a record is the same in the charged tile
  kept : {X : Type 0} (f : Cell → X) → ((z : ℤ) (c : Cell) → f (recharged z c) ≡ f c) → (u : ℕ) → f (cell (charged rule s t) u) ≡ f (cell t u)
  kept f same u =
      ⊎_elim
      (λ (l : u < cells s). ap f (cell_rewritten (cells s) _ t u l) ∙ same _ _)
      (λ (l : cells s ≤ u). ap f (cell_past (cells s) _ t u l))
      (cases_lt u (cells s))

  same : Alike t (charged rule s t)
  same = alike (charge_in rule s t) t (cells s) (charged rule s t) refl

  same_network : network s (charged rule s t) ≡ network s t
  same_network = ap₂ (λ (y : Survey) (b : Brackets). live_graph (graph s y.tie) b) (surveys_alike t (charged rule s t) same) (brackets_alike t (charged rule s t) same)

  -- the marks of any cut of the charged tile are the smallest cheapest set of the round's charges
  pub cut_smallest : (cut : Tile) → FourPoints s (charged rule s t) cut → SmallestCheapestSet (network s t) (charge_in rule s t) (marks cut)
  cut_smallest cut four =
      smallest_same (network s t) (network s t).weight (charges (charged rule s t)) (charge_in rule s t) (marks cut) (λ x i. refl)
      (λ u l. ap (λ (c : Cell). c.charge) (cell_rewritten (cells s) _ t u l))
      (subst (λ (g : Graph Tie). SmallestCheapestSet g (charges (charged rule s t)) (marks cut)) same_network (cut_marks s (charged rule s t) cut four))

  -- a cut of the charged tile keeps what charging keeps
  pub cut_kept : (cut : Tile) → FourPoints s (charged rule s t) cut → {X : Type 0} (f : Cell → X) → ((c : Cell) → f (uncut c) ≡ f c) → ((z : ℤ) (c : Cell) → f (recharged z c) ≡ f c) →
      (u : ℕ) → u < cells s → f (cell cut u) ≡ f (cell t u)
  cut_kept cut four f clean same u l = sym (clean (cell cut u)) ∙ ap f (four.kept u l) ∙ clean (cell (charged rule s t) u) ∙ kept f same u

-- a cut of a charged tile can be narrowed
pub cut_narrowable : (rule : Rule) (s : Shape) (t : Tile) → Chargeable s t → (cut : Tile) → FourPoints s (charged rule s t) cut → Narrowable s cut
cut_narrowable rule s t fit cut four = record {
  whole = omega (arith, four.long, rewritten_length (λ u. recharged (charge_in rule s t u) (cell t u)) t (cells s) fit.whole, fit.whole);
  lows = λ u l. subst (λ (n : ℕ). n ≤ s.top) (sym (cut_kept rule s t cut four (λ c. c.low) (λ c. refl) (λ z c. refl) u l)) (fit.lows u l);
  highs = λ u l. subst (λ (n : ℕ). n ≤ s.top) (sym (cut_kept rule s t cut four (λ c. c.high) (λ c. refl) (λ z c. refl) u l)) (fit.highs u l);
}

-- a cut of a charged tile leaves the records past the cells
pub cut_past : (rule : Rule) (s : Shape) (t cut : Tile) → FourPoints s (charged rule s t) cut → (u : ℕ) → cells s ≤ u → cell cut u ≡ cell t u
cut_past rule s t cut four u l = four.past u l ∙ cell_past (cells s) _ t u l

-- narrowing keeps all but brackets
pub narrowed_kept : (s : Shape) (cut : Tile) {X : Type 0} (f : Cell → X) → ((b : Bracket) (c : Cell) → f (with_bracket b c) ≡ f c) → (u : ℕ) → f (cell (narrowed s cut) u) ≡ f (cell cut u)
narrowed_kept s cut f same u =
    ⊎_elim
    (λ (l : u < cells s). ap f (cell_rewritten (cells s) _ cut u l) ∙ same _ _)
    (λ (l : cells s ≤ u). ap f (cell_past (cells s) _ cut u l))
    (cases_lt u (cells s))

pub marks_narrowed : (s : Shape) (cut : Tile) → marks cut ≡ marks (narrowed s cut)
marks_narrowed s cut = fun_ext (λ u. ap (λ (n : ℕ). eqb n 1) (sym (narrowed_kept s cut (λ c. c.mark) (λ b c. refl) u)))

-- ---- the records of a survey, halved toward a grid

-- every bracket is the r-th halving that holds the height in g
abbrev pub Halved : Shape → Tile → ℕ → Heights → Type 0
Halved s t r g = (u : ℕ) → u < cells s → stored_bracket (cell t u) ≡ halving r s.top (g u)

tied_same : (s : Shape) (w w' : ℕ → Side → ℕ) → ((u : ℕ) (d : Side) → u < cells s → w u d ≡ w' u d) → (u : ℕ) (test : ℕ → Bool) → tied_to (graph s w) u test ≡ tied_to (graph s w') u test
tied_same s w w' e u test =
    total_same (ties s) _ _ (for_all _ (ties s) (λ x i.
    ap (λ (n : ℕ). cond (eqb ((graph s w).near x) u && test ((graph s w).far x)) n 0 + cond (eqb ((graph s w).far x) u && test ((graph s w).near x)) n 0) (e x.cell x.side (ties_join_cells s w x i).0)))

apart_ends : (l h g : ℕ) → l ≤ g → g ≤ h → (l + h) / 2 < g → l ≡ h → ⊥
apart_ends l h g p q m e = omega arith

parted : (a b : Bracket) → (a ≡ b) ⊎ Disjoint a b → ((a.low ≡ b.low) × (a.high ≡ b.high)) ⊎ ((a.high < b.low) ⊎ (b.high < a.low))
parted a b (inl e) = inl (ap (λ (x : Bracket). x.low) e, ap (λ (x : Bracket). x.high) e)
parted a b (inr d) = inr d

module _ (rule : Rule) (law : Lawful rule) (s : Shape) (reach : s.top ≤ rule.greatest) (y : Survey) (sound : SoundSurvey s y) (g : Heights) (low : LowestCheapestGrid (problem rule s y) g)
    (r : ℕ) (t : Tile) (recorded : Recorded s y t) (halved : Halved s t r g) where
  at_most : (u : ℕ) → u < cells s → g u ≤ s.top
  at_most u l = low.least.grid u l

  holds : (u : ℕ) → u < cells s → Holds (stored_bracket (cell t u)) (g u)
  holds u l = subst (λ (b : Bracket). Holds b (g u)) (sym (halved u l)) (halving_holds r s.top (g u) (at_most u l))

  bracketed : Bracketed (problem rule s y) g (brackets t)
  bracketed = record {
    low = λ u l. (holds u l).0;
    high = λ u l. (holds u l).1;
    top = λ u l. subst (λ (b : Bracket). b.high ≤ s.top) (sym (halved u l)) (halving_below r s.top (g u) (at_most u l));
    apart = λ u v lu lv.
        parted (stored_bracket (cell t u)) (stored_bracket (cell t v))
        (subst (λ (a : Bracket). (a ≡ stored_bracket (cell t v)) ⊎ Disjoint a (stored_bracket (cell t v))) (sym (halved u lu))
        (subst (λ (b : Bracket). (halving r s.top (g u) ≡ b) ⊎ Disjoint (halving r s.top (g u)) b) (sym (halved v lv)) (halving_apart r s.top (g u) (g v) (at_most u lu) (at_most v lv))));
  }

  charges_agree : (u : ℕ) → u < cells s → halving_charges (problem rule s y) (brackets t) u ≡ charge_in rule s t u
  charges_agree u l =
      let b : Brackets = brackets t in
      let m : ℕ = middle (b.low u) (b.high u) in
      let same = λ (test : ℕ → Bool). tied_same s y.tie (survey t).tie (λ v d k. sym (recorded.tie v d k)) u test in
      ap₂ (λ (v q : ℕ). cond (settled b u) (pos 0) (((pos (priced rule v q (suc m)) -ℤ pos (priced rule v q m)) +ℤ pos (tied_to (graph s y.tie) u (λ v. lies_below b v u))) -ℤ pos (tied_to (graph s y.tie) u (λ v. lies_below b u v))))
      (sym (recorded.reading u l)) (sym (recorded.class u l))
      ∙ ap₂ (λ (i j : ℕ). cond (settled b u) (pos 0) (((pos (priced rule (cell t u).reading (cell t u).class (suc m)) -ℤ pos (priced rule (cell t u).reading (cell t u).class m)) +ℤ pos i) -ℤ pos j))
      (same (λ v. lies_below b v u)) (same (λ v. lies_below b u v))

  upper : SmallestCheapestSet (network s t) (charge_in rule s t) (upper_half (brackets t) g)
  upper =
      smallest_same (live_graph (graph s y.tie) (brackets t)) (network s t).weight (halving_charges (problem rule s y) (brackets t)) (charge_in rule s t) (upper_half (brackets t) g)
      (λ x i. sym (recorded.tie x.cell x.side (live_tie s t x i).within))
      charges_agree
      (halves (problem rule s y) g (brackets t) (ties_join_cells s y.tie) (never_fall rule law s reach y sound) low bracketed)

  -- where the cut marks a cell, its height lies above the middle
  pub narrows : (cut : Tile) → FourPoints s (charged rule s t) cut → (u : ℕ) → u < cells s → half_marked (cell cut u) ≡ half_toward (stored_bracket (cell t u)) (g u)
  narrows cut four u l =
      let m : ℕ = middle (cell t u).low (cell t u).high in
      let b : Bracket = stored_bracket (cell t u) in
      let bare : stored_bracket (cell cut u) ≡ b = cut_kept rule s t cut four stored_bracket (λ c. refl) (λ z c. refl) u l in
      let marked : eqb (cell cut u).mark 1 ≡ upper_half (brackets t) g u = smallest_unique (network s t) (charge_in rule s t) (marks cut) (upper_half (brackets t) g) (cut_smallest rule s t cut four) upper u l in
      ap₂ (λ (x : Bool) (c : Bracket). cond x (half_above c) (half_below c)) marked bare
      ∙ ⊎_elim
      (λ (e : leb (g u) m ≡ true).
      cond-false (upper_half (brackets t) g u) (half_above b) (half_below b) (and_right (not (settled (brackets t) u)) (ltb m (g u)) (le-ltb m (g u) (leb-true (g u) m e)))
      ∙ sym (cond-true (leb (g u) m) (half_below b) (half_above b) e))
      (λ (e : leb (g u) m ≡ false).
      let above : m < g u = leb-false (g u) m e in
      let open_here : settled (brackets t) u ≡ false = ne_eqb (cell t u).low (cell t u).high (apart_ends (cell t u).low (cell t u).high (g u) (holds u l).0 (holds u l).1 above) in
      cond-true (upper_half (brackets t) g u) (half_above b) (half_below b) (and_from (not (settled (brackets t) u)) (ltb m (g u)) (not_from_false (settled (brackets t) u) open_here) (lt-ltb m (g u) above))
      ∙ sym (cond-false (leb (g u) m) (half_below b) (half_above b) e))
      (cases_Bool (leb (g u) m))
