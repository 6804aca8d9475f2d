-- The charge of a cell, and that charging leaves alone what it depends on.
use Rattle.std.proofs.Common.{◌≡◌, ℕ, ◌+◌, ◌<◌, ◌≤◌, false, ◌&&◌, ltb, leb, length, set, ℤ, pos, ◌+ℤ◌, ◌-ℤ◌, neg_ℤ, nat_abs, ◌≤ℤ◌, sym, refl, ap, ◌∙◌, subst, ap₂, inl, inr, ⊎_elim, arith, below_more}
use mathlib.Core.Path.{fun_ext}
use Rattle.std.proofs.lemmas.Int.{ints}
use Rattle.std.proofs.lemmas.Bool.{cases_lt, cases_order, cond-false, cond_both, and_parts, leb-true, ltb-true, eqb-false}
use Rattle.limits.specs.Limits.{most_charge, most_class, most_step, most_tie}
use Rattle.price.specs.Rules.{Rule, Lawful, known, stepped, step as rule_step}
use Rattle.price.proofs.Answered.{knows, stepped_is}
use Rattle.theory.specs.Brackets.{Brackets, middle, settled, lies_below, tied_to, halving_charges}
use Rattle.theory.specs.Grids.{step}
use Rattle.tile.specs.declared.cell.Cell.{Cell}
use Rattle.tile.specs.declared.shape.Shape.{Shape}
use Rattle.tile.specs.declared.side.Side.{Side}
use Rattle.tile.specs.declared.side.Side.TheVariants.{Rightward, Downward}
use Rattle.tile.specs.Records.{stored_tie, stored_flow, recharged}
use Rattle.tile.specs.Shapes.{cells}
use Rattle.tile.specs.Tiles.{Tile, cell, Survey, survey, problem}
use Rattle.flow.specs.Networks.{weighted, brackets}
use Rattle.flow.specs.Points.{Cuttable}
use Rattle.passes.specs.Rounds.{charge_in, Chargeable}
use Rattle.passes.specs.Soundness.{SoundTie}
use Rattle.passes.specs.Writing.{rewritten}
use Rattle.passes.proofs.Rewrites.{rewritten_length, cell_rewritten, cell_past, rewrite_step}

-- ---- the step at the middle

abs_few : (z : ℤ) (n : ℕ) → neg_ℤ (pos n) ≤ℤ z → z ≤ℤ pos n → nat_abs z ≤ n
abs_few z n p q = omega (arith, ints)

-- whatever is asked, the answer is at most the greatest step
pub stepped_few : (r : Rule) → Lawful r → (v q k : ℕ) (z : ℤ) → z ≡ stepped r v q k → nat_abs z ≤ most_step
stepped_few r law v q k z is =
    rw is
    (cond_both (known r.greatest v q && ltb k r.greatest) (rule_step r v q k) (pos 0) (λ x. nat_abs x ≤ most_step)
    (λ e.
    let a = and_parts (known r.greatest v q) (ltb k r.greatest) e in
    let b = and_parts (leb v r.greatest) (leb q most_class) a.0 in
    let lv = leb-true v r.greatest b.0 in
    let lq = leb-true q most_class b.1 in
    let lk : k + 1 ≤ r.greatest = omega (arith, ltb-true k r.greatest a.1) in
    abs_few (rule_step r v q k) most_step (law.step_least v q k lv lq lk) (law.step_most v q k lv lq lk))
    (λ e. omega arith))

-- the middle of an unsettled bracket lies below the top
below_top : (low high top : ℕ) → low ≤ top → high ≤ top → (low ≡ high → ⊥) → middle low high < top
below_top low high top p q apart = elim (cases_order low high) [ inl e ↦ absurd (apart e) | inr (inl l) ↦ omega arith | inr (inr l) ↦ omega arith ]

-- the charge of an unsettled cell
pub charge_is : (rule : Rule) (s : Shape) (t : Tile) → Chargeable s t → s.top ≤ rule.greatest → (u : ℕ) → u < cells s → settled (brackets t) u ≡ false → (z w : ℤ) →
    z ≡ stepped rule (cell t u).reading (cell t u).class (middle (cell t u).low (cell t u).high) →
    w ≡ pos (tied_to (weighted s t) u (λ v. lies_below (brackets t) v u)) -ℤ pos (tied_to (weighted s t) u (λ v. lies_below (brackets t) u v)) →
    z +ℤ w ≡ charge_in rule s t u
charge_is rule s t fit far u l wide z w ez ew =
    let c : Cell = cell t u in
    let m : middle c.low c.high < s.top = below_top c.low c.high s.top (fit.lows u l) (fit.highs u l) (eqb-false c.low c.high wide) in
    let v : c.reading ≤ rule.greatest = omega (arith, fit.readings u l) in
    let k : middle c.low c.high < rule.greatest = omega arith in
    let here = stepped_is rule c.reading c.class (middle c.low c.high) (knows rule c.reading c.class v (fit.classes u l)) k in
    ap₂ (λ (x y : ℤ). x +ℤ y) (ez ∙ here) ew
    ∙ regroup (step (problem rule s (survey t)) (middle (cell t u).low (cell t u).high) u) (tied_to (weighted s t) u (λ v. lies_below (brackets t) v u)) (tied_to (weighted s t) u (λ v. lies_below (brackets t) u v))
    ∙ sym (cond-false (settled (brackets t) u) (pos 0) _ wide)
  where
    regroup : (x : ℤ) (a b : ℕ) → x +ℤ (pos a -ℤ pos b) ≡ (x +ℤ pos a) -ℤ pos b
    regroup x a b = omega (arith, ints)

-- ---- charging keeps readings, classes, ties and brackets

abbrev pub with_charges : (ℕ → ℤ) → Tile → ℕ → Cell
with_charges f t u = recharged (f u) (cell t u)

-- the same records, but for what charging writes
abbrev pub Alike : Tile → Tile → Type 0
Alike t l = (u : ℕ) → recharged (pos 0) (cell l u) ≡ recharged (pos 0) (cell t u)

pub alike : (f : ℕ → ℤ) (t : Tile) (n : ℕ) (l : Tile) → l ≡ rewritten n (with_charges f t) t → Alike t l
alike f t n l e u =
    ap (λ (z : Tile). recharged (pos 0) (cell z u)) e
    ∙ ⊎_elim
    (λ (j : u < n). ap (recharged (pos 0)) (cell_rewritten n (with_charges f t) t u j))
    (λ (j : n ≤ u). ap (recharged (pos 0)) (cell_past n (with_charges f t) t u j))
    (cases_lt u n)

tie_kept : (z : ℤ) (c : Cell) (d : Side) → stored_tie (recharged z c) d ≡ stored_tie c d
tie_kept z c Rightward = refl
tie_kept z c Downward = refl

no_flow : (z : ℤ) (c : Cell) (d : Side) → stored_flow (recharged z c) d ≡ pos 0
no_flow z c Rightward = refl
no_flow z c Downward = refl

ties_alike : (t l : Tile) → Alike t l → (u : ℕ) (d : Side) → stored_tie (cell l u) d ≡ stored_tie (cell t u) d
ties_alike t l a u d = sym (tie_kept (pos 0) (cell l u) d) ∙ ap (λ (c : Cell). stored_tie c d) (a u) ∙ tie_kept (pos 0) (cell t u) d

abbrev surveyed : (ℕ → ℕ) → (ℕ → ℕ) → (ℕ → Side → ℕ) → Survey
surveyed v q w = record { reading = v; class = q; tie = w }

pub surveys_alike : (t l : Tile) → Alike t l → survey l ≡ survey t
surveys_alike t l a =
    ap₂ (λ (v q : ℕ → ℕ). surveyed v q (λ u d. stored_tie (cell l u) d)) (fun_ext (λ u. ap (λ (c : Cell). c.reading) (a u))) (fun_ext (λ u. ap (λ (c : Cell). c.class) (a u)))
    ∙ ap (surveyed (λ u. (cell t u).reading) (λ u. (cell t u).class)) (fun_ext (λ u. fun_ext (ties_alike t l a u)))

abbrev bracketed : (ℕ → ℕ) → (ℕ → ℕ) → Brackets
bracketed x y = record { low = x; high = y }

pub brackets_alike : (t l : Tile) → Alike t l → brackets l ≡ brackets t
brackets_alike t l a = ap₂ bracketed (fun_ext (λ u. ap (λ (c : Cell). c.low) (a u))) (fun_ext (λ u. ap (λ (c : Cell). c.high) (a u)))

-- the first n records of t are charged, and the others are not yet
pub record ChargedBelow (rule : Rule) (s : Shape) (t : Tile) (n : ℕ) (l : Tile) : Type 0 where
  pub records : l ≡ rewritten n (with_charges (charge_in rule s t) t) t
  pub few : (u : ℕ) → u < n → nat_abs (charge_in rule s t u) ≤ most_charge

module _ (rule : Rule) (s : Shape) (t : Tile) (n : ℕ) (l : Tile) (part : ChargedBelow rule s t n l) where
  same : Alike t l
  same = alike (charge_in rule s t) t n l part.records

  -- every charge is still that of t
  charge_same : (u : ℕ) → charge_in rule s l u ≡ charge_in rule s t u
  charge_same u = ap₂ (λ (y : Survey) (b : Brackets). halving_charges (problem rule s y) b u) (surveys_alike t l same) (brackets_alike t l same)

  pub chargeable_same : length l ≡ length t → Chargeable s t → Chargeable s l
  chargeable_same long fit = record {
    whole = omega (arith, fit.whole);
    readings = λ u j. subst (λ (c : Cell). c.reading ≤ s.top) (sym (same u)) (fit.readings u j);
    classes = λ u j. subst (λ (c : Cell). c.class ≤ most_class) (sym (same u)) (fit.classes u j);
    ties = λ u j d. subst (SoundTie s u d) (sym (ties_alike t l same u d)) (fit.ties u j d);
    lows = λ u j. subst (λ (c : Cell). c.low ≤ s.top) (sym (same u)) (fit.lows u j);
    highs = λ u j. subst (λ (c : Cell). c.high ≤ s.top) (sym (same u)) (fit.highs u j);
  }

  -- one record more, where the charge z is written as x
  pub charge_more : (z x : ℤ) (y : Cell) → n < length t → z ≡ charge_in rule s l n → nat_abs z ≤ most_charge → x ≡ z → y ≡ recharged x (cell l n) → ChargedBelow rule s t (n + 1) (set l n y)
  charge_more z x y j ez few ex ey =
      let old : cell l n ≡ cell t n = ap (λ (k : Tile). cell k n) part.records ∙ cell_past n (with_charges (charge_in rule s t) t) t n (omega arith) in
      let is : z ≡ charge_in rule s t n = ez ∙ charge_same n in
      record {
        records = rewrite_step (with_charges (charge_in rule s t) t) t n l y j part.records (ey ∙ ap₂ recharged (ex ∙ is) old);
        few = below_more (λ (u : ℕ). nat_abs (charge_in rule s t u) ≤ most_charge) n part.few (subst (λ (k : ℤ). nat_abs k ≤ most_charge) is few);
      }

-- ---- a charged tile can be cut

pub charged_cuttable : (rule : Rule) (s : Shape) (t l : Tile) → Chargeable s t → ChargedBelow rule s t (cells s) l → Cuttable s l
charged_cuttable rule s t l fit all =
    let f : ℕ → ℤ = charge_in rule s t in
    let is : (u : ℕ) → u < cells s → cell l u ≡ with_charges f t u = λ u j. ap (λ (k : Tile). cell k u) all.records ∙ cell_rewritten (cells s) (with_charges f t) t u j in
    let tie : (u : ℕ) (d : Side) → u < cells s → stored_tie (cell l u) d ≡ stored_tie (cell t u) d = λ u d j. ap (λ (c : Cell). stored_tie c d) (is u j) ∙ tie_kept (f u) (cell t u) d in
    let still : (u : ℕ) (d : Side) → u < cells s → stored_flow (cell l u) d ≡ pos 0 = λ u d j. ap (λ (c : Cell). stored_flow c d) (is u j) ∙ no_flow (f u) (cell t u) d in
    record {
      whole = omega (arith, ap length all.records, rewritten_length (with_charges f t) t (cells s) fit.whole, fit.whole);
      charges = λ u j. subst (λ (c : Cell). nat_abs c.charge ≤ most_charge) (sym (is u j)) (all.few u j);
      ties = λ u d j. subst (λ (w : ℕ). w ≤ most_tie) (sym (tie u d j)) (fit.ties u j d).few;
      edges = λ u d j e. tie u d j ∙ (fit.ties u j d).edge e;
      flows = record {
        bounded = λ u d j. subst (λ (z : ℤ). nat_abs z ≤ stored_tie (cell l u) d) (sym (still u d j)) (omega arith);
        idle = λ u d j _. still u d j;
      };
    }
