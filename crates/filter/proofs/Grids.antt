-- The problem that a survey poses under a lawful rule: its lowest cheapest grid exists, and raised readings lower none of it.
use Rattle.std.proofs.Common.{◌≡◌, ℕ, zero, suc, ◌+◌, ◌-◌, ◌<◌, ◌≤◌, ℤ, ◌≤ℤ◌, sym, ap, subst, arith}
use borrow.Author.Differences.{ints}
use Rattle.std.specs.List.{ContainsAt as Has}
use Rattle.limits.specs.Limits.{most_class}
use Rattle.price.specs.Rules.{Rule, Lawful}
use Rattle.price.specs.Rules.{step as rule_step}
use Rattle.price.proofs.Answered.{knows, step_priced}
use Rattle.theory.specs.Grids.{Heights, LowestCheapestGrid, step, StepsNeverFall}
use Rattle.theory.specs.Levels.{priced as priced_over}
use Rattle.theory.proofs.Levels.{lowest_exists, lower_steps}
use Rattle.theory.proofs.Locals.{lowest_reweighted}
use Rattle.tile.specs.declared.shape.Shape.{Shape}
use Rattle.tile.specs.Shapes.{cells}
use Rattle.tile.specs.Ties.{Tie, ties, graph}
use Rattle.tile.specs.Tiles.{Survey, problem}
use Rattle.tile.proofs.Joins.{ties_join_cells}
use Rattle.passes.specs.Soundness.{SoundSurvey}
use Rattle.filter.specs.Laws.{Raised}

le_by : (x x' y y' : ℤ) → x ≡ x' → y ≡ y' → x' ≤ℤ y' → x ≤ℤ y
le_by x x' y y' ex ey h = subst (λ (z : ℤ). z ≤ℤ y) (sym ex) (subst (λ (z : ℤ). x' ≤ℤ z) (sym ey) h)

le_trans : (x y z : ℤ) → x ≤ℤ y → y ≤ℤ z → x ≤ℤ z
le_trans x y z p q = omega (arith, ints)

le_same : (x y : ℤ) → x ≡ y → x ≤ℤ y
le_same x y e = subst (λ z. x ≤ℤ z) e (omega (arith, ints))

-- many readings up, no step up
lower_by : (r : Rule) → Lawful r → (v q k d : ℕ) → v + d ≤ r.greatest → q ≤ most_class → k + 1 ≤ r.greatest → rule_step r (v + d) q k ≤ℤ rule_step r v q k
lower_by r law v q k zero le lq lk = le_same (rule_step r (v + 0) q k) (rule_step r v q k) (ap (λ (n : ℕ). rule_step r n q k) (omega arith))
lower_by r law v q k (suc d) le lq lk =
    let more : v + suc d ≡ v + d + 1 = omega arith in
    le_trans (rule_step r (v + suc d) q k) (rule_step r (v + d) q k) (rule_step r v q k)
    (subst (λ (z : ℕ). rule_step r z q k ≤ℤ rule_step r (v + d) q k) (sym more) (law.falling_in_reading (v + d) q k (omega arith) lq lk))
    (lower_by r law v q k d (omega arith) lq lk)

lower_at : (r : Rule) → Lawful r → (v w q k : ℕ) → v ≤ w → w ≤ r.greatest → q ≤ most_class → k + 1 ≤ r.greatest → rule_step r w q k ≤ℤ rule_step r v q k
lower_at r law v w q k le lw lq lk =
    let e : v + (w - v) ≡ w = omega arith in
    subst (λ (z : ℕ). rule_step r z q k ≤ℤ rule_step r v q k) e (lower_by r law v q k (w - v) (omega arith) lq lk)

module _ (rule : Rule) (law : Lawful rule) (s : Shape) (reach : s.top ≤ rule.greatest) where
  -- below top, the steps of the problem are those of the rule
  pub step_is : (y : Survey) → SoundSurvey s y → (u m : ℕ) → u < cells s → m < s.top → step (problem rule s y) m u ≡ rule_step rule (y.reading u) (y.class u) m
  step_is y sound u m l lm =
      let k = sound.readings u l in
      step_priced rule (y.reading u) (y.class u) m (knows rule (y.reading u) (y.class u) (omega (arith, k.reading)) k.class) (omega arith)

  pub never_fall : (y : Survey) → SoundSurvey s y → StepsNeverFall (problem rule s y)
  never_fall y sound u m l lm =
      let k = sound.readings u l in
      le_by _ _ _ _ (step_is y sound u m l (omega arith)) (step_is y sound u (suc m) l (omega arith))
      (law.rising_in_height (y.reading u) (y.class u) m (omega (arith, k.reading)) k.class (omega arith))

  -- there is a lowest cheapest grid
  pub exists : (y : Survey) → SoundSurvey s y → (g : Heights) × LowestCheapestGrid (problem rule s y) g
  exists y sound = lowest_exists (problem rule s y) (ties_join_cells s y.tie) (never_fall y sound)

  -- raised readings lower no height of it
  pub compare : (y z : Survey) (g k : Heights) → SoundSurvey s y → SoundSurvey s z → Raised s y z → LowestCheapestGrid (problem rule s y) g → LowestCheapestGrid (problem rule s z) k →
      (u : ℕ) → u < cells s → g u ≤ k u
  compare y z g k sy sz up lg lk =
      let near : (x : Tie) → Has (ties s) x → x.cell < cells s = λ x i. (ties_join_cells s y.tie x i).0 in
      let lk' : LowestCheapestGrid (priced_over (graph s y.tie) s.top (problem rule s z).price) k
      = lowest_reweighted (problem rule s z) (λ x. y.tie x.cell x.side) k (λ x i. up.tie x.cell x.side (near x i)) lk in
      lower_steps (graph s y.tie) s.top (problem rule s y).price (problem rule s z).price g k (ties_join_cells s y.tie) (never_fall y sy) (never_fall z sz)
      (λ u m l lm.
      le_by _ _ _ _ (step_is z sz u m l lm) (step_is y sy u m l lm)
      (subst (λ (q : ℕ). rule_step rule (z.reading u) q m ≤ℤ rule_step rule (y.reading u) (y.class u) m) (sym (up.class u l))
      (lower_at rule law (y.reading u) (z.reading u) (y.class u) m (up.reading u l) (omega (arith, (sz.readings u l).reading)) (sy.readings u l).class (omega arith))))
      lg lk'
