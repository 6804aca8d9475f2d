-- What a rule answers within its ranges, and its greatest price.
use Rattle.std.proofs.Common.{◌≡◌, ℕ, suc, ◌<◌, ◌≤◌, ◌&&◌, true, leb, ltb, pos, ◌-ℤ◌, sym, ◌∙◌, ap₂, inl, inr, arith}
use Rattle.std.proofs.lemmas.Bool.{cases_Bool, cond-true, and_from, and_parts, leb-true, le-leb, lt-ltb}
use Rattle.limits.specs.Limits.{most_class, most_price}
use Rattle.theory.specs.Grids.{step_of}
use Rattle.price.specs.Rules.{Rule, Lawful, step, known, priced, stepped}

pub knows : (r : Rule) (v q : ℕ) → v ≤ r.greatest → q ≤ most_class → known r.greatest v q ≡ true
knows r v q lv lq = and_from _ _ (le-leb _ _ lv) (le-leb _ _ lq)

-- of a reading and a class that it knows: its price up to its greatest level
pub priced_is : (r : Rule) (v q k : ℕ) → known r.greatest v q ≡ true → k ≤ r.greatest → priced r v q k ≡ r.price v q k
priced_is r v q k e l = cond-true (known r.greatest v q && leb k r.greatest) (r.price v q k) 0 (and_from _ _ e (le-leb _ _ l))

-- and its step below that
pub step_priced : (r : Rule) (v q k : ℕ) → known r.greatest v q ≡ true → k < r.greatest → step_of (priced r v q) k ≡ step r v q k
step_priced r v q k e l = ap₂ (λ (x y : ℕ). pos x -ℤ pos y) (priced_is r v q (suc k) e (omega arith)) (priced_is r v q k e (omega arith))

pub stepped_is : (r : Rule) (v q k : ℕ) → known r.greatest v q ≡ true → k < r.greatest → stepped r v q k ≡ step_of (priced r v q) k
stepped_is r v q k e l = cond-true (known r.greatest v q && ltb k r.greatest) (step r v q k) (pos 0) (and_from _ _ e (lt-ltb _ _ l)) ∙ sym (step_priced r v q k e l)

-- whatever is asked of a lawful rule, the price that it answers keeps the bound
pub priced_most : (r : Rule) → Lawful r → (v q k : ℕ) → priced r v q k ≤ most_price
priced_most r l v q k = elim (cases_Bool (known r.greatest v q && leb k r.greatest)) [
  | inl e ↦
      (let both = and_parts (known r.greatest v q) (leb k r.greatest) e in
      let parts = and_parts (leb v r.greatest) (leb q most_class) both.0 in
      rw e (l.price_most v q k (leb-true v r.greatest parts.0) (leb-true q most_class parts.1) (leb-true k r.greatest both.1)))
  | inr e ↦ rw e (omega arith)
]
