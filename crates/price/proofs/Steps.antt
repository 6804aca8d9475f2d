-- The step of each price by the side of the reading on which the height stands.
use Rattle.std.specs.Prelude.{◌≡◌, ℕ, ◌+◌, ◌-◌, ◌*◌, ◌<◌, ◌≤◌, cond, nat_le, pos, neg_ℤ}
use Rattle.std.proofs.Common.{inl, inr, arith}
use Rattle.std.proofs.lemmas.Int.{ints}
use Rattle.std.proofs.lemmas.Bool.{cases_lt, le-leb, lt-leb}
use Rattle.theory.specs.Grids.{step_of}
use Rattle.price.specs.Weights.{class_weight}
use Rattle.price.specs.Kinds.{absolute_price, squared_price, leaning_price}
use Rattle.price.specs.Shapes.{Shape, rise_at, fall_at}
use Rattle.price.specs.Kept.{absolute_shape, squared_shape, leaning_shape}

module _ {p : ℕ → ℕ → ℕ} {up down : ℕ → ℕ} (s : Shape p up down) where
  -- the step from a height at or above the reading, and from one below it
  pub step_up : (v k : ℕ) → v ≤ k → step_of (p v) k ≡ pos (up (k - v))
  step_up v k h = let e = rise_at s v k (k - v) (omega arith) in omega (arith, ints)

  pub step_down : (v k : ℕ) → k < v → step_of (p v) k ≡ neg_ℤ (pos (down (v - k - 1)))
  step_down v k h = let e = fall_at s v k (v - k - 1) (omega arith) in omega (arith, ints)

  -- the step by the side on which the height stands
  pub step_by_side : (v k : ℕ) → step_of (p v) k ≡ cond (nat_le v k) (pos (up (k - v))) (neg_ℤ (pos (down (v - k - 1))))
  step_by_side v k = elim (cases_lt k v) [
    | inl h ↦ rw (lt-leb v k h) (step_down v k h)
    | inr h ↦ rw (le-leb v k h) (step_up v k h)
  ]

pub absolute_step : (v q k : ℕ) → step_of (absolute_price v q) k ≡ cond (nat_le v k) (pos (class_weight q)) (neg_ℤ (pos (class_weight q)))
absolute_step v q k = step_by_side (absolute_shape (class_weight q)) v k

pub squared_step : (v q k : ℕ) →
    step_of (squared_price v q) k
    ≡ cond (nat_le v k) (pos (class_weight q * (2 * (k - v) + 1))) (neg_ℤ (pos (class_weight q * (2 * (v - k - 1) + 1))))
squared_step v q k = step_by_side (squared_shape (class_weight q)) v k

pub leaning_step : (v q k : ℕ) → step_of (leaning_price v q) k ≡ cond (nat_le v k) (pos (4 * class_weight q)) (neg_ℤ (pos (class_weight q)))
leaning_step v q k = step_by_side (leaning_shape (class_weight q)) v k
