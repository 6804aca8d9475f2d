-- The laws of every price that has one shape: it rises with every level away from the reading, and by no less from level to level.
use Rattle.std.specs.Prelude.{◌≡◌, ℕ, suc, ◌+◌, ◌-◌, ◌<◌, ◌≤◌, pos, neg_ℤ, ◌≤ℤ◌}
use Rattle.std.proofs.Common.{ap, inl, inr, arith}
use Rattle.std.proofs.lemmas.Int.{ints}
use Rattle.std.proofs.lemmas.Bool.{cases_lt}
use Rattle.limits.specs.Limits.{most_class, most_price, most_step}
use Rattle.theory.specs.Grids.{step_of}
use Rattle.price.specs.Rules.{Rule, Lawful}
use Rattle.price.specs.Making.{RuleLevel}

-- the price p of a fixed class, by reading and height: it rises by `up n` from n levels above the reading,
-- and by `down n` towards n + 1 levels below it
pub record Shape (p : ℕ → ℕ → ℕ) (up down : ℕ → ℕ) : Type 0 where
  pub rises : (v n : ℕ) → p v (suc (v + n)) ≡ p v (v + n) + up n
  pub falls : (k n : ℕ) → p (k + n + 1) k ≡ p (k + n + 1) (suc k) + down n
  pub up_more : (n : ℕ) → up n ≤ up (n + 1)
  pub down_more : (n : ℕ) → down n ≤ down (n + 1)

-- where a height stands to a reading
data Side (v k : ℕ) : Type 0 where
  above : (n : ℕ) → k ≡ v + n → Side v k
  below : (n : ℕ) → v ≡ k + n + 1 → Side v k

side : (v k : ℕ) → Side v k
side v k = elim (cases_lt k v) [ inl h ↦ below (v - k - 1) (omega arith) | inr h ↦ above (k - v) (omega arith) ]

module _ {p : ℕ → ℕ → ℕ} {up down : ℕ → ℕ} (s : Shape p up down) where
  pub rise_at : (v k n : ℕ) → k ≡ v + n → p v (suc k) ≡ p v k + up n
  rise_at v k n e = rw e (s.rises v n)

  pub fall_at : (v k n : ℕ) → v ≡ k + n + 1 → p v k ≡ p v (suc k) + down n
  fall_at v k n e = rw e (s.falls k n)

  -- the step never falls when the height rises by 1
  pub rising : (v k : ℕ) → step_of (p v) k ≤ℤ step_of (p v) (suc k)
  rising v k = elim (side v k) [
    | above n e ↦ elim (side v (suc k)) [
      | above m d ↦ (let u : up m ≡ up (n + 1) = ap up (omega arith) in
          omega (arith, ints, rise_at v k n e, rise_at v (suc k) m d, s.up_more n))
      | below m d ↦ absurd (omega arith)
    ]
    | below n e ↦ elim (side v (suc k)) [
      | above m d ↦ omega (arith, ints, fall_at v k n e, rise_at v (suc k) m d)
      | below m d ↦ (let u : down n ≡ down (m + 1) = ap down (omega arith) in
          omega (arith, ints, fall_at v k n e, fall_at v (suc k) m d, s.down_more m))
    ]
  ]

  -- the step never rises when the reading rises by 1
  pub falling : (v k : ℕ) → step_of (p (v + 1)) k ≤ℤ step_of (p v) k
  falling v k = elim (side v k) [
    | above n e ↦ elim (side (v + 1) k) [
      | above m d ↦ (let u : up n ≡ up (m + 1) = ap up (omega arith) in
          omega (arith, ints, rise_at v k n e, rise_at (v + 1) k m d, s.up_more m))
      | below m d ↦ omega (arith, ints, rise_at v k n e, fall_at (v + 1) k m d)
    ]
    | below n e ↦ elim (side (v + 1) k) [
      | above m d ↦ absurd (omega arith)
      | below m d ↦ (let u : down m ≡ down (n + 1) = ap down (omega arith) in
          omega (arith, ints, fall_at v k n e, fall_at (v + 1) k m d, s.down_more n))
    ]
  ]

  -- bounds of the step, where readings and heights go up to t
  pub least : (bound v k t : ℕ) → ((n : ℕ) → n < t → down n ≤ bound) → v ≤ t → neg_ℤ (pos bound) ≤ℤ step_of (p v) k
  least bound v k t h l = elim (side v k) [
    | above n e ↦ omega (arith, ints, rise_at v k n e)
    | below n e ↦ omega (arith, ints, fall_at v k n e, h n (omega arith))
  ]

  pub most : (bound v k t : ℕ) → ((n : ℕ) → n < t → up n ≤ bound) → k < t → step_of (p v) k ≤ℤ pos bound
  most bound v k t h l = elim (side v k) [
    | above n e ↦ omega (arith, ints, rise_at v k n e, h n (omega arith))
    | below n e ↦ omega (arith, ints, fall_at v k n e)
  ]

-- a rule whose price has such a shape at every class, within the bounds
pub record Shaped (r : Rule) : Type 0 where
  pub up : ℕ → ℕ → ℕ
  pub down : ℕ → ℕ → ℕ
  pub shape : (q : ℕ) → Shape (λ v k. r.price v q k) (up q) (down q)
  pub up_most : (q n : ℕ) → q ≤ most_class → n < r.greatest → up q n ≤ most_step
  pub down_most : (q n : ℕ) → q ≤ most_class → n < r.greatest → down q n ≤ most_step
  pub price_most : (v q k : ℕ) → v ≤ r.greatest → q ≤ most_class → k ≤ r.greatest → r.price v q k ≤ most_price

-- keeps all the laws
pub lawful : (r : Rule) → RuleLevel r.greatest → Shaped r → Lawful r
lawful r level s = record {
  level_least = level.0;
  level_most = level.1;
  rising_in_height = λ v q k _ _ _. rising (s.shape q) v k;
  falling_in_reading = λ v q k _ _ _. falling (s.shape q) v k;
  price_most = s.price_most;
  step_least = λ v q k a b _. least (s.shape q) most_step v k r.greatest (λ n. s.down_most q n b) a;
  step_most = λ v q k _ b c. most (s.shape q) most_step v k r.greatest (λ n. s.up_most q n b) (omega arith);
}
