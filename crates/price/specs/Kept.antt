-- The shapes of the three prices, and so the laws of the three rules.
use Rattle.std.specs.Prelude.{◌≡◌, ℕ, suc, ◌+◌, ◌-◌, ◌*◌, ◌≤◌, cond, nat_le}
use Rattle.std.proofs.Common.{ap, ◌∙◌, inl, inr, mul-add, add-mul, mul-one, arith}
use Rattle.std.proofs.lemmas.Nat.{mul-le}
use Rattle.std.proofs.lemmas.Bool.{cases_lt, le-leb, lt-leb}
use Rattle.limits.specs.Limits.{most_top, most_class, most_price, most_step}
use Rattle.price.specs.Rules.{Lawful}
use Rattle.price.specs.Weights.{class_weight, most_weight}
use Rattle.theory.specs.Grids.{gap}
use Rattle.price.specs.Kinds.{absolute, squared, leaning, squared_price}
use Rattle.price.specs.Making.{RuleLevel}
use Rattle.price.specs.Shapes.{Shape, lawful}

pub weight_most : (q : ℕ) → q ≤ most_class → class_weight q ≤ most_weight
weight_most q h =
    let m : q * (q + 1) ≤ most_class * (most_class + 1) = mul-le q (q + 1) most_class (most_class + 1) h (omega arith) in
    omega arith

-- one more of a factor
more : (t a b : ℕ) → b ≡ a + 1 → t * b ≡ t * a + t
more t a b e = ap (λ n. t * n) e ∙ mul-add t a 1 ∙ ap (λ n. t * a + n) (mul-one t)

pub absolute_shape : (t : ℕ) → Shape (λ v k. t * gap k v) (λ _. t) (λ _. t)
absolute_shape t = record {
  rises = λ v n. more t (gap (v + n) v) (gap (suc (v + n)) v) (omega arith);
  falls = λ k n. more t (gap (suc k) (k + n + 1)) (gap k (k + n + 1)) (omega arith);
  up_more = λ _. omega arith;
  down_more = λ _. omega arith;
}

pub absolute_lawful : (t : ℕ) → RuleLevel t → Lawful (absolute t)
absolute_lawful t level = lawful (absolute t) level (record {
  up = λ q _. class_weight q;
  down = λ q _. class_weight q;
  shape = λ q. absolute_shape (class_weight q);
  up_most = λ q _ b _. omega (arith, weight_most q b);
  down_most = λ q _ b _. omega (arith, weight_most q b);
  price_most = λ v q k a b c. omega (arith, mul-le (class_weight q) (gap k v) most_weight most_top (weight_most q b) (omega arith));
})

-- the next square
square_more : (a b : ℕ) → b ≡ a + 1 → b * b ≡ a * a + (2 * a + 1)
square_more a b e = rw e (mul-add (a + 1) a 1 ∙ omega (arith, add-mul a 1 a, mul-one (a + 1)))

square_step : (t a b n : ℕ) → b ≡ a + 1 → a ≡ n → t * (b * b) ≡ t * (a * a) + t * (2 * n + 1)
square_step t a b n e f =
    ap (λ x. t * x) (square_more a b e) ∙ mul-add t (a * a) (2 * a + 1) ∙ ap (λ x. t * (a * a) + t * (2 * x + 1)) f

odd_more : (t n : ℕ) → t * (2 * n + 1) ≤ t * (2 * (n + 1) + 1)
odd_more t n = mul-le t (2 * n + 1) t (2 * (n + 1) + 1) (omega arith) (omega arith)

pub odd_most : (q n : ℕ) → q ≤ most_class → n ≤ most_top → class_weight q * (2 * n + 1) ≤ most_step
odd_most q n h l = omega (arith, mul-le (class_weight q) (2 * n + 1) most_weight (2 * most_top + 1) (weight_most q h) (omega arith))

pub squared_most : (v q k : ℕ) → v ≤ most_top → q ≤ most_class → k ≤ most_top → squared_price v q k ≤ most_price
squared_most v q k a b c =
    let square : gap k v * gap k v ≤ most_top * most_top = mul-le (gap k v) (gap k v) most_top most_top (omega arith) (omega arith) in
    omega (arith, mul-le (class_weight q) (gap k v * gap k v) most_weight (most_top * most_top) (weight_most q b) square)

pub squared_shape : (t : ℕ) → Shape (λ v k. t * (gap k v * gap k v)) (λ n. t * (2 * n + 1)) (λ n. t * (2 * n + 1))
squared_shape t = record {
  rises = λ v n. square_step t (gap (v + n) v) (gap (suc (v + n)) v) n (omega arith) (omega arith);
  falls = λ k n. square_step t (gap (suc k) (k + n + 1)) (gap k (k + n + 1)) n (omega arith) (omega arith);
  up_more = odd_more t;
  down_more = odd_more t;
}

pub squared_lawful : (t : ℕ) → RuleLevel t → Lawful (squared t)
squared_lawful t level = lawful (squared t) level (record {
  up = λ q n. class_weight q * (2 * n + 1);
  down = λ q n. class_weight q * (2 * n + 1);
  shape = λ q. squared_shape (class_weight q);
  up_most = λ q n b l. odd_most q n b (omega arith);
  down_most = λ q n b l. odd_most q n b (omega arith);
  price_most = λ v q k a b c. squared_most v q k (omega arith) b (omega arith);
})

-- the two sides of the leaning price as one sum, of which one part is 0
leaning_sum : (t v k : ℕ) → cond (nat_le k v) (t * (v - k)) (4 * t * (k - v)) ≡ t * (v - k) + 4 * t * (k - v)
leaning_sum t v k = elim (cases_lt v k) [
  | inl h ↦ (let z : v - k ≡ 0 = omega arith in rw (lt-leb k v h, z) (omega arith))
  | inr h ↦ (let z : k - v ≡ 0 = omega arith in rw (le-leb k v h, z) (omega arith))
]

pub leaning_shape : (t : ℕ) → Shape (λ v k. cond (nat_le k v) (t * (v - k)) (4 * t * (k - v))) (λ _. 4 * t) (λ _. t)
leaning_shape t = record {
  rises = λ v n.
      (let none : t * (v - suc (v + n)) ≡ t * (v - (v + n)) = ap (λ x. t * x) (omega arith) in
      omega (arith, leaning_sum t v (v + n), leaning_sum t v (suc (v + n)), more (4 * t) (v + n - v) (suc (v + n) - v) (omega arith)));
  falls = λ k n.
      (let none : 4 * t * (suc k - (k + n + 1)) ≡ 4 * t * (k - (k + n + 1)) = ap (λ x. 4 * t * x) (omega arith) in
      omega (arith, leaning_sum t (k + n + 1) k, leaning_sum t (k + n + 1) (suc k), more t (k + n + 1 - suc k) (k + n + 1 - k) (omega arith)));
  up_more = λ _. omega arith;
  down_more = λ _. omega arith;
}

pub leaning_lawful : (t : ℕ) → RuleLevel t → Lawful (leaning t)
leaning_lawful t level = lawful (leaning t) level (record {
  up = λ q _. 4 * class_weight q;
  down = λ q _. class_weight q;
  shape = λ q. leaning_shape (class_weight q);
  up_most = λ q _ b _. omega (arith, weight_most q b);
  down_most = λ q _ b _. omega (arith, weight_most q b);
  price_most = λ v q k a b c. omega (
    arith,
    leaning_sum (class_weight q) v k,
    mul-le (class_weight q) (v - k) most_weight most_top (weight_most q b) (omega arith),
    mul-le (4 * class_weight q) (k - v) (4 * most_weight) most_top (omega (arith, weight_most q b)) (omega arith),
  );
})
