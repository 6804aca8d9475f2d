-- The laws of halvings, and of the rounds due.
use Rattle.std.proofs.Common.{◌≡◌, ℕ, zero, suc, ◌+◌, ◌*◌, ◌/◌, ◌^◌, ◌<◌, ◌≤◌, Bool, true, false, cond, leb, ◌⊎◌, sym, refl, ap, ◌∙◌, subst, ap₂, inl, inr, ⊎_elim, add-zero, add-suc, suc-add, zero-add, add-one, arith, pow_mono}
use native.Mathlib.Nat.{pow-succ'}
use lib.Count.{count_leading_zeros}
use Rattle.std.proofs.lemmas.Nat.{leading_length}
use Rattle.std.proofs.lemmas.Bool.{cond_both, cond-true, cond-false, leb-true, leb-false, le-leb, lt-leb, cases_lt}
use Rattle.theory.specs.Brackets.{middle}
use Rattle.tile.specs.declared.bracket.Bracket.{Bracket}
use Rattle.tile.specs.Halving.{from_to, half_below, half_above, half_toward, halving, RoundsOver, RoundsDue, Holds, Disjoint, HalvingHoldsItsHeight, HalvingStaysBelowTop, HalvingsAreEqualOrDisjoint, HalvingEndsAtItsHeight}

-- the middle
abbrev mid : Bracket → ℕ
mid b = middle b.low b.high

-- what holds of both halves, by which side of the middle the height lies on, holds of the half toward it
by_half : (P : Bracket → Type 0) (b : Bracket) (h : ℕ) → (h ≤ mid b → P (half_below b)) → (mid b < h → P (half_above b)) → P (half_toward b h)
by_half P b h l u = cond_both (leb h (mid b)) (half_below b) (half_above b) P (λ e. l (leb-true h (mid b) e)) (λ e. u (leb-false h (mid b) e))

-- one halving more
pub halving_more : (r top h : ℕ) (b : Bracket) → b ≡ halving r top h → half_toward b h ≡ halving (r + 1) top h
halving_more r top h b e = ap (λ z. half_toward z h) e ∙ ap (λ n. halving n top h) (sym (add-one r))

pub halving_holds : HalvingHoldsItsHeight
halving_holds zero top h le = (omega arith, le)
halving_holds (suc r) top h le =
    let b : Bracket = halving r top h in
    let w : Holds b h = halving_holds r top h le in
    by_half (λ z. Holds z h) b h (λ m. (w.0, m)) (λ m. (omega arith, w.1))

-- the half toward a height of the bracket lies inside it
inner : (b : Bracket) (h : ℕ) → Holds b h → (b.low ≤ (half_toward b h).low) × ((half_toward b h).high ≤ b.high)
inner b h w = by_half (λ z. (b.low ≤ z.low) × (z.high ≤ b.high)) b h (λ m. (omega arith, omega arith)) (λ m. (omega arith, omega arith))

pub halving_below : HalvingStaysBelowTop
halving_below zero top h le = omega arith
halving_below (suc r) top h le = omega (arith, halving_below r top h le, (inner (halving r top h) h (halving_holds r top h le)).1)

-- the two halves of one bracket
halves_apart : (b : Bracket) (x y : Bool) → (cond x (half_below b) (half_above b) ≡ cond y (half_below b) (half_above b)) ⊎ Disjoint (cond x (half_below b) (half_above b)) (cond y (half_below b) (half_above b))
halves_apart b true true = inl refl
halves_apart b true false = inr (inl (omega arith))
halves_apart b false true = inr (inr (omega arith))
halves_apart b false false = inl refl

pub halving_apart : HalvingsAreEqualOrDisjoint
halving_apart zero top h k lh lk = inl refl
halving_apart (suc r) top h k lh lk =
    let a : Bracket = halving r top h in
    let b : Bracket = halving r top k in
    let ia = inner a h (halving_holds r top h lh) in
    let ib = inner b k (halving_holds r top k lk) in
    elim (halving_apart r top h k lh lk) [
      | inl same ↦ subst (λ z. (half_toward a h ≡ half_toward z k) ⊎ Disjoint (half_toward a h) (half_toward z k)) same (halves_apart a (leb h (mid a)) (leb k (mid a)))
      | inr other ↦ inr (elim other [ inl x ↦ inl (omega arith) | inr x ↦ inr (omega arith) ])
    ]

-- heights of one bracket have the same halving
pub halving_alike : (r top h k : ℕ) → h ≤ top → Holds (halving r top h) k → halving r top k ≡ halving r top h
halving_alike zero top h k lh w = refl
halving_alike (suc r) top h k lh w =
    let b : Bracket = halving r top h in
    let i = inner b h (halving_holds r top h lh) in
    let up : halving r top k ≡ b = halving_alike r top h k lh (omega arith, omega arith) in
    ap (λ z. half_toward z k) up ∙ same_half b (leb h (mid b)) w
  where
    same_half : (b : Bracket) (x : Bool) → Holds (cond x (half_below b) (half_above b)) k → half_toward b k ≡ cond x (half_below b) (half_above b)
    same_half b true w = cond-true (leb k (mid b)) _ _ (le-leb k (mid b) w.1)
    same_half b false w = cond-false (leb k (mid b)) _ _ (lt-leb k (mid b) (omega (arith, w.0)))

-- a bracket of at most n heights
abbrev Narrow : ℕ → Bracket → Type 0
Narrow n b = b.high + 1 ≤ b.low + n

halving_narrow : (r e top h : ℕ) → top + 1 ≤ 2 ^ (e + r) → Narrow (2 ^ e) (halving r top h)
halving_narrow zero e top h le = let w : top + 1 ≤ 2 ^ e = rw add-zero at le in omega arith
halving_narrow (suc r) e top h le =
    let b : Bracket = halving r top h in
    let again : top + 1 ≤ 2 ^ (suc e + r) = subst (λ n. top + 1 ≤ 2 ^ n) (add-suc e r ∙ sym (suc-add e r)) le in
    let w : Narrow (2 ^ suc e) b = halving_narrow r (suc e) top h again in
    let w' : b.high + 1 ≤ b.low + 2 * 2 ^ e = rw (pow-succ' 2 e) at w in
    by_half (Narrow (2 ^ e)) b h (λ _. half_lower b.low b.high (2 ^ e) w') (λ _. half_upper b.low b.high (2 ^ e) w')
  where
    half_lower : (a b n : ℕ) → b + 1 ≤ a + 2 * n → (a + b) / 2 + 1 ≤ a + n
    half_lower a b n h = omega arith

    half_upper : (a b n : ℕ) → b + 1 ≤ a + 2 * n → b + 1 ≤ ((a + b) / 2 + 1) + n
    half_upper a b n h = omega arith

-- once enough rounds are done one height is left
pub halving_over : (r top h : ℕ) → h ≤ top → RoundsOver top r → halving r top h ≡ from_to h h
halving_over r top h le over =
    let w : Holds (halving r top h) h = halving_holds r top h le in
    let n : Narrow (2 ^ 0) (halving r top h) = halving_narrow r 0 top h (rw zero-add over) in
    let low : (halving r top h).low ≡ h = omega arith in
    let high : (halving r top h).high ≡ h = omega arith in
    ap₂ from_to low high

pub halving_ends : HalvingEndsAtItsHeight
halving_ends r top h le due = halving_over r top h le due.enough

-- a number with m binary digits lies below 2 ^ m, and below no smaller power
pub digits_due : (top m : ℕ) → top < 2 ^ 16 → count_leading_zeros 16 top + m ≡ 16 → RoundsDue top m
digits_due top m lt e =
    let d = leading_length 16 top lt in
    let same : d.0 ≡ m = omega arith in
    let below : top < 2 ^ m = subst (λ n. top < 2 ^ n) same d.2 in
    let short : 2 ^ m ≤ 2 * top + 1 = subst (λ n. 2 ^ n ≤ 2 * top + 1) same d.3 in
    record {
      enough = omega arith;
      least = λ k le. ⊎_elim (λ (l : k < m). absurd (longer k l le short)) (λ (g : m ≤ k). g) (cases_lt k m);
    }
  where
    longer : (k : ℕ) → k < m → top + 1 ≤ 2 ^ k → 2 ^ m ≤ 2 * top + 1 → ⊥
    longer k l le short =
        let p : 2 ^ suc k ≤ 2 ^ m = pow_mono l in
        let q : 2 ^ suc k ≡ 2 * 2 ^ k = pow-succ' 2 k in
        omega arith
