-- What a walk over the first n numbers comes to.
use Rattle.std.proofs.Common.{ℕ, ◌<◌, Bool, true, false, length, MatchBool, refl, ◌∙◌, subst, zero-add, arith}
use Rattle.std.specs.Prelude.{◌↔◌, IsTrue}
use Rattle.std.specs.List.{range_with_len, AllWithin, HoldsAt}
use Rattle.std.proofs.lemmas.List.FromFn.{get_or-range_with_len, length-range_with_len}

-- every one has P, or one has not
pub all_below : (P : ℕ → Type 0) (n : ℕ) (r : Bool) →
    MatchBool r (AllWithin P (range_with_len 0 n) 0 (length (range_with_len 0 n))) ((k : ℕ) × (k < length (range_with_len 0 n)) × HoldsAt (λ u. ¬ P u) (range_with_len 0 n) k) →
    IsTrue r ↔ ((u : ℕ) → u < n → P u)
all_below P n true all = (λ _ u l. subst P (get_or-range_with_len 0 n u 0 l ∙ zero-add u) (all u 0 (omega arith) (omega (arith, length-range_with_len 0 n))), λ _. refl)
all_below P n false one =
    let here : one.0 < n = omega (arith, length-range_with_len 0 n, one.1) in
    let fails : ¬ P one.0 = subst (λ (u : ℕ). ¬ P u) (get_or-range_with_len 0 n one.0 0 here ∙ zero-add one.0) (one.2 0) in
    (λ e. cc, λ all. absurd (fails (all one.0 here)))
