-- Functions of cell sets with values in the natural numbers: least values, and the smallest set that takes one.
use Rattle.std.proofs.Common.{◌≡◌, ℕ, zero, suc, ◌+◌, ◌<◌, ◌≤◌, Bool, true, false, cond, ◌&&◌, eqb, leb, sym, refl, ap, ◌∙◌, ⊎_elim, arith}
use Rattle.std.proofs.lemmas.Bool.{cases_lt, cases_Bool, ne_eqb, eq-eqb, and_parts}
use Rattle.theory.specs.Sums.{sum_below}
use Rattle.theory.specs.Sets.{CellSet, Same, Within, meet, join}
use Rattle.theory.proofs.Sums.{sum_same, sum_tight}

-- no set has a smaller value, and s is contained in every other set of which that holds
pub record Least (n : ℕ) (F : CellSet → ℕ) (s : CellSet) : Type 0 where
  pub cheapest : (t : CellSet) → F s ≤ F t
  pub smallest : (t : CellSet) → ((r : CellSet) → F t ≤ F r) → Within n s t

-- the function looks at the first n cells alone
abbrev pub LooksBelow : ℕ → (CellSet → ℕ) → Type 0
LooksBelow n F = (s t : CellSet) → Same n s t → F s ≡ F t

abbrev put : ℕ → Bool → CellSet → CellSet
put n b s u = cond (eqb u n) b (s u)

put_same : (n : ℕ) (b : Bool) (s t : CellSet) → Same n s t → Same (suc n) (put n b s) (put n b t)
put_same n b s t h u l =
    ⊎_elim
    (λ (k : u < n). rw (h u k))
    (λ (k : n ≤ u). rw (eq-eqb u n (omega arith)))
    (cases_lt u n)

put_back : (n : ℕ) (s : CellSet) (b : Bool) → s n ≡ b → Same (suc n) s (put n b s)
put_back n s b e u l =
    ⊎_elim
    (λ (k : u < n). rw (ne_eqb u n (omega arith)))
    (λ (k : n ≤ u). let i : u ≡ n = omega arith in rw (eq-eqb u n i) (ap s i ∙ e))
    (cases_lt u n)

-- there is a least value
least_value : (n : ℕ) (F : CellSet → ℕ) → LooksBelow n F → (s : CellSet) × ((t : CellSet) → F s ≤ F t)
least_value zero F e = (λ _. false, λ t. omega (arith, e (λ _. false) t (λ u l. absurd (omega arith))))
least_value (suc n) F e =
    let a = least_value n (λ s. F (put n false s)) (λ s t h. e _ _ (put_same n false s t h)) in
    let b = least_value n (λ s. F (put n true s)) (λ s t h. e _ _ (put_same n true s t h)) in
    choose a b
  where
    by : (t : CellSet) (v : Bool) → t n ≡ v → F t ≡ F (put n v t)
    by t v i = e t (put n v t) (put_back n t v i)

    both : (x : ℕ) (t : CellSet) → x ≤ F (put n false t) → x ≤ F (put n true t) → (v : Bool) → t n ≡ v → x ≤ F t
    both x t p q true i = omega (arith, by t true i)
    both x t p q false i = omega (arith, by t false i)

    choose : (s : CellSet) × ((t : CellSet) → F (put n false s) ≤ F (put n false t)) → (s : CellSet) × ((t : CellSet) → F (put n true s) ≤ F (put n true t)) → (s : CellSet) × ((t : CellSet) → F s ≤ F t)
    choose a b =
        ⊎_elim
        (λ (l : F (put n false a.0) < F (put n true b.0)). (put n false a.0, λ t. both _ t (a.1 t) (omega (arith, b.1 t)) (t n) refl))
        (λ (l : F (put n true b.0) ≤ F (put n false a.0)). (put n true b.0, λ t. both _ t (omega (arith, a.1 t)) (b.1 t) (t n) refl))
        (cases_lt (F (put n false a.0)) (F (put n true b.0)))

-- how many of the first n cells are inside
abbrev size : ℕ → CellSet → ℕ
size n s = sum_below n (λ u. cond (s u) 1 0)

size_le : (n : ℕ) (s : CellSet) → size n s ≤ n
size_le zero s = omega arith
size_le (suc n) s = ⊎_elim (λ (e : s n ≡ true). rw e (omega (arith, size_le n s))) (λ (e : s n ≡ false). rw e (omega (arith, size_le n s))) (cases_Bool (s n))

key_yes : (c b z w : ℕ) → c ≤ b → cond (leb c b) z w ≡ z
key_yes c b z w h = grind arith

key_low : (c b z w : ℕ) → cond (leb c b) z w < w → c ≤ b
key_low c b z w h = grind arith

in_both : (a b : Bool) → cond a 1 0 ≤ cond (a && b) 1 0 → a ≡ true → b ≡ true
in_both a b h e = grind arith

meet_le : (a b : Bool) → cond (a && b) 1 0 ≤ cond a 1 0
meet_le a b = grind arith

abbrev pub Submodular : (CellSet → ℕ) → Type 0
Submodular F = (s t : CellSet) → F (meet s t) + F (join s t) ≤ F s + F t

-- of the sets with the least value take one with the fewest cells: by submodularity it is contained in every other
pub least_exists : (n : ℕ) (F : CellSet → ℕ) → LooksBelow n F → Submodular F → (s : CellSet) × Least n F s
least_exists n F same sub =
    let r = least_value n F same in
    let b : ℕ = F r.0 in
    let key : CellSet → ℕ = λ s. cond (leb (F s) b) (size n s) (suc n) in
    let q = least_value n key (λ s t h. rw (same s t h, sum_same n (λ u. cond (s u) 1 0) (λ u. cond (t u) 1 0) (λ u l. rw (h u l)))) in
    let s : CellSet = q.0 in
    let low : F s ≤ b = key_low (F s) b (size n s) (suc n) (omega (arith, q.1 r.0, key_yes b b (size n r.0) (suc n) (omega arith), size_le n r.0)) in
    let known : key s ≡ size n s = key_yes (F s) b (size n s) (suc n) low in (
      s,
      record {
        cheapest = λ t. omega (arith, r.1 t);
        smallest = λ t c u l i.
            let mb : F (meet s t) ≤ b = omega (arith, sub s t, r.1 (join s t), c r.0) in
            let km : key (meet s t) ≡ size n (meet s t) = key_yes (F (meet s t)) b (size n (meet s t)) (suc n) mb in
            in_both (s u) (t u) (sum_tight n (λ v. cond (s v && t v) 1 0) (λ v. cond (s v) 1 0) (λ v k. meet_le (s v) (t v)) (omega (arith, q.1 (meet s t))) u l) i;
      },
    )

iff : (a b : Bool) → (a ≡ true → b ≡ true) → (b ≡ true → a ≡ true) → a ≡ b
iff true b h k = sym (h refl)
iff false true h k = k refl
iff false false h k = refl

pub within_both : (n : ℕ) (s t : CellSet) → Within n s t → Within n t s → Same n s t
within_both n s t h k u l = iff (s u) (t u) (h u l) (k u l)

-- where moving from two sets to their meet and join pays, the least set of G is contained in that of F
pub least_compared : (n : ℕ) (F G : CellSet → ℕ) (s t : CellSet) → G (meet s t) + F (join s t) ≤ G t + F s → Least n F s → Least n G t → Within n t s
least_compared n F G s t m S T u l i =
    (and_parts (s u) (t u) (T.smallest (meet s t) (λ r. omega (arith, S.cheapest (join s t), T.cheapest r)) u l i)).0
