-- Laws of sums.
use Rattle.std.proofs.Common.{◌≡◌, ℕ, zero, suc, ◌+◌, ◌<◌, ◌≤◌, Bool, true, false, cond, eqb, List, [], ◌∷◌, ◌++◌, ℤ, filter, sym, refl, ap, ◌∙◌, subst, ⊎_elim, arith}
use borrow.Author.Differences.{up, down, ints}
use Rattle.std.specs.List.{ContainsAt as Has, AllByRecursion as All}
use Rattle.std.proofs.ByRecursion.{All-weaker, all_has_itself}
use Rattle.std.proofs.lemmas.Bool.{cases_lt, cases_Bool, ne_eqb, eq-eqb}
use Rattle.theory.specs.Sums.{sum_below, sumℤ, total, totalℤ}

-- what holds of each element of a list holds all along it
pub for_all : {X : Type 0} (P : X → Type 0) (xs : List X) → ((x : X) → Has xs x → P x) → All P xs
for_all P xs h = All-weaker (Has xs) P h xs (all_has_itself xs)

-- ---- sums below a number

pub sum_le : (n : ℕ) (f g h k : ℕ → ℕ) → ((u : ℕ) → u < n → f u + g u ≤ h u + k u) → sum_below n f + sum_below n g ≤ sum_below n h + sum_below n k
sum_le zero f g h k le = omega arith
sum_le (suc n) f g h k le = omega (arith, sum_le n f g h k (λ u l. le u (omega arith)), le n (omega arith))

pub sum_eq : (n : ℕ) (f g h k : ℕ → ℕ) → ((u : ℕ) → u < n → f u + g u ≡ h u + k u) → sum_below n f + sum_below n g ≡ sum_below n h + sum_below n k
sum_eq zero f g h k e = refl
sum_eq (suc n) f g h k e = omega (arith, sum_eq n f g h k (λ u l. e u (omega arith)), e n (omega arith))

pub sum_mono : (n : ℕ) (f g : ℕ → ℕ) → ((u : ℕ) → u < n → f u ≤ g u) → sum_below n f ≤ sum_below n g
sum_mono zero f g le = omega arith
sum_mono (suc n) f g le = omega (arith, sum_mono n f g (λ u l. le u (omega arith)), le n (omega arith))

pub sum_same : (n : ℕ) (f g : ℕ → ℕ) → ((u : ℕ) → u < n → f u ≡ g u) → sum_below n f ≡ sum_below n g
sum_same zero f g e = refl
sum_same (suc n) f g e = omega (arith, sum_same n f g (λ u l. e u (omega arith)), e n (omega arith))

pub sum_add : (n : ℕ) (f g : ℕ → ℕ) → sum_below n (λ u. f u + g u) ≡ sum_below n f + sum_below n g
sum_add zero f g = refl
sum_add (suc n) f g = omega (arith, sum_add n f g)

pub sum_zero : (n : ℕ) → sum_below n (λ _. 0) ≡ 0
sum_zero zero = refl
sum_zero (suc n) = omega (arith, sum_zero n)

pub sum_swap : (n m : ℕ) (f : ℕ → ℕ → ℕ) → sum_below n (λ u. sum_below m (λ k. f u k)) ≡ sum_below m (λ k. sum_below n (λ u. f u k))
sum_swap zero m f = sym (sum_zero m)
sum_swap (suc n) m f = omega (arith, sum_swap n m f, sum_add m (λ k. sum_below n (λ u. f u k)) (λ k. f n k))

-- sums in order place by place, and equal as a whole, are equal at each place
pub sum_tight : (n : ℕ) (f g : ℕ → ℕ) → ((u : ℕ) → u < n → f u ≤ g u) → sum_below n g ≤ sum_below n f → (u : ℕ) → u < n → g u ≤ f u
sum_tight zero f g le e u l = absurd (omega arith)
sum_tight (suc n) f g le e u l =
    let m : sum_below n f ≤ sum_below n g = sum_mono n f g (λ v k. le v (omega arith)) in
    let ln : f n ≤ g n = le n (omega arith) in
    let ih : u < n → g u ≤ f u = λ k. sum_tight n f g (λ v j. le v (omega arith)) (omega arith) u k in
    let last : g n ≤ f n = omega arith in
    ⊎_elim ih (λ (k : n ≤ u). subst (λ (v : ℕ). g v ≤ f v) (omega arith) last) (cases_lt u n)

-- sums that differ at one place
pub sum_but : (o k : ℕ) (f g : ℕ → ℕ) → k < o → ((m : ℕ) → m < o → (k ≡ m → ⊥) → f m ≡ g m) → sum_below o f + g k ≡ sum_below o g + f k
sum_but zero k f g l h = absurd (omega arith)
sum_but (suc o) k f g l h =
    ⊎_elim
    (λ (i : k < o). omega (arith, sum_but o k f g i (λ m j. h m (omega arith)), h o (omega arith) (λ e. omega arith)))
    (λ (i : o ≤ k). let e : o ≡ k = omega arith in omega (arith, sum_same o f g (λ m j. h m (omega arith) (λ d. omega arith)), ap f e, ap g e))
    (cases_lt k o)

-- one place of all
pick_none : (n a : ℕ) (f : ℕ → ℕ) → n ≤ a → sum_below n (λ u. cond (eqb a u) (f u) 0) ≡ 0
pick_none zero a f h = refl
pick_none (suc n) a f h = rw (ne_eqb a n (omega arith)) (omega (arith, pick_none n a f (omega arith)))

pub pick_one : (n a : ℕ) (f : ℕ → ℕ) → a < n → sum_below n (λ u. cond (eqb a u) (f u) 0) ≡ f a
pick_one zero a f h = absurd (omega arith)
pick_one (suc n) a f h =
    ⊎_elim
    (λ (l : a < n). rw (ne_eqb a n (omega arith)) (omega (arith, pick_one n a f l)))
    (λ (l : n ≤ a). let e : n ≡ a = omega arith in rw (eq-eqb a n (omega arith)) (omega (arith, pick_none n a f l, ap f e)))
    (cases_lt a n)

-- a signed sum, by what is above 0 and what is below
pub sumℤ_is : (n : ℕ) (f : ℕ → ℤ) → up (sumℤ n f) + sum_below n (λ u. down (f u)) ≡ down (sumℤ n f) + sum_below n (λ u. up (f u))
sumℤ_is zero f = refl
sumℤ_is (suc n) f = omega (arith, ints, sumℤ_is n f)

-- ---- sums over a list

pub total_le : {X : Type 0} (xs : List X) (f g h k : X → ℕ) → All (λ x. f x + g x ≤ h x + k x) xs → total xs f + total xs g ≤ total xs h + total xs k
total_le [] f g h k a = omega arith
total_le (x ∷ xs) f g h k a = omega (arith, total_le xs f g h k a.1, a.0)

pub total_eq : {X : Type 0} (xs : List X) (f g h k : X → ℕ) → All (λ x. f x + g x ≡ h x + k x) xs → total xs f + total xs g ≡ total xs h + total xs k
total_eq [] f g h k a = refl
total_eq (x ∷ xs) f g h k a = omega (arith, total_eq xs f g h k a.1, a.0)

pub total_mono : {X : Type 0} (xs : List X) (f g : X → ℕ) → All (λ x. f x ≤ g x) xs → total xs f ≤ total xs g
total_mono [] f g a = omega arith
total_mono (x ∷ xs) f g a = omega (arith, total_mono xs f g a.1, a.0)

pub total_same : {X : Type 0} (xs : List X) (f g : X → ℕ) → All (λ x. f x ≡ g x) xs → total xs f ≡ total xs g
total_same [] f g a = refl
total_same (x ∷ xs) f g a = omega (arith, total_same xs f g a.1, a.0)

pub total_add : {X : Type 0} (xs : List X) (f g : X → ℕ) → total xs (λ x. f x + g x) ≡ total xs f + total xs g
total_add [] f g = refl
total_add (x ∷ xs) f g = omega (arith, total_add xs f g)

pub total_zero : {X : Type 0} (xs : List X) → total xs (λ _. 0) ≡ 0
total_zero [] = refl
total_zero (x ∷ xs) = omega (arith, total_zero xs)

pub total_append : {X : Type 0} (xs ys : List X) (f : X → ℕ) → total (xs ++ ys) f ≡ total xs f + total ys f
total_append [] ys f = omega arith
total_append (x ∷ xs) ys f = omega (arith, total_append xs ys f)

-- a list of sums is a sum of lists
pub total_swap : {X : Type 0} (xs : List X) (m : ℕ) (f : X → ℕ → ℕ) → total xs (λ x. sum_below m (λ k. f x k)) ≡ sum_below m (λ k. total xs (λ x. f x k))
total_swap [] m f = sym (sum_zero m)
total_swap (x ∷ xs) m f = omega (arith, total_swap xs m f, sum_add m (λ k. f x k) (λ k. total xs (λ y. f y k)))

pub total_tight : {X : Type 0} (xs : List X) (f g : X → ℕ) → All (λ x. f x ≤ g x) xs → total xs g ≤ total xs f → All (λ x. g x ≤ f x) xs
total_tight [] f g a e = tt
total_tight (x ∷ xs) f g a e =
    let m : total xs f ≤ total xs g = total_mono xs f g a.1 in
    let l : f x ≤ g x = a.0 in
    (omega arith, total_tight xs f g a.1 (omega arith))

-- what a filter leaves out counts nothing
pub total_kept : {X : Type 0} (test : X → Bool) (xs : List X) (f : X → ℕ) → total (filter test xs) f ≡ total xs (λ x. cond (test x) (f x) 0)
total_kept test [] f = refl
total_kept test (x ∷ xs) f =
    ⊎_elim
    (λ (e : test x ≡ true). rw e (omega (arith, total_kept test xs f)))
    (λ (e : test x ≡ false). rw e (omega (arith, total_kept test xs f)))
    (cases_Bool (test x))

pub totalℤ_is : {X : Type 0} (xs : List X) (f : X → ℤ) → up (totalℤ xs f) + total xs (λ x. down (f x)) ≡ down (totalℤ xs f) + total xs (λ x. up (f x))
totalℤ_is [] f = refl
totalℤ_is (x ∷ xs) f = omega (arith, ints, totalℤ_is xs f)

-- ---- what the elements of a list bring to the cells

-- the sum of k over those elements that `a` sends to the cell u
abbrev pub at : {X : Type 0} → List X → (X → ℕ) → (X → ℕ) → ℕ → ℕ
at xs a k u = total xs (λ x. cond (eqb (a x) u) (k x) 0)

spread : {X : Type 0} (xs : List X) (u : ℕ) (a k k' : X → ℕ) (b : Bool) → cond b (at xs a k u) (at xs a k' u) ≡ total xs (λ x. cond (eqb (a x) u) (cond b (k x) (k' x)) 0)
spread xs u a k k' true = refl
spread xs u a k k' false = refl

-- summed over the cells it is a sum over the list
pub gather : {X : Type 0} (n : ℕ) (xs : List X) (s : ℕ → Bool) (a k k' : X → ℕ) → All (λ x. a x < n) xs →
    sum_below n (λ u. cond (s u) (at xs a k u) (at xs a k' u)) ≡ total xs (λ x. cond (s (a x)) (k x) (k' x))
gather n xs s a k k' h =
    sum_same n _ _ (λ u l. spread xs u a k k' (s u))
    ∙ sym (total_swap xs n (λ x u. cond (eqb (a x) u) (cond (s u) (k x) (k' x)) 0))
    ∙ total_same xs _ _ (All-weaker (λ x. a x < n) _ (λ x l. pick_one n (a x) (λ u. cond (s u) (k x) (k' x)) l) xs h)
