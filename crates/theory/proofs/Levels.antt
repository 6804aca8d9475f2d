-- The energy of a grid is the sum of its levels' costs; the lowest cheapest grid has smallest cheapest sets for its levels.
use Rattle.std.proofs.Common.{◌≡◌, ℕ, zero, suc, ◌+◌, ◌-◌, ◌*◌, ◌<◌, ◌≤◌, min, Bool, true, false, cond, ltb, ℤ, sym, refl, ap, ◌∙◌, ⊎_elim, arith}
use borrow.Author.Differences.{up, down, ints}
use Rattle.std.proofs.ByRecursion.{All-weaker}
use Rattle.std.proofs.lemmas.Bool.{cases_lt, cases_Bool, lt-ltb, le-ltb, ltb-true, ltb-false, true≢false}
use Rattle.theory.specs.Sums.{sum_below, total}
use Rattle.theory.specs.Graphs.{Graph, Proper}
use Rattle.theory.specs.Sets.{CellSet, cost, SmallestCheapestSet}
use Rattle.theory.specs.Grids.{Problem, Heights, gap, energy, Grid, step, StepsNeverFall}
use Rattle.theory.specs.Levels.{above, LevelsAreSmallest, EnergyIsTheSumOfItsLevels, LowestCheapestGridExists, LowestCheapestGridIsUnique, LowestCheapestGridHasSmallestLevels, GridWithSmallestLevelsIsLowestCheapest, priced, LowerStepsRaiseTheGrid}
use Rattle.theory.proofs.Sums.{for_all, sum_eq, sum_mono, sum_tight, sum_add, sum_swap, sumℤ_is, total_same, total_swap, total_zero}
use Rattle.theory.proofs.Least.{Least}
use Rattle.theory.proofs.Prices.{Prices, pay, pays, Ends, ends, StandsFor, stands, ties_as, from_set, cost_same}
use Rattle.theory.proofs.Sets.{smallest_exists, compared}

-- ---- one cell and one tie, level by level

tele_low : (t h : ℕ) (p : ℕ → ℕ) → t ≤ h → sum_below t (λ m. cond (ltb m h) (p (suc m)) (p m)) + p 0 ≡ p t + sum_below t p
tele_low zero h p l = omega arith
tele_low (suc t) h p l = rw (lt-ltb t h l) (omega (arith, tele_low t h p (omega arith)))

-- a cell's prices, step by step up to its height
tele : (t h : ℕ) (p : ℕ → ℕ) → h ≤ t → sum_below t (λ m. cond (ltb m h) (p (suc m)) (p m)) + p 0 ≡ p h + sum_below t p
tele zero h p l = let e : h ≡ 0 = omega arith in omega (arith, ap p e)
tele (suc t) h p l =
    ⊎_elim
    (λ (k : t < h). let e : h ≡ suc t = omega arith in tele_low (suc t) h p (omega arith) ∙ ap (λ (v : ℕ). p v + sum_below (suc t) p) (sym e))
    (λ (k : h ≤ t). rw (le-ltb t h k) (omega (arith, tele t h p k)))
    (cases_lt t h)

-- a tie's weight, once for each level that parts its ends
span : (t a b w : ℕ) → sum_below t (λ m. pay (ltb m a) (ltb m b) w w) ≡ w * gap (min a t) (min b t)
span zero a b w = let e : gap (min a 0) (min b 0) ≡ 0 = omega arith in rw e (omega arith)
span (suc t) a b w = go (ltb t a) (ltb t b) refl refl (span t a b w)
  where
    go : (x y : Bool) → ltb t a ≡ x → ltb t b ≡ y → sum_below t (λ m. pay (ltb m a) (ltb m b) w w) ≡ w * gap (min a t) (min b t) →
        sum_below t (λ m. pay (ltb m a) (ltb m b) w w) + pay (ltb t a) (ltb t b) w w ≡ w * gap (min a (suc t)) (min b (suc t))
    go true true i k ih = let d : gap (min a (suc t)) (min b (suc t)) ≡ gap (min a t) (min b t) = omega (arith, ltb-true t a i, ltb-true t b k) in rw (i, k, d) (omega (arith, ih))
    go true false i k ih = let d : gap (min a (suc t)) (min b (suc t)) ≡ suc (gap (min a t) (min b t)) = omega (arith, ltb-true t a i, ltb-false t b k) in rw (i, k, d) (omega (arith, ih))
    go false true i k ih = let d : gap (min a (suc t)) (min b (suc t)) ≡ suc (gap (min a t) (min b t)) = omega (arith, ltb-false t a i, ltb-true t b k) in rw (i, k, d) (omega (arith, ih))
    go false false i k ih = let d : gap (min a (suc t)) (min b (suc t)) ≡ gap (min a t) (min b t) = omega (arith, ltb-false t a i, ltb-false t b k) in rw (i, k, d) (omega (arith, ih))

span_all : (t a b w : ℕ) → a ≤ t → b ≤ t → sum_below t (λ m. pay (ltb m a) (ltb m b) w w) ≡ w * gap a b
span_all t a b w h k =
    let i : min a t ≡ a = omega arith in
    let j : min b t ≡ b = omega arith in
    rw (i, j) at (span t a b w)

-- ---- the prices of a level

-- a cell is taken if it goes above m
abbrev pub level : {X : Type 0} → Problem X → ℕ → Prices X
level p m = record { taken = λ u. p.price u (suc m); left = λ u. p.price u m; forth = p.graph.weight; back = p.graph.weight }

pub level_stands : {X : Type 0} (p : Problem X) (m : ℕ) → StandsFor p.graph (level p m) p.graph (step p m)
level_stands p m = stands p.graph (level p m) p.graph (step p m) refl (λ u l. omega (arith, ints)) (ties_as p.graph)

pub levels : {X : Type 0} (p : Problem X) (h : Heights) → Proper p.graph → Grid p h →
    energy p h + sum_below p.top (λ m. sum_below p.graph.cells (λ u. p.price u m)) ≡ sum_below p.graph.cells (λ u. p.price u 0) + sum_below p.top (λ m. pays p.graph (level p m) (above h m))
unfolding energy pays
levels {X} p h o f =
    let g = p.graph in
    let n = g.cells in
    let xs = g.ties in
    let t = p.top in
    let C : ℕ → ℕ → ℕ = λ u k. cond (ltb k (h u)) (p.price u (suc k)) (p.price u k) in
    let P : X → ℕ → ℕ = λ x k. pay (ltb k (h (g.near x))) (ltb k (h (g.far x))) (g.weight x) (g.weight x) in
    let cells : sum_below n (λ u. sum_below t (C u)) + sum_below n (λ u. p.price u 0) ≡ sum_below n (λ u. p.price u (h u)) + sum_below n (λ u. sum_below t (p.price u))
    = sum_eq n _ _ _ _ (λ u l. tele t (h u) (p.price u) (f u l)) in
    let ties : total xs (λ x. sum_below t (P x)) ≡ total xs (λ x. g.weight x * gap (h (g.near x)) (h (g.far x)))
    = total_same xs _ _ (All-weaker (Ends g) _ (λ x i. span_all t (h (g.near x)) (h (g.far x)) (g.weight x) (f (g.near x) i.0) (f (g.far x) i.1)) xs (ends g o)) in
    omega (arith, cells, ties, sum_swap n t C, total_swap xs t P, sum_swap n t p.price, sum_add t (λ k. sum_below n (λ u. C u k)) (λ k. total xs (λ x. P x k)))

flat_energy : {X : Type 0} (p : Problem X) → energy p (λ _. 0) ≡ sum_below p.graph.cells (λ u. p.price u 0)
unfolding energy
flat_energy p =
    let g = p.graph in
    omega (arith, total_same g.ties (λ x. g.weight x * gap 0 0) (λ _. 0) (for_all _ g.ties (λ x _. omega arith)), total_zero g.ties)

pub energy_levels : {X : Type 0} → EnergyIsTheSumOfItsLevels X
energy_levels p h o f =
    let c : ℕ → ℤ = λ m. cost p.graph (step p m) (above h m) in
    let e = sum_eq p.top (λ m. up (c m)) (λ m. sum_below p.graph.cells (λ u. p.price u m)) (λ m. down (c m)) (λ m. pays p.graph (level p m) (above h m)) (λ m l. level_stands p m (above h m)) in
    omega (arith, ints, e, sumℤ_is p.top c, levels p h o f, flat_energy p)

-- ---- a grid whose levels are smallest is the lowest cheapest

above_le : (m a b : ℕ) → (ltb m a ≡ true → ltb m b ≡ true) → m < a → m < b
above_le m a b h l = ltb-true m b (h (lt-ltb m a l))

by_levels : (o a b : ℕ) → a ≤ o → ((m : ℕ) → m < o → m < a → m < b) → a ≤ b
by_levels o zero b l h = omega arith
by_levels o (suc a) b l h = h a (omega arith) (omega arith)

-- each level, in prices
pub level_least : {X : Type 0} (p : Problem X) (h : Heights) → LevelsAreSmallest p h → (m : ℕ) → m < p.top → Least p.graph.cells (pays p.graph (level p m)) (above h m)
level_least p h k m l = from_set p.graph (level p m) p.graph (step p m) (level_stands p m) (above h m) (k m l)

pub stacked_lowest : {X : Type 0} → GridWithSmallestLevelsIsLowestCheapest X
stacked_lowest {X} p h o f k = record {
  least = record { grid = f; cheapest = λ j i. omega (arith, levels p h o f, levels p j o i, sum_mono p.top _ _ (λ m l. (each m l).cheapest (above j m))) };
  lowest = λ j c u l.
      let tight = sum_tight p.top (λ m. pays p.graph (level p m) (above h m)) (λ m. pays p.graph (level p m) (above j m)) (λ m i. (each m i).cheapest (above j m)) (omega (arith, levels p h o f, levels p j o c.grid, c.cheapest h f)) in
      by_levels p.top (h u) (j u) (f u l)
      (λ m i. above_le m (h u) (j u) ((each m i).smallest (above j m) (λ r. omega (arith, tight m i, (each m i).cheapest r)) u l));
}
  where
    each : (m : ℕ) → m < p.top → Least p.graph.cells (pays p.graph (level p m)) (above h m)
    each = level_least p h k

-- ---- there is such a grid: how many of the levels' sets hold the cell

abbrev count : ℕ → (ℕ → Bool) → ℕ
count t f = sum_below t (λ m. cond (f m) 1 0)

-- true first, and false from some place on
abbrev Falls : ℕ → (ℕ → Bool) → Type 0
Falls t f = (k : ℕ) → suc k < t → f (suc k) ≡ true → f k ≡ true

one_le : (b : Bool) → cond b 1 0 ≤ 1
one_le true = omega arith
one_le false = omega arith

count_le : (t : ℕ) (f : ℕ → Bool) → count t f ≤ t
count_le zero f = omega arith
count_le (suc t) f = omega (arith, count_le t f, one_le (f t))

fall : (t : ℕ) (f : ℕ → Bool) → Falls t f → (d m : ℕ) → m + d < t → f (m + d) ≡ true → f m ≡ true
fall t f h zero m l e = ap f (omega arith) ∙ e
fall t f h (suc d) m l e =
    let i : f (suc (m + d)) ≡ true = ap f (omega arith) ∙ e in
    fall t f h d m (omega arith) (h (m + d) (omega arith) i)

fall_to : (t : ℕ) (f : ℕ → Bool) → Falls t f → (m k : ℕ) → m ≤ k → k < t → f k ≡ true → f m ≡ true
fall_to t f h m k l i e = fall t f h (k - m) m (omega arith) (ap f (omega arith) ∙ e)

all_true : (t : ℕ) (f : ℕ → Bool) → ((j : ℕ) → j < t → f j ≡ true) → count t f ≡ t
all_true zero f e = refl
all_true (suc t) f e = rw (e t (omega arith)) (omega (arith, all_true t f (λ j l. e j (omega arith))))

count_true : (t : ℕ) (f : ℕ → Bool) → Falls t f → (m : ℕ) → m < t → f m ≡ true → m < count t f
count_true zero f h m l e = absurd (omega arith)
count_true (suc t) f h m l e =
    ⊎_elim
    (λ (i : m < t). omega (arith, count_true t f (λ k j. h k (omega arith)) m i e))
    (λ (i : t ≤ m). let k : f t ≡ true = ap f (omega arith) ∙ e in rw k (omega (arith, all_true t f (λ j q. fall_to (suc t) f h j t (omega arith) (omega arith) k))))
    (cases_lt m t)

count_false : (t : ℕ) (f : ℕ → Bool) → Falls t f → (m : ℕ) → m < t → f m ≡ false → count t f ≤ m
count_false zero f h m l e = absurd (omega arith)
count_false (suc t) f h m l e =
    ⊎_elim
    (λ (k : f t ≡ true). let z : true ≡ false = sym (fall_to (suc t) f h m t (omega arith) (omega arith) k) ∙ e in absurd (true≢false z))
    (λ (k : f t ≡ false). rw k (⊎_elim (λ (i : m < t). omega (arith, count_false t f (λ j q. h j (omega arith)) m i e)) (λ (i : t ≤ m). omega (arith, count_le t f)) (cases_lt m t)))
    (cases_Bool (f t))

count_is : (t : ℕ) (f : ℕ → Bool) → Falls t f → (m : ℕ) → m < t → f m ≡ ltb m (count t f)
count_is t f h m l =
    ⊎_elim
    (λ (e : f m ≡ true). e ∙ sym (lt-ltb m (count t f) (count_true t f h m l e)))
    (λ (e : f m ≡ false). e ∙ sym (le-ltb m (count t f) (count_false t f h m l e)))
    (cases_Bool (f m))

-- a set that is the same on the cells is as small and as cheap
pub smallest_same : {X : Type 0} (g : Graph X) (c : ℕ → ℤ) (s t : CellSet) → Proper g → ((u : ℕ) → u < g.cells → s u ≡ t u) → SmallestCheapestSet g c s → SmallestCheapestSet g c t
smallest_same g c s t o h a = record {
  cheapest = λ r. omega (arith, ints, a.cheapest r, cost_same g c s t o h);
  smallest = λ r k u l i. a.smallest r k u l (h u l ∙ i);
}

pub stacked_exists : {X : Type 0} (p : Problem X) → Proper p.graph → StepsNeverFall p → (h : Heights) × Grid p h × LevelsAreSmallest p h
stacked_exists p o c =
    let g = p.graph in
    let S : ℕ → CellSet = λ m. (smallest_exists g (step p m) o).0 in
    let s : (m : ℕ) → SmallestCheapestSet g (step p m) (S m) = λ m. (smallest_exists g (step p m) o).1 in
    let falls : (u : ℕ) → u < g.cells → Falls p.top (λ m. S m u)
    = λ u l k i. compared g (step p k) (step p (suc k)) (S k) (S (suc k)) (λ v j. c v k j i) (s k) (s (suc k)) u l in (
      λ u. count p.top (λ m. S m u),
      λ u l. count_le p.top (λ m. S m u),
      λ m l. smallest_same g (step p m) (S m) _ o (λ u i. count_is p.top (λ m. S m u) (falls u i) m l) (s m),
    )

pub lowest_exists : {X : Type 0} → LowestCheapestGridExists X
lowest_exists p o c = let r = stacked_exists p o c in (r.0, stacked_lowest p r.0 o r.1 r.2)

pub lowest_unique : {X : Type 0} → LowestCheapestGridIsUnique X
lowest_unique p h k a b u l = omega (arith, a.lowest k b.least u l, b.lowest h a.least u l)

pub lowest_stacked : {X : Type 0} → LowestCheapestGridHasSmallestLevels X
lowest_stacked p h o c a m l =
    let r = stacked_exists p o c in
    let e : (u : ℕ) → u < p.graph.cells → r.0 u ≡ h u = lowest_unique p r.0 h (stacked_lowest p r.0 o r.1 r.2) a in
    smallest_same p.graph (step p m) (above r.0 m) (above h m) o (λ u i. ap (ltb m) (e u i)) (r.2 m l)

pub lower_steps : {X : Type 0} → LowerStepsRaiseTheGrid X
lower_steps g top a b h k o ca cb d A B u l =
    by_levels top (h u) (k u) (A.least.grid u l)
    (λ m i. above_le m (h u) (k u)
    (compared g (step (priced g top b) m) (step (priced g top a) m) (above k m) (above h m) (λ v j. d v m j i) (lowest_stacked (priced g top b) k o cb B m i) (lowest_stacked (priced g top a) h o ca A m i) u l))
