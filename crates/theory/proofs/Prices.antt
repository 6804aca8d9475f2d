-- Costs in natural numbers: a cell is paid for inside the set and outside it, a tie in both directions.
-- Charges become such prices, a flow shifts them, and the cost of every set changes by the same number.
use Rattle.std.proofs.Common.{◌≡◌, ℕ, ◌+◌, ◌<◌, ◌≤◌, Bool, true, false, cond, ◌&&◌, ◌||◌, ℤ, pos, refl, ap, arith}
use borrow.Author.Differences.{up, down, ints}
use Rattle.std.specs.List.{AllByRecursion as All}
use Rattle.std.proofs.ByRecursion.{All-weaker}
use Rattle.theory.specs.Sums.{sum_below, total}
use Rattle.theory.specs.Graphs.{Graph, Proper}
use Rattle.theory.specs.Sets.{CellSet, Charges, Same, meet, join, differ, crosses, cost, SmallestCheapestSet}
use Rattle.theory.proofs.Sums.{for_all, sum_le, sum_eq, sum_same, sum_add, total_le, total_same, total_add, sumℤ_is, at, gather}
use Rattle.theory.proofs.Least.{Least, LooksBelow}

-- a cell costs `taken` inside the set and `left` outside; a tie costs `forth` with its near end alone inside, `back` with its far end alone inside
pub record Prices (X : Type 0) : Type 0 where
  pub taken : ℕ → ℕ
  pub left : ℕ → ℕ
  pub forth : X → ℕ
  pub back : X → ℕ

abbrev pub pay : Bool → Bool → ℕ → ℕ → ℕ
pay true true x y = 0
pay true false x y = x
pay false true x y = y
pay false false x y = 0

abbrev pub cells_pay : {X : Type 0} → Graph X → Prices X → CellSet → ℕ
cells_pay g p s = sum_below g.cells (λ u. cond (s u) (p.taken u) (p.left u))

abbrev pub tie_pays : {X : Type 0} → Graph X → Prices X → CellSet → X → ℕ
tie_pays g p s x = pay (s (g.near x)) (s (g.far x)) (p.forth x) (p.back x)

abbrev pub ties_pay : {X : Type 0} → Graph X → Prices X → CellSet → ℕ
ties_pay g p s = total g.ties (tie_pays g p s)

unfoldable pub pays : {X : Type 0} → Graph X → Prices X → CellSet → ℕ
pays g p s = cells_pay g p s + ties_pay g p s

-- the ends of all ties are cells, along the list
abbrev pub Ends : {X : Type 0} → Graph X → X → Type 0
Ends g x = (g.near x < g.cells) × (g.far x < g.cells)

pub ends : {X : Type 0} (g : Graph X) → Proper g → All (Ends g) g.ties
ends g o = for_all (Ends g) g.ties o

pub pays_same : {X : Type 0} (g : Graph X) (p : Prices X) → Proper g → LooksBelow g.cells (pays g p)
unfolding pays
pays_same g p o s t h =
    let a : cells_pay g p s ≡ cells_pay g p t = sum_same g.cells _ _ (λ u l. ap (λ (b : Bool). cond b (p.taken u) (p.left u)) (h u l)) in
    let b : ties_pay g p s ≡ ties_pay g p t = total_same g.ties _ _ (All-weaker (Ends g) _ (λ x e. rw (h (g.near x) e.0, h (g.far x) e.1)) g.ties (ends g o)) in
    omega arith

-- ---- two sets against their meet and join

cell_mixed : (s t : Bool) (x y x' y' : ℕ) → x + y' ≤ x' + y → cond (s && t) x' y' + cond (s || t) x y ≤ cond t x' y' + cond s x y
cell_mixed s t x y x' y' h = grind arith

tie_mixed : (s t s' t' : Bool) (x y : ℕ) → pay (s && t) (s' && t') x y + pay (s || t) (s' || t') x y ≤ pay t t' x y + pay s s' x y
tie_mixed s t s' t' x y = grind arith

-- under p it costs no more than under q to take a cell rather than leave it
abbrev pub Eager : {X : Type 0} → Graph X → Prices X → Prices X → Type 0
Eager g p q = (u : ℕ) → u < g.cells → p.taken u + q.left u ≤ q.taken u + p.left u

-- the ties cost the same under p and q
abbrev pub SameTies : {X : Type 0} → Graph X → Prices X → Prices X → Type 0
SameTies g p q = All (λ x. (p.forth x ≡ q.forth x) × (p.back x ≡ q.back x)) g.ties

pub mixed : {X : Type 0} (g : Graph X) (p q : Prices X) (s t : CellSet) → SameTies g p q → Eager g p q → pays g q (meet s t) + pays g p (join s t) ≤ pays g q t + pays g p s
unfolding pays
mixed g p q s t same eager =
    let a : cells_pay g q (meet s t) + cells_pay g p (join s t) ≤ cells_pay g q t + cells_pay g p s
    = sum_le g.cells _ _ _ _ (λ u l. cell_mixed (s u) (t u) _ _ _ _ (eager u l)) in
    let b : ties_pay g q (meet s t) + ties_pay g p (join s t) ≤ ties_pay g q t + ties_pay g p s
    = total_le g.ties _ _ _ _ (All-weaker _ _ (λ x e. rw (e.0, e.1) (tie_mixed (s (g.near x)) (t (g.near x)) (s (g.far x)) (t (g.far x)) _ _)) g.ties same) in
    omega arith

-- ---- charges as prices

-- on the graph g with charges c every set costs as much as it pays on k, less one number
abbrev pub StandsFor : {X : Type 0} → Graph X → Prices X → Graph X → Charges → Type 0
StandsFor k p g c = (s : CellSet) → up (cost g c s) + sum_below g.cells p.left ≡ down (cost g c s) + pays k p s

module _ {X : Type 0} (k : Graph X) (p : Prices X) (g : Graph X) (c : Charges) (e : StandsFor k p g c) where
  pub to_set : (s : CellSet) → Least g.cells (pays k p) s → SmallestCheapestSet g c s
  to_set s m = record {
    cheapest = λ t. omega (arith, ints, m.cheapest t, e s, e t);
    smallest = λ t d. m.smallest t (λ r. omega (arith, ints, d r, e t, e r));
  }

  pub from_set : (s : CellSet) → SmallestCheapestSet g c s → Least g.cells (pays k p) s
  from_set s m = record {
    cheapest = λ t. omega (arith, ints, m.cheapest t, e s, e t);
    smallest = λ t d. m.smallest t (λ r. omega (arith, ints, d r, e t, e r));
  }

cell_is : (b : Bool) (z : ℤ) (t l : ℕ) → up z + l ≡ down z + t → up (cond b z (pos 0)) + l ≡ down (cond b z (pos 0)) + cond b t l
cell_is true z t l e = e
cell_is false z t l e = refl

tie_is : (a b : Bool) (w : ℕ) → cond (differ a b) w 0 ≡ pay a b w w
tie_is true true w = refl
tie_is true false w = refl
tie_is false true w = refl
tie_is false false w = refl

-- prices that differ by the charge at each cell, and ties that sum to the same
pub stands : {X : Type 0} (k : Graph X) (p : Prices X) (g : Graph X) (c : Charges) → k.cells ≡ g.cells →
    ((u : ℕ) → u < g.cells → up (c u) + p.left u ≡ down (c u) + p.taken u) →
    ((s : CellSet) → total g.ties (λ x. cond (crosses g s x) (g.weight x) 0) ≡ ties_pay k p s) → StandsFor k p g c
unfolding cost pays
stands k p g c same cells ties s =
    let n = g.cells in
    let e = sum_eq n (λ u. up (cond (s u) (c u) (pos 0))) p.left (λ u. down (cond (s u) (c u) (pos 0))) (λ u. cond (s u) (p.taken u) (p.left u)) (λ u l. cell_is (s u) (c u) _ _ (cells u l)) in
    let d : cells_pay k p s ≡ sum_below n (λ u. cond (s u) (p.taken u) (p.left u)) = ap (λ (m : ℕ). sum_below m (λ u. cond (s u) (p.taken u) (p.left u))) same in
    omega (arith, ints, e, d, ties s, sumℤ_is n (λ u. cond (s u) (c u) (pos 0)))

-- the prices of a graph with charges
abbrev pub prices : {X : Type 0} → Graph X → Charges → Prices X
prices g c = record { taken = λ u. up (c u); left = λ u. down (c u); forth = g.weight; back = g.weight }

pub ties_as : {X : Type 0} (g : Graph X) (s : CellSet) → total g.ties (λ x. cond (crosses g s x) (g.weight x) 0) ≡ total g.ties (λ x. pay (s (g.near x)) (s (g.far x)) (g.weight x) (g.weight x))
ties_as g s = total_same g.ties _ _ (for_all _ g.ties (λ x _. tie_is (s (g.near x)) (s (g.far x)) (g.weight x)))

pub own_prices : {X : Type 0} (g : Graph X) (c : Charges) → StandsFor g (prices g c) g c
own_prices g c = stands g (prices g c) g c refl (λ u l. omega arith) (ties_as g)

-- ---- what ties bring to the prices of their ends

cond_three : (b : Bool) (t t' t'' l l' l'' : ℕ) → cond b (t + t' + t'') (l + l' + l'') ≡ cond b t l + cond b t' l' + cond b t'' l''
cond_three true t t' t'' l l' l'' = refl
cond_three false t t' t'' l l' l'' = refl

pub brought : {X : Type 0} (g : Graph X) (s : CellSet) (t l : ℕ → ℕ) (a a' b b' : X → ℕ) → Proper g →
    sum_below g.cells (λ u. cond (s u) (t u + at g.ties g.near a u + at g.ties g.far b u) (l u + at g.ties g.near a' u + at g.ties g.far b' u))
    ≡ sum_below g.cells (λ u. cond (s u) (t u) (l u)) + total g.ties (λ x. cond (s (g.near x)) (a x) (a' x) + cond (s (g.far x)) (b x) (b' x))
brought {X} g s t l a a' b b' o =
    let n = g.cells in
    let xs = g.ties in
    let A : ℕ → ℕ = λ u. cond (s u) (at xs g.near a u) (at xs g.near a' u) in
    let B : ℕ → ℕ = λ u. cond (s u) (at xs g.far b u) (at xs g.far b' u) in
    let C : ℕ → ℕ = λ u. cond (s u) (t u) (l u) in
    let P : X → ℕ = λ x. cond (s (g.near x)) (a x) (a' x) in
    let Q : X → ℕ = λ x. cond (s (g.far x)) (b x) (b' x) in
    let e : sum_below n (λ u. cond (s u) (t u + at xs g.near a u + at xs g.far b u) (l u + at xs g.near a' u + at xs g.far b' u)) ≡ sum_below n (λ u. C u + A u + B u) = sum_same n _ _ (λ u i. cond_three (s u) _ _ _ _ _ _) in
    let near : All (λ x. g.near x < n) xs = All-weaker (Ends g) _ (λ x i. i.0) xs (ends g o) in
    let far : All (λ x. g.far x < n) xs = All-weaker (Ends g) _ (λ x i. i.1) xs (ends g o) in
    omega (arith, e, sum_add n (λ u. C u + A u) B, sum_add n C A, total_add xs P Q, gather n xs s g.near a a' near, gather n xs s g.far b b' far)

-- sets that are the same on the cells cost the same
pub cost_same : {X : Type 0} (g : Graph X) (c : Charges) (s t : CellSet) → Proper g → Same g.cells s t → cost g c s ≡ cost g c t
cost_same g c s t o h = omega (arith, ints, own_prices g c s, own_prices g c t, pays_same g (prices g c) o s t h)
