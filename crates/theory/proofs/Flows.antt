-- A flow with its marks certifies the smallest cheapest set.
use Rattle.std.proofs.Common.{◌≡◌, ℕ, ◌+◌, ◌-◌, ◌<◌, ◌≤◌, Bool, true, false, cond, eqb, List, [], ◌∷◌, ℤ, pos, ◌-ℤ◌, sym, refl, ap, ◌∙◌, arith}
use borrow.Author.Differences.{up, down, ints}
use Rattle.std.specs.List.{ContainsAt as Has, AllByRecursion as All}
use Rattle.std.proofs.ByRecursion.{all-has}
use Rattle.theory.specs.Sums.{total, totalℤ}
use Rattle.theory.specs.Graphs.{Graph, Proper}
use Rattle.theory.specs.Sets.{CellSet, Charges}
use Rattle.theory.specs.Flows.{Flow, remainder, forth, back, Reached, deficit, onward, Certified, CertifiedMarksAreTheSmallestCheapestSet}
use Rattle.theory.proofs.Sums.{for_all, sum_mono, sum_tight, total_mono, total_same, total_add, total_tight, at}
use Rattle.theory.proofs.Least.{Least}
use Rattle.theory.proofs.Prices.{Prices, pay, tie_pays, pays, prices, own_prices, to_set, brought}

cell_best : (m s : Bool) (t l : ℕ) → (t < l → m ≡ true) → (m ≡ true → t ≤ l) → cond m t l ≤ cond s t l
cell_best m s t l h k = grind arith

tie_best : (m m' s s' : Bool) (x y : ℕ) → (m ≡ true → 0 < x → m' ≡ true) → (m' ≡ true → 0 < y → m ≡ true) → pay m m' x y ≤ pay s s' x y
tie_best m m' s s' x y h k = grind arith

cell_forced : (m s : Bool) (t l : ℕ) → cond s t l ≤ cond m t l → (t < l → m ≡ true) → t < l → s ≡ true
cell_forced m s t l e h k = grind arith

tie_forced : (m m' s s' : Bool) (x y : ℕ) → pay s s' x y ≤ pay m m' x y → (m ≡ true → 0 < x → m' ≡ true) → (m' ≡ true → 0 < y → m ≡ true) → s ≡ true → 0 < x → s' ≡ true
tie_forced m m' s s' x y e h k i o = grind arith

tie_forced_back : (m m' s s' : Bool) (x y : ℕ) → pay s s' x y ≤ pay m m' x y → (m ≡ true → 0 < x → m' ≡ true) → (m' ≡ true → 0 < y → m ≡ true) → s' ≡ true → 0 < y → s ≡ true
tie_forced_back m m' s s' x y e h k i o = grind arith

-- ---- prices shifted by a flow

abbrev pushed : {X : Type 0} → Graph X → Charges → Flow X → Prices X
pushed g c f = record {
  taken = λ u. up (c u) + at g.ties g.near (λ x. up (f x)) u + at g.ties g.far (λ x. down (f x)) u;
  left = λ u. down (c u) + at g.ties g.near (λ x. down (f x)) u + at g.ties g.far (λ x. up (f x)) u;
  forth = λ x. g.weight x + down (f x) - up (f x);
  back = λ x. g.weight x + up (f x) - down (f x);
}

tie_pushed : (s s' : Bool) (x y v w : ℕ) → v ≤ x + w → w ≤ y + v → cond s v w + cond s' w v + pay s s' (x + w - v) (y + v - w) ≡ pay s s' x y + (v + w)
tie_pushed s s' x y v w h k = grind arith

-- what one tie takes from a cell, and what all take
one_leaves : (a b u : ℕ) (z : ℤ) → up (cond (eqb a u) z (pos 0) -ℤ cond (eqb b u) z (pos 0)) + cond (eqb a u) (down z) 0 + cond (eqb b u) (up z) 0 ≡ down (cond (eqb a u) z (pos 0) -ℤ cond (eqb b u) z (pos 0)) + cond (eqb a u) (up z) 0 + cond (eqb b u) (down z) 0
one_leaves a b u z = go (eqb a u) (eqb b u)
  where
    go : (v w : Bool) → up (cond v z (pos 0) -ℤ cond w z (pos 0)) + cond v (down z) 0 + cond w (up z) 0 ≡ down (cond v z (pos 0) -ℤ cond w z (pos 0)) + cond v (up z) 0 + cond w (down z) 0
    go true true = omega (arith, ints)
    go true false = omega (arith, ints)
    go false true = omega (arith, ints)
    go false false = refl

all_leave : {X : Type 0} (xs : List X) (a b : X → ℕ) (f : X → ℤ) (u : ℕ) →
    up (totalℤ xs (λ x. cond (eqb (a x) u) (f x) (pos 0) -ℤ cond (eqb (b x) u) (f x) (pos 0))) + at xs a (λ x. down (f x)) u + at xs b (λ x. up (f x)) u
    ≡ down (totalℤ xs (λ x. cond (eqb (a x) u) (f x) (pos 0) -ℤ cond (eqb (b x) u) (f x) (pos 0))) + at xs a (λ x. up (f x)) u + at xs b (λ x. down (f x)) u
all_leave [] a b f u = refl
all_leave (x ∷ xs) a b f u = omega (arith, ints, all_leave xs a b f u, one_leaves (a x) (b x) u (f x))

module _ {X : Type 0} (g : Graph X) (c : Charges) (f : Flow X) (m : CellSet) (o : Proper g) (k : Certified g c f m) where
  abbrev Q : Prices X
  Q = pushed g c f

  left_is : (u : ℕ) → up (remainder g c f u) + (pushed g c f).left u ≡ down (remainder g c f u) + (pushed g c f).taken u
  left_is u = omega (arith, ints, all_leave g.ties g.near g.far f u)

  fits : (x : X) → Has g.ties x → (up (f x) ≤ g.weight x + down (f x)) × (down (f x) ≤ g.weight x + up (f x))
  fits x i = (omega (arith, ints, (k.fits x i).0), omega (arith, ints, (k.fits x i).1))

  -- a flow changes the cost of every set by the same number
  push_cost : (s : CellSet) → pays g (pushed g c f) s ≡ pays g (prices g c) s + total g.ties (λ x. up (f x) + down (f x))
  unfolding pays
  push_cost s =
      let xs = g.ties in
      let P : X → ℕ = λ x. cond (s (g.near x)) (up (f x)) (down (f x)) + cond (s (g.far x)) (down (f x)) (up (f x)) in
      let R : X → ℕ = λ x. pay (s (g.near x)) (s (g.far x)) (g.weight x + down (f x) - up (f x)) (g.weight x + up (f x) - down (f x)) in
      let O : X → ℕ = λ x. pay (s (g.near x)) (s (g.far x)) (g.weight x) (g.weight x) in
      let e : total xs (λ x. P x + R x) ≡ total xs (λ x. O x + (up (f x) + down (f x)))
      = total_same xs _ _ (for_all _ xs (λ x i. tie_pushed (s (g.near x)) (s (g.far x)) (g.weight x) (g.weight x) (up (f x)) (down (f x)) (fits x i).0 (fits x i).1)) in
      omega (arith, e, brought g s (λ u. up (c u)) (λ u. down (c u)) (λ x. up (f x)) (λ x. down (f x)) (λ x. down (f x)) (λ x. up (f x)) o, total_add xs P R, total_add xs O (λ x. up (f x) + down (f x)))

  -- ---- the marks against another set

  deficits : (u : ℕ) → u < g.cells → (pushed g c f).taken u < (pushed g c f).left u → m u ≡ true
  deficits u l h = k.marked u l (deficit l (omega (arith, ints, h, left_is u)))

  none_over : (u : ℕ) → u < g.cells → m u ≡ true → (pushed g c f).taken u ≤ (pushed g c f).left u
  none_over u l h = not_more ((pushed g c f).taken u) ((pushed g c f).left u) (λ more. k.no_surplus u l h (omega (arith, ints, more, left_is u)))
    where
      not_more : (a b : ℕ) → (b < a → ⊥) → a ≤ b
      not_more a b n = omega (arith, n)

  shut_forth : (x : X) → Has g.ties x → m (g.near x) ≡ true → 0 < (pushed g c f).forth x → m (g.far x) ≡ true
  shut_forth x i h r = k.marked (g.far x) (o x i).1 (onward (k.reached (g.near x) (o x i).0 h) (forth x i refl refl (omega (arith, ints, r))))

  shut_back : (x : X) → Has g.ties x → m (g.far x) ≡ true → 0 < (pushed g c f).back x → m (g.near x) ≡ true
  shut_back x i h r = k.marked (g.near x) (o x i).0 (onward (k.reached (g.far x) (o x i).1 h) (back x i refl refl (omega (arith, ints, r))))

  cells_le : (s : CellSet) (u : ℕ) → u < g.cells → cond (m u) ((pushed g c f).taken u) ((pushed g c f).left u) ≤ cond (s u) ((pushed g c f).taken u) ((pushed g c f).left u)
  cells_le s u l = cell_best (m u) (s u) ((pushed g c f).taken u) ((pushed g c f).left u) (deficits u l) (none_over u l)

  ties_le : (s : CellSet) → All (λ x. tie_pays g (pushed g c f) m x ≤ tie_pays g (pushed g c f) s x) g.ties
  ties_le s = for_all _ g.ties (λ x i. tie_best (m (g.near x)) (m (g.far x)) (s (g.near x)) (s (g.far x)) ((pushed g c f).forth x) ((pushed g c f).back x) (shut_forth x i) (shut_back x i))

  -- a set that costs no more holds every cell that is reached
  holds : (s : CellSet)
      → ((u : ℕ) → u < g.cells → cond (s u) ((pushed g c f).taken u) ((pushed g c f).left u) ≤ cond (m u) ((pushed g c f).taken u) ((pushed g c f).left u))
      → All (λ x. tie_pays g (pushed g c f) s x ≤ tie_pays g (pushed g c f) m x) g.ties
      → {u : ℕ} → Reached g c f u → s u ≡ true
  holds s a b (deficit {u} l h) = cell_forced (m u) (s u) ((pushed g c f).taken u) ((pushed g c f).left u) (a u l) (deficits u l) (omega (arith, ints, h, left_is u))
  holds s a b (onward {u} {v} r (forth x i e d w)) =
      ap s (sym d) ∙ tie_forced (m (g.near x)) (m (g.far x)) (s (g.near x)) (s (g.far x)) ((pushed g c f).forth x) ((pushed g c f).back x) (all-has _ g.ties x b i) (shut_forth x i) (shut_back x i) (ap s e ∙ holds s a b r) (omega (arith, ints, w))
  holds s a b (onward {u} {v} r (back x i e d w)) =
      ap s (sym d) ∙ tie_forced_back (m (g.near x)) (m (g.far x)) (s (g.near x)) (s (g.far x)) ((pushed g c f).forth x) ((pushed g c f).back x) (all-has _ g.ties x b i) (shut_forth x i) (shut_back x i) (ap s e ∙ holds s a b r) (omega (arith, ints, w))

  pushed_least : Least g.cells (pays g (pushed g c f)) m
  unfolding pays
  pushed_least = record {
    cheapest = λ t. omega (arith, sum_mono g.cells _ _ (cells_le t), total_mono g.ties _ _ (ties_le t));
    smallest = λ t h u l i.
        holds t
        (sum_tight g.cells _ _ (cells_le t) (omega (arith, h m, total_mono g.ties _ _ (ties_le t))))
        (total_tight g.ties _ _ (ties_le t) (omega (arith, h m, sum_mono g.cells _ _ (cells_le t))))
        (k.reached u l i);
  }

  least : Least g.cells (pays g (prices g c)) m
  least = record {
    cheapest = λ t. omega (arith, pushed_least.cheapest t, push_cost m, push_cost t);
    smallest = λ t h. pushed_least.smallest t (λ r. omega (arith, h r, push_cost r, push_cost t));
  }

pub certified : {X : Type 0} → CertifiedMarksAreTheSmallestCheapestSet X
certified g c f m o k = to_set g (prices g c) g c (own_prices g c) m (least g c f m o k)
