-- The ties of a cell, found on its four sides.
use Rattle.std.proofs.Common.{◌≡◌, ℕ, zero, suc, ◌+◌, ◌-◌, ◌<◌, ◌≤◌, Bool, true, false, cond, ◌&&◌, eqb, leb, [], ◌++◌, ℤ, pos, ◌+ℤ◌, ◌-ℤ◌, sym, refl, ◌∙◌, ap₂, ⊎_elim, arith}
use Rattle.std.proofs.lemmas.Int.{ints}
use Rattle.std.proofs.lemmas.Bool.{cases_eq, cases_lt, cases_Bool, eq-eqb, ne_eqb, lt-ltb, le-ltb, le-leb, lt-leb}
use Rattle.theory.specs.Sums.{sum_below, total}
use Rattle.theory.specs.Brackets.{tied_to, lies_below}
use Rattle.theory.proofs.Sums.{sum_add, sum_same, sum_zero, pick_one, total_append}
use Rattle.tile.specs.declared.shape.Shape.{Shape}
use Rattle.tile.specs.declared.side.Side.{Side}
use Rattle.tile.specs.declared.side.Side.TheVariants.{Rightward, Downward}
use Rattle.tile.specs.Records.{stored_tie}
use Rattle.tile.specs.Shapes.{cells}
use Rattle.tile.specs.Ties.{offset, Tie, has_neighbour, neighbour, tie_on, ties_of, ties_below}
use Rattle.tile.specs.Tiles.{Tile, cell}
use Rattle.tile.proofs.Joins.{neighbour_inside}
use Rattle.flow.specs.Networks.{weighted, brackets}
use Rattle.flow.proofs.LiveTies.{tie_at, neighbour_is}
use Rattle.passes.specs.Rounds.{Chargeable}
use Rattle.passes.specs.Pulls.{pull_ahead, pull_behind, pull_over}

-- ---- a sum over the ties, cell by cell

one_side : (s : Shape) (k : Tie → ℕ) (v : ℕ) (d : Side) → (has_neighbour s v d ≡ false → k (tie_at v d) ≡ 0) → total (tie_on s v d) k ≡ k (tie_at v d)
one_side s k v d h =
    ⊎_elim
    (λ (e : has_neighbour s v d ≡ true). rw e (omega arith))
    (λ (e : has_neighbour s v d ≡ false). rw e (sym (h e)))
    (cases_Bool (has_neighbour s v d))

one_cell : (s : Shape) (k : Tie → ℕ) (v : ℕ) → ((d : Side) → has_neighbour s v d ≡ false → k (tie_at v d) ≡ 0) → total (ties_of s v) k ≡ k (tie_at v Rightward) + k (tie_at v Downward)
one_cell s k v h =
    let a = total_append (tie_on s v Rightward) (tie_on s v Downward ++ []) k in
    let b = total_append (tie_on s v Downward) [] k in
    omega (arith, a, b, one_side s k v Rightward (h Rightward), one_side s k v Downward (h Downward))

by_cells : (s : Shape) (k : Tie → ℕ) (n : ℕ) → ((v : ℕ) (d : Side) → v < n → has_neighbour s v d ≡ false → k (tie_at v d) ≡ 0) → total (ties_below s n) k ≡ sum_below n (λ v. k (tie_at v Rightward)) + sum_below n (λ v. k (tie_at v Downward))
by_cells s k zero h = refl
by_cells s k (suc n) h =
    omega (arith, total_append (ties_below s n) (ties_of s n) k, by_cells s k n (λ v d l. h v d (omega arith)), one_cell s k n (λ d. h n d (omega arith)))

-- ---- a sum of which one place counts at most

sum_none : (n : ℕ) (f : ℕ → ℕ) → ((v : ℕ) → v < n → f v ≡ 0) → sum_below n f ≡ 0
sum_none n f h = sum_same n f (λ _. 0) h ∙ sum_zero n

-- the place that lies k before u
sum_before : (n k u : ℕ) (q : ℕ → Bool) (f : ℕ → ℕ) → u < n → sum_below n (λ v. cond (eqb (v + k) u && q v) (f v) 0) ≡ cond (leb k u) (cond (q (u - k)) (f (u - k)) 0) 0
sum_before n k u q f l =
    ⊎_elim
    (λ (e : u < k). rw (lt-leb k u e) (sum_none n (λ v. cond (eqb (v + k) u && q v) (f v) 0) (λ v j. rw (ne_eqb (v + k) u (λ z. omega arith)))))
    (λ (e : k ≤ u).
    rw (le-leb k u e)
    (sum_same n (λ v. cond (eqb (v + k) u && q v) (f v) 0) (λ v. cond (eqb (u - k) v) (cond (q v) (f v) 0) 0) (λ v j. same v e)
    ∙ pick_one n (u - k) (λ v. cond (q v) (f v) 0) (omega arith)))
    (cases_lt u k)
  where
    same : (v : ℕ) → k ≤ u → cond (eqb (v + k) u && q v) (f v) 0 ≡ cond (eqb (u - k) v) (cond (q v) (f v) 0) 0
    same v e =
        ⊎_elim
        (λ (z : v + k ≡ u). rw (eq-eqb (v + k) u z, eq-eqb (u - k) v (omega arith)))
        (λ (z : v + k ≡ u → ⊥). rw (ne_eqb (v + k) u z, ne_eqb (u - k) v (λ y. z (omega arith))))
        (cases_eq (v + k) u)

-- the place u itself
sum_at : (n u : ℕ) (q : ℕ → Bool) (f : ℕ → ℕ) → u < n → sum_below n (λ v. cond (eqb v u && q v) (f v) 0) ≡ cond (q u) (f u) 0
sum_at n u q f l =
    sum_same n (λ v. cond (eqb v u && q v) (f v) 0) (λ v. cond (eqb u v) (cond (q v) (f v) 0) 0) same ∙ pick_one n u (λ v. cond (q v) (f v) 0) l
  where
    same : (v : ℕ) → v < n → cond (eqb v u && q v) (f v) 0 ≡ cond (eqb u v) (cond (q v) (f v) 0) 0
    same v j =
        ⊎_elim
        (λ (z : v ≡ u). rw (eq-eqb v u z, eq-eqb u v (omega arith)))
        (λ (z : v ≡ u → ⊥). rw (ne_eqb v u z, ne_eqb u v (λ y. z (omega arith))))
        (cases_eq v u)

regroup : (a a' b b' : ℕ) → (pos a -ℤ pos a') +ℤ (pos b -ℤ pos b') ≡ pos (a + b) -ℤ pos (a' + b')
regroup a a' b b' = omega (arith, ints)

-- ---- the ties of the cell u to cells that pass a test, on its four sides

module _ (s : Shape) (t : Tile) (fit : Chargeable s t) (u : ℕ) (l : u < cells s) where
  abbrev reach : Side → ℕ
  reach d = offset s.columns d

  abbrev ahead : (ℕ → Bool) → Side → ℕ
  ahead q d = cond (q (u + reach d)) (stored_tie (cell t u) d) 0

  abbrev behind : (ℕ → Bool) → Side → ℕ
  behind q d = cond (leb (reach d) u) (cond (q (u - reach d)) (stored_tie (cell t (u - reach d)) d) 0) 0

  -- what the tie on a side of the cell v counts
  abbrev counts : (ℕ → Bool) → Tie → ℕ
  counts q x =
      cond (eqb x.cell u && q (neighbour s x.cell x.side)) (stored_tie (cell t x.cell) x.side) 0
      + cond (eqb (neighbour s x.cell x.side) u && q x.cell) (stored_tie (cell t x.cell) x.side) 0

  nothing : (x y : Bool) (w : ℕ) → w ≡ 0 → cond x w 0 + cond y w 0 ≡ 0
  nothing true true w e = omega arith
  nothing true false w e = omega arith
  nothing false true w e = omega arith
  nothing false false w e = refl

  on_side : (q : ℕ → Bool) (d : Side) → sum_below (cells s) (λ v. counts q (tie_at v d)) ≡ ahead q d + behind q d
  on_side q Rightward =
      sum_add (cells s) (λ v. cond (eqb v u && q (v + 1)) (stored_tie (cell t v) Rightward) 0) (λ v. cond (eqb (v + 1) u && q v) (stored_tie (cell t v) Rightward) 0)
      ∙ omega (arith, sum_at (cells s) u (λ v. q (v + 1)) (λ v. stored_tie (cell t v) Rightward) l, sum_before (cells s) 1 u q (λ v. stored_tie (cell t v) Rightward) l)
  on_side q Downward =
      sum_add (cells s) (λ v. cond (eqb v u && q (v + s.columns)) (stored_tie (cell t v) Downward) 0) (λ v. cond (eqb (v + s.columns) u && q v) (stored_tie (cell t v) Downward) 0)
      ∙ omega (arith, sum_at (cells s) u (λ v. q (v + s.columns)) (λ v. stored_tie (cell t v) Downward) l, sum_before (cells s) s.columns u q (λ v. stored_tie (cell t v) Downward) l)

  four_sides : (q : ℕ → Bool) → tied_to (weighted s t) u q ≡ (ahead q Rightward + behind q Rightward) + (ahead q Downward + behind q Downward)
  four_sides q =
      let none : (v : ℕ) (d : Side) → v < cells s → has_neighbour s v d ≡ false → counts q (tie_at v d) ≡ 0
      = λ v d j e. nothing (eqb v u && q (neighbour s v d)) (eqb (neighbour s v d) u && q v) (stored_tie (cell t v) d) ((fit.ties v j d).edge e) in
      by_cells s (counts q) (cells s) none ∙ omega (arith, on_side q Rightward, on_side q Downward)

  abbrev lower : ℕ → Bool
  lower v = lies_below (brackets t) v u

  abbrev higher : ℕ → Bool
  higher v = lies_below (brackets t) u v

  -- no tie leads past the last cell
  no_tie : (d : Side) → cells s ≤ u + reach d → stored_tie (cell t u) d ≡ 0
  no_tie d far =
      ⊎_elim
      (λ (e : has_neighbour s u d ≡ true). absurd (omega (arith, neighbour_inside s u d l e, neighbour_is s u d)))
      (λ (e : has_neighbour s u d ≡ false). (fit.ties u l d).edge e)
      (cases_Bool (has_neighbour s u d))

  two_nothing : (x y : Bool) (w : ℕ) → w ≡ 0 → pos 0 ≡ pos (cond x w 0) -ℤ pos (cond y w 0)
  two_nothing true true w e = omega (arith, ints)
  two_nothing true false w e = omega (arith, ints)
  two_nothing false true w e = omega (arith, ints)
  two_nothing false false w e = refl

  ahead_is : (d : Side) → pull_ahead s t d u ≡ pos (ahead lower d) -ℤ pos (ahead higher d)
  ahead_is d =
      ⊎_elim
      (λ (e : u + reach d < cells s). rw (lt-ltb (u + reach d) (cells s) e))
      (λ (e : cells s ≤ u + reach d). rw (le-ltb (u + reach d) (cells s) e) (two_nothing (lower (u + reach d)) (higher (u + reach d)) (stored_tie (cell t u) d) (no_tie d e)))
      (cases_lt (u + reach d) (cells s))

  behind_is : (d : Side) → pull_behind s t d u ≡ pos (behind lower d) -ℤ pos (behind higher d)
  behind_is d =
      ⊎_elim
      (λ (e : u < reach d). rw (lt-leb (reach d) u e))
      (λ (e : reach d ≤ u). rw (le-leb (reach d) u e))
      (cases_lt u (reach d))

  over_is : (d : Side) → pull_over s t d u ≡ pos (ahead lower d + behind lower d) -ℤ pos (ahead higher d + behind higher d)
  over_is d = ap₂ (λ (x y : ℤ). x +ℤ y) (ahead_is d) (behind_is d) ∙ regroup (ahead lower d) (ahead higher d) (behind lower d) (behind higher d)

  -- the pulls of the four sides are the ties to lower brackets less those to higher ones
  pub pulls_are : pull_over s t Rightward u +ℤ pull_over s t Downward u ≡ pos (tied_to (weighted s t) u lower) -ℤ pos (tied_to (weighted s t) u higher)
  pulls_are =
      ap₂ (λ (x y : ℤ). x +ℤ y) (over_is Rightward) (over_is Downward)
      ∙ regroup (ahead lower Rightward + behind lower Rightward) (ahead higher Rightward + behind higher Rightward) (ahead lower Downward + behind lower Downward) (ahead higher Downward + behind higher Downward)
      ∙ ap₂ (λ (m n : ℕ). pos m -ℤ pos n) (sym (four_sides lower)) (sym (four_sides higher))
