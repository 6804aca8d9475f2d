-- The remainder of a cell: a sum over all live ties has four terms.
use Rattle.std.proofs.Common.{◌≡◌, ℕ, zero, suc, ◌+◌, ◌-◌, ◌<◌, ◌≤◌, Bool, true, false, cond, eqb, leb, List, [], ◌∷◌, ◌++◌, ℤ, pos, ◌+ℤ◌, ◌-ℤ◌, filter, sym, refl, ap, ◌∙◌, ⊎_elim, arith}
use Rattle.std.proofs.lemmas.List.Elements.{filter-append}
use Rattle.std.proofs.lemmas.Int.{ints}
use Rattle.std.proofs.lemmas.Bool.{cases_eq, cases_lt, cases_Bool, eq-eqb, ne_eqb, le-leb, lt-leb}
use Rattle.theory.specs.Sums.{sumℤ, totalℤ}
use Rattle.theory.specs.Flows.{leaving, remainder}
use Rattle.tile.specs.declared.shape.Shape.{Shape}
use Rattle.tile.specs.declared.side.Side.{Side}
use Rattle.tile.specs.declared.side.Side.TheVariants.{Rightward, Downward}
use Rattle.tile.specs.Records.{stored_flow}
use Rattle.tile.specs.Shapes.{cells}
use Rattle.tile.specs.Ties.{offset, Tie, has_neighbour, neighbour, tie_on, ties_of, ties_below}
use Rattle.tile.specs.Tiles.{Tile, cell}
use Rattle.flow.specs.Sides.{remains}
use Rattle.flow.specs.Networks.{charges, flow_on, network, is_live}
use Rattle.flow.specs.Points.{FlowsFit}
use Rattle.flow.proofs.LiveTies.{tie_at, lives}

-- ---- signed sums

totalℤ_append : {X : Type 0} (xs ys : List X) (f : X → ℤ) → totalℤ (xs ++ ys) f ≡ totalℤ xs f +ℤ totalℤ ys f
totalℤ_append [] ys f = omega (arith, ints)
totalℤ_append (x ∷ xs) ys f = omega (arith, ints, totalℤ_append xs ys f)

sumℤ_add : (n : ℕ) (f g : ℕ → ℤ) → sumℤ n (λ v. f v +ℤ g v) ≡ sumℤ n f +ℤ sumℤ n g
sumℤ_add zero f g = refl
sumℤ_add (suc n) f g = omega (arith, ints, sumℤ_add n f g)

sumℤ_sub : (n : ℕ) (f g : ℕ → ℤ) → sumℤ n (λ v. f v -ℤ g v) ≡ sumℤ n f -ℤ sumℤ n g
sumℤ_sub zero f g = refl
sumℤ_sub (suc n) f g = omega (arith, ints, sumℤ_sub n f g)

sumℤ_none : (n : ℕ) (f : ℕ → ℤ) → ((v : ℕ) → v < n → f v ≡ pos 0) → sumℤ n f ≡ pos 0
sumℤ_none zero f h = refl
sumℤ_none (suc n) f h = omega (arith, ints, h n (omega arith), sumℤ_none n f (λ v l. h v (omega arith)))

-- all terms but one are 0
sumℤ_one : (n w : ℕ) (f : ℕ → ℤ) → w < n → ((v : ℕ) → (v ≡ w → ⊥) → f v ≡ pos 0) → sumℤ n f ≡ f w
sumℤ_one zero w f l h = absurd (omega arith)
sumℤ_one (suc n) w f l h =
    ⊎_elim
    (λ (e : n ≡ w). omega (arith, ints, sumℤ_none n f (λ v k. h v (λ q. omega arith)), ap f e))
    (λ (e : n ≡ w → ⊥). omega (arith, ints, sumℤ_one n w f (omega arith) h, h n e))
    (cases_eq n w)

-- the one term whose place lies k before u
sumℤ_before : (n k u : ℕ) (f : ℕ → ℤ) → u < n → sumℤ n (λ v. cond (eqb (v + k) u) (f v) (pos 0)) ≡ cond (leb k u) (f (u - k)) (pos 0)
sumℤ_before n k u f l =
    ⊎_elim
    (λ (e : u < k). rw (lt-leb k u e) (sumℤ_none n (λ v. cond (eqb (v + k) u) (f v) (pos 0)) (λ v j. rw (ne_eqb (v + k) u (λ q. omega arith)))))
    (λ (e : k ≤ u).
    let one = sumℤ_one n (u - k) (λ v. cond (eqb (v + k) u) (f v) (pos 0)) (omega arith) (λ v q. rw (ne_eqb (v + k) u (λ z. q (omega arith)))) in
    let here : cond (eqb (u - k + k) u) (f (u - k)) (pos 0) ≡ f (u - k) = rw (eq-eqb (u - k + k) u (omega arith)) in
    rw (le-leb k u e) (one ∙ here))
    (cases_lt u k)

sumℤ_at : (n u : ℕ) (f : ℕ → ℤ) → u < n → sumℤ n (λ v. cond (eqb v u) (f v) (pos 0)) ≡ f u
sumℤ_at n u f l =
    let here : cond (eqb u u) (f u) (pos 0) ≡ f u = rw (eq-eqb u u refl) in
    sumℤ_one n u (λ v. cond (eqb v u) (f v) (pos 0)) l (λ v q. rw (ne_eqb v u q)) ∙ here

-- ---- a sum over the live ties, cell by cell

-- what does not count where there is no live tie
abbrev Idle : Shape → Tile → (Tie → ℤ) → ℕ → Type 0
Idle s t k n = (v : ℕ) (d : Side) → v < n → is_live s t v d ≡ false → k (tie_at v d) ≡ pos 0

one_side : (s : Shape) (t : Tile) (k : Tie → ℤ) (v : ℕ) (d : Side) → (is_live s t v d ≡ false → k (tie_at v d) ≡ pos 0) → totalℤ (filter (lives s t) (tie_on s v d)) k ≡ k (tie_at v d)
one_side s t k v d h =
    ⊎_elim
    (λ (e : has_neighbour s v d ≡ true).
    ⊎_elim
    (λ (a : lives s t (tie_at v d) ≡ true). rw (e, a) (omega (arith, ints)))
    (λ (a : lives s t (tie_at v d) ≡ false). let z : k (tie_at v d) ≡ pos 0 = h (rw (e, a)) in rw (e, a) (sym z))
    (cases_Bool (lives s t (tie_at v d))))
    (λ (e : has_neighbour s v d ≡ false). let z : k (tie_at v d) ≡ pos 0 = h (rw e) in rw e (sym z))
    (cases_Bool (has_neighbour s v d))

one_cell : (s : Shape) (t : Tile) (k : Tie → ℤ) (v : ℕ) → ((d : Side) → is_live s t v d ≡ false → k (tie_at v d) ≡ pos 0) → totalℤ (filter (lives s t) (ties_of s v)) k ≡ k (tie_at v Rightward) +ℤ k (tie_at v Downward)
one_cell s t k v h =
    let xs = tie_on s v Rightward in
    let ys = tie_on s v Downward in
    let p : filter (lives s t) (ties_of s v) ≡ filter (lives s t) (tie_on s v Rightward) ++ (filter (lives s t) (tie_on s v Downward) ++ [])
    = filter-append (lives s t) xs (ys ++ []) ∙ ap (λ (zs : List Tie). filter (lives s t) (tie_on s v Rightward) ++ zs) (filter-append (lives s t) ys []) in
    let a = totalℤ_append (filter (lives s t) (tie_on s v Rightward)) (filter (lives s t) (tie_on s v Downward) ++ []) k in
    let b = totalℤ_append (filter (lives s t) (tie_on s v Downward)) [] k in
    ap (λ (zs : List Tie). totalℤ zs k) p ∙ omega (arith, ints, a, b, one_side s t k v Rightward (h Rightward), one_side s t k v Downward (h Downward))

by_cells : (s : Shape) (t : Tile) (k : Tie → ℤ) (n : ℕ) → Idle s t k n → totalℤ (filter (lives s t) (ties_below s n)) k ≡ sumℤ n (λ v. k (tie_at v Rightward) +ℤ k (tie_at v Downward))
by_cells s t k zero h = refl
by_cells s t k (suc n) h =
    let p = filter-append (lives s t) (ties_below s n) (ties_of s n) in
    let a = totalℤ_append (filter (lives s t) (ties_below s n)) (filter (lives s t) (ties_of s n)) k in
    ap (λ (zs : List Tie). totalℤ zs k) p ∙ omega (arith, ints, a, by_cells s t k n (λ v d l. h v d (omega arith)), one_cell s t k n (λ d. h n d (omega arith)))

-- ---- what leaves a cell

no_flow : (x y : Bool) (z : ℤ) → z ≡ pos 0 → cond x z (pos 0) -ℤ cond y z (pos 0) ≡ pos 0
no_flow true true z e = omega (arith, ints)
no_flow true false z e = omega (arith, ints)
no_flow false true z e = omega (arith, ints)
no_flow false false z e = refl

-- over the ties of one side, the cell's own flow leaves it, and that of the cell before enters it
one_way : (s : Shape) (t : Tile) (d : Side) (n u : ℕ) → u < n →
    sumℤ n (λ v. leaving (network s t) (flow_on t) u (tie_at v d))
    ≡ stored_flow (cell t u) d -ℤ cond (leb (offset s.columns d) u) (stored_flow (cell t (u - offset s.columns d)) d) (pos 0)
one_way s t Rightward n u l =
    let out = sumℤ_at n u (λ v. stored_flow (cell t v) Rightward) l in
    let into = sumℤ_before n 1 u (λ v. stored_flow (cell t v) Rightward) l in
    sumℤ_sub n (λ v. cond (eqb v u) (stored_flow (cell t v) Rightward) (pos 0)) (λ v. cond (eqb (v + 1) u) (stored_flow (cell t v) Rightward) (pos 0))
    ∙ omega (arith, ints, out, into)
one_way s t Downward n u l =
    let out = sumℤ_at n u (λ v. stored_flow (cell t v) Downward) l in
    let into = sumℤ_before n s.columns u (λ v. stored_flow (cell t v) Downward) l in
    sumℤ_sub n (λ v. cond (eqb v u) (stored_flow (cell t v) Downward) (pos 0)) (λ v. cond (eqb (v + s.columns) u) (stored_flow (cell t v) Downward) (pos 0))
    ∙ omega (arith, ints, out, into)

-- the remainder in the network is what remains by the sides of the cell
pub remainder_is : (s : Shape) (t : Tile) → FlowsFit s t → (u : ℕ) → u < cells s → remainder (network s t) (charges t) (flow_on t) u ≡ remains t s.columns u
remainder_is s t fit u l =
    let idle : Idle s t (leaving (network s t) (flow_on t) u) (cells s)
    = λ v d j e. no_flow (eqb v u) (eqb (neighbour s v d) u) (stored_flow (cell t v) d) (fit.idle v d j e) in
    let all = by_cells s t (leaving (network s t) (flow_on t) u) (cells s) idle in
    let two = sumℤ_add (cells s) (λ v. leaving (network s t) (flow_on t) u (tie_at v Rightward)) (λ v. leaving (network s t) (flow_on t) u (tie_at v Downward)) in
    let right = one_way s t Rightward (cells s) u l in
    let down = one_way s t Downward (cells s) u l in
    ap (λ (z : ℤ). charges t u +ℤ z) (all ∙ two) ∙ omega (arith, ints, right, down)
