-- The smallest cheapest set of the halving problem is the set of cells that go into the upper half of their brackets.
-- A set of unsettled cells says, for each of them, whether it stands above its middle; put into the level sets of the grid it
-- costs the levels together as much more as it costs the halving problem.
use Rattle.std.proofs.Common.{◌≡◌, ℕ, suc, ◌+◌, ◌<◌, ◌≤◌, Bool, true, false, cond, not, ◌&&◌, eqb, ltb, ◌⊎◌, List, [], ◌∷◌, pos, ◌+ℤ◌, ◌-ℤ◌, sym, refl, ap, ◌∙◌, inl, inr, ⊎_elim, arith}
use borrow.Author.Differences.{up, down, ints}
use Rattle.std.proofs.ByRecursion.{All-weaker}
use Rattle.std.proofs.lemmas.Bool.{cases_Bool, lt-ltb, le-ltb, eqb-true, eqb-false, eq-eqb, ne_eqb, and_parts, not-true}
use Rattle.theory.specs.Sums.{sum_below, total}
use Rattle.theory.specs.Graphs.{Proper}
use Rattle.theory.specs.Sets.{CellSet, differ, crosses}
use Rattle.theory.specs.Grids.{Problem, Heights}
use Rattle.theory.specs.Levels.{above}
use Rattle.theory.specs.Brackets.{Brackets, middle, settled, same_bracket, lies_below, live, tied_to, halving_charges, live_graph, Bracketed, upper_half, HalvingFindsTheUpperHalf}
use Rattle.theory.proofs.Sums.{for_all, sum_mono, sum_same, sum_tight, sum_add, sum_swap, sum_eq, sum_but, total_same, total_eq, total_add, total_swap, total_kept, at}
use Rattle.theory.proofs.Least.{Least}
use Rattle.theory.proofs.Prices.{Prices, pay, pays, pays_same, Ends, ends, StandsFor, stands, to_set, brought}
use Rattle.theory.proofs.Levels.{level, level_least, lowest_stacked}

-- more than one height is left
abbrev wide : ℕ → ℕ → Bool
wide low high = not (eqb low high)

wide_lt : (low high : ℕ) → low ≤ high → wide low high ≡ true → low < high
wide_lt low high l e = omega (arith, eqb-false low high (not-true (eqb low high) e))

-- ---- the level sets with another choice at the middles

-- the set at level m: v at a cell that is halved there, and whether it stands above m elsewhere
abbrev slot : Bool → ℕ → Bool → ℕ → ℕ → Bool
slot o k v h m = cond (o && eqb k m) v (ltb m h)

slot_off : (o : Bool) (k : ℕ) (v : Bool) (h m : ℕ) → (o ≡ true → k ≡ m → ⊥) → slot o k v h m ≡ ltb m h
slot_off true k v h m n = rw (ne_eqb k m (n refl))
slot_off false k v h m n = refl

slot_at : (k : ℕ) (v : Bool) (h : ℕ) → slot true k v h k ≡ v
slot_at k v h = rw (eq-eqb k k refl)

slot_own : (o : Bool) (k h m : ℕ) → slot o k (o && ltb k h) h m ≡ ltb m h
slot_own true k h m = ⊎_elim (λ (e : eqb k m ≡ true). rw e (ap (λ (x : ℕ). ltb x h) (eqb-true k m e))) (λ (e : eqb k m ≡ false). rw e) (cases_Bool (eqb k m))
slot_own false k h m = refl

-- another v at the halved place
turn : (o : ℕ) (w : Bool) (k h : ℕ) (v v' : Bool) (φ : ℕ → Bool → ℕ) → (w ≡ true → k < o) → sum_below o (λ m. φ m (slot w k v h m)) + cond w (φ k v') 0 ≡ sum_below o (λ m. φ m (slot w k v' h m)) + cond w (φ k v) 0
turn o true k h v v' φ l =
    let e = sum_but o k (λ m. φ m (slot true k v h m)) (λ m. φ m (slot true k v' h m)) (l refl) (λ m i n. ap (φ m) (slot_off true k v h m (λ _. n) ∙ sym (slot_off true k v' h m (λ _. n)))) in
    omega (arith, e, ap (φ k) (slot_at k v h), ap (φ k) (slot_at k v' h))
turn o false k h v v' φ l = refl

-- ---- one tie

-- what a tie costs in the halving problem
abbrev part : Bool → Bool → Bool → Bool → Bool → Bool → Bool → ℕ → ℕ
part wa wb ab ba s v w x =
    (cond v (cond (wa && ba) x 0) (cond (wa && ab) x 0) + cond w (cond (wb && ab) x 0) (cond (wb && ba) x 0))
    + pay v w (cond (wa && s) x 0) (cond (wa && s) x 0)

part_same : (wo v w v' w' p q : Bool) (x : ℕ) → (wo ≡ true → p ≡ w) → (wo ≡ true → q ≡ v')
    → (cond wo (pay v p x x) 0 + cond wo (pay q w x x) 0) + part wo wo false false true v' w' x ≡ (cond wo (pay v' p x x) 0 + cond wo (pay q w' x x) 0) + part wo wo false false true v w x
part_same wo v w v' w' p q x h k = grind arith

-- brackets apart from each other, either way round
part_apart : (up wa wb v w v' w' p q : Bool) (x : ℕ) → (wa ≡ true → p ≡ up) → (wb ≡ true → q ≡ not up)
    → (cond wa (pay v p x x) 0 + cond wb (pay q w x x) 0) + part wa wb up (not up) false v' w' x ≡ (cond wa (pay v' p x x) 0 + cond wb (pay q w' x x) 0) + part wa wb up (not up) false v w x
part_apart up true true v w v' w' p q x h k = rw (h refl, k refl) (grind arith)
part_apart up true false v w v' w' p q x h k = rw (h refl) (grind arith)
part_apart up false true v w v' w' p q x h k = rw (k refl) (grind arith)
part_apart up false false v w v' w' p q x h k = grind arith

-- a tie between cells of heights ha and hb with brackets la..ra and lb..rb: its cost over all levels, and in the halving problem
abbrev F : (o ha hb la ra lb rb x : ℕ) → Bool → Bool → ℕ
F o ha hb la ra lb rb x v w = sum_below o (λ m. pay (slot (wide la ra) (middle la ra) v ha m) (slot (wide lb rb) (middle lb rb) w hb m) x x)

abbrev R : (la ra lb rb x : ℕ) → Bool → Bool → ℕ
R la ra lb rb x v w = part (wide la ra) (wide lb rb) (ltb ra lb) (ltb rb la) (eqb la lb && eqb ra rb) v w x

abbrev Local : (la ra lb rb x : ℕ) (p q v w v' w' : Bool) → Type 0
Local la ra lb rb x p q v w v' w' =
    (cond (wide la ra) (pay v p x x) 0 + cond (wide lb rb) (pay q w x x) 0) + R la ra lb rb x v' w' ≡ (cond (wide la ra) (pay v' p x x) 0 + cond (wide lb rb) (pay q w' x x) 0) + R la ra lb rb x v w

local_same : (la ra ha hb x : ℕ) (v w v' w' : Bool) → la ≤ ra → Local la ra la ra x (slot (wide la ra) (middle la ra) w hb (middle la ra)) (slot (wide la ra) (middle la ra) v' ha (middle la ra)) v w v' w'
local_same la ra ha hb x v w v' w' l =
    rw (le-ltb ra la l, eq-eqb la la refl, eq-eqb ra ra refl)
    (part_same (wide la ra) v w v' w' _ _ x (λ e. rw e (slot_at _ w hb)) (λ e. rw e (slot_at _ v' ha)))

module _ (o ha hb la ra lb rb x : ℕ) (al : la ≤ ha) (ar : ha ≤ ra) (ac : ra ≤ o) (bl : lb ≤ hb) (br : hb ≤ rb) (bc : rb ≤ o) where
  wide_a : wide la ra ≡ true → la < ra
  wide_a e = wide_lt la ra (omega arith) e

  wide_b : wide lb rb ≡ true → lb < rb
  wide_b e = wide_lt lb rb (omega arith) e

  local : (v w v' w' : Bool) → ((la ≡ lb) × (ra ≡ rb)) ⊎ ((ra < lb) ⊎ (rb < la)) → Local la ra lb rb x (slot (wide lb rb) (middle lb rb) w hb (middle la ra)) (slot (wide la ra) (middle la ra) v' ha (middle lb rb)) v w v' w'
  local v w v' w' (inl e) = rw (← e.0, ← e.1) (local_same la ra ha hb x v w v' w' (omega arith))
  local v w v' w' (inr (inl e)) =
      rw (lt-ltb ra lb e, le-ltb rb la (omega arith), ne_eqb la lb (omega arith))
      (part_apart true (wide la ra) (wide lb rb) v w v' w' _ _ x
      (λ i. slot_off (wide lb rb) (middle lb rb) w hb (middle la ra) (λ j d. omega (arith, wide_a i, wide_b j)) ∙ lt-ltb (middle la ra) hb (omega (arith, wide_a i)))
      (λ i. slot_off (wide la ra) (middle la ra) v' ha (middle lb rb) (λ j d. omega (arith, wide_b i, wide_a j)) ∙ le-ltb (middle lb rb) ha (omega (arith, wide_b i))))
  local v w v' w' (inr (inr e)) =
      rw (lt-ltb rb la e, le-ltb ra lb (omega arith), ne_eqb la lb (omega arith))
      (part_apart false (wide la ra) (wide lb rb) v w v' w' _ _ x
      (λ i. slot_off (wide lb rb) (middle lb rb) w hb (middle la ra) (λ j d. omega (arith, wide_a i, wide_b j)) ∙ le-ltb (middle la ra) hb (omega (arith, wide_a i)))
      (λ i. slot_off (wide la ra) (middle la ra) v' ha (middle lb rb) (λ j d. omega (arith, wide_b i, wide_a j)) ∙ lt-ltb (middle lb rb) ha (omega (arith, wide_b i))))

  tie_part : (v w v' w' : Bool) → ((la ≡ lb) × (ra ≡ rb)) ⊎ ((ra < lb) ⊎ (rb < la)) → F o ha hb la ra lb rb x v w + R la ra lb rb x v' w' ≡ F o ha hb la ra lb rb x v' w' + R la ra lb rb x v w
  tie_part v w v' w' a =
      let ka : ℕ = middle la ra in
      let kb : ℕ = middle lb rb in
      let one = turn o (wide la ra) ka ha v v' (λ m b. pay b (slot (wide lb rb) kb w hb m) x x) (λ e. omega (arith, wide_a e)) in
      let two = turn o (wide lb rb) kb hb w w' (λ m b. pay (slot (wide la ra) ka v' ha m) b x x) (λ e. omega (arith, wide_b e)) in
      omega (arith, one, two, local v w v' w' a)

-- ---- one cell

cell_turn : (o k h : ℕ) (w : Bool) (p : ℕ → ℕ) (v v' : Bool) → (w ≡ true → k < o) → sum_below o (λ m. cond (slot w k v h m) (p (suc m)) (p m)) + cond v' (cond w (p (suc k)) 0) (cond w (p k) 0) ≡ sum_below o (λ m. cond (slot w k v' h m) (p (suc m)) (p m)) + cond v (cond w (p (suc k)) 0) (cond w (p k) 0)
cell_turn o k h w p v v' l = omega (arith, turn o w k h v v' (λ m b. cond b (p (suc m)) (p m)) l, inside w v (p (suc k)) (p k), inside w v' (p (suc k)) (p k))
  where
    inside : (w v : Bool) (x y : ℕ) → cond v (cond w x 0) (cond w y 0) ≡ cond w (cond v x y) 0
    inside true v x y = refl
    inside false true x y = refl
    inside false false x y = refl

-- ---- the halving problem in prices

abbrev wide_at : Brackets → ℕ → Bool
wide_at b u = wide (b.low u) (b.high u)

abbrev mid : Brackets → ℕ → ℕ
mid b u = middle (b.low u) (b.high u)

abbrev halves : {X : Type 0} → Problem X → Brackets → Prices X
halves p b = let g = p.graph in record {
  taken = λ u. cond (wide_at b u) (p.price u (suc (mid b u))) 0
      + at g.ties g.near (λ x. cond (wide_at b (g.near x) && lies_below b (g.far x) (g.near x)) (g.weight x) 0) u
      + at g.ties g.far (λ x. cond (wide_at b (g.far x) && lies_below b (g.near x) (g.far x)) (g.weight x) 0) u;
  left = λ u. cond (wide_at b u) (p.price u (mid b u)) 0
      + at g.ties g.near (λ x. cond (wide_at b (g.near x) && lies_below b (g.near x) (g.far x)) (g.weight x) 0) u
      + at g.ties g.far (λ x. cond (wide_at b (g.far x) && lies_below b (g.far x) (g.near x)) (g.weight x) 0) u;
  forth = λ x. cond (wide_at b (g.near x) && same_bracket b (g.near x) (g.far x)) (g.weight x) 0;
  back = λ x. cond (wide_at b (g.near x) && same_bracket b (g.near x) (g.far x)) (g.weight x) 0;
}

module _ {X : Type 0} (p : Problem X) (h : Heights) (b : Brackets) (o : Proper p.graph) (c : Bracketed p h b) where
  abbrev W : CellSet → ℕ → CellSet
  W s m u = slot (wide_at b u) (mid b u) (s u) (h u) m

  -- what a choice costs the levels
  abbrev all : CellSet → ℕ
  all s = sum_below p.top (λ m. pays p.graph (level p m) (W s m))

  cellR : CellSet → ℕ → ℕ
  cellR s u = cond (s u) (cond (wide_at b u) (p.price u (suc (mid b u))) 0) (cond (wide_at b u) (p.price u (mid b u)) 0)

  tieR : CellSet → X → ℕ
  tieR s x = let g = p.graph in R (b.low (g.near x)) (b.high (g.near x)) (b.low (g.far x)) (b.high (g.far x)) (g.weight x) (s (g.near x)) (s (g.far x))

  halves_pay : (s : CellSet) → pays p.graph (halves p b) s ≡ sum_below p.graph.cells (cellR s) + total p.graph.ties (tieR s)
  unfolding pays cellR tieR
  halves_pay s =
      let g = p.graph in
      let a : X → ℕ = λ x. cond (wide_at b (g.near x) && lies_below b (g.far x) (g.near x)) (g.weight x) 0 in
      let a' : X → ℕ = λ x. cond (wide_at b (g.near x) && lies_below b (g.near x) (g.far x)) (g.weight x) 0 in
      let z : X → ℕ = λ x. cond (wide_at b (g.far x) && lies_below b (g.near x) (g.far x)) (g.weight x) 0 in
      let z' : X → ℕ = λ x. cond (wide_at b (g.far x) && lies_below b (g.far x) (g.near x)) (g.weight x) 0 in
      let e = brought g s (λ u. cond (wide_at b u) (p.price u (suc (mid b u))) 0) (λ u. cond (wide_at b u) (p.price u (mid b u)) 0) a a' z z' o in
      omega (
        arith,
        e,
        total_add g.ties (λ x. cond (s (g.near x)) (a x) (a' x) + cond (s (g.far x)) (z x) (z' x))
            (λ x. pay (s (g.near x)) (s (g.far x)) ((halves p b).forth x) ((halves p b).back x)),
      )

  -- another set costs the levels as much more as the halving problem
  trade : (s r : CellSet) → all s + pays p.graph (halves p b) r ≡ all r + pays p.graph (halves p b) s
  unfolding pays cellR tieR
  trade s r =
      let g = p.graph in
      let t = p.top in
      let C : CellSet → ℕ → ℕ → ℕ = λ s u m. cond (W s m u) (p.price u (suc m)) (p.price u m) in
      let P : CellSet → X → ℕ → ℕ = λ s x m. pay (W s m (g.near x)) (W s m (g.far x)) (g.weight x) (g.weight x) in
      let cells : sum_below g.cells (λ u. sum_below t (C s u)) + sum_below g.cells (cellR r) ≡ sum_below g.cells (λ u. sum_below t (C r u)) + sum_below g.cells (cellR s)
      = sum_eq g.cells _ _ _ _ (λ u l. cell_turn t (mid b u) (h u) (wide_at b u) (p.price u) (s u) (r u)
      (λ e. omega (arith, wide_lt (b.low u) (b.high u) (omega (arith, c.low u l, c.high u l)) e, c.top u l))) in
      let ties : total g.ties (λ x. sum_below t (P s x)) + total g.ties (tieR r) ≡ total g.ties (λ x. sum_below t (P r x)) + total g.ties (tieR s)
      = total_eq g.ties _ _ _ _ (All-weaker (Ends g) _ (λ x i.
      tie_part t (h (g.near x)) (h (g.far x)) (b.low (g.near x)) (b.high (g.near x)) (b.low (g.far x)) (b.high (g.far x)) (g.weight x)
      (c.low (g.near x) i.0) (c.high (g.near x) i.0) (c.top (g.near x) i.0) (c.low (g.far x) i.1) (c.high (g.far x) i.1) (c.top (g.far x) i.1)
      (s (g.near x)) (s (g.far x)) (r (g.near x)) (r (g.far x)) (c.apart (g.near x) (g.far x) i.0 i.1)) g.ties (ends g o)) in
      let split : (s : CellSet) → all s ≡ sum_below g.cells (λ u. sum_below t (C s u)) + total g.ties (λ x. sum_below t (P s x))
      = λ s. omega (arith, sum_swap g.cells t (C s), total_swap g.ties t (P s), sum_add t (λ m. sum_below g.cells (λ u. C s u m)) (λ m. total g.ties (λ x. P s x m))) in
      omega (arith, cells, ties, split s, split r, halves_pay s, halves_pay r)

  own : all (upper_half b h) ≡ sum_below p.top (λ m. pays p.graph (level p m) (above h m))
  own = sum_same p.top _ _ (λ m l. pays_same p.graph (level p m) o _ _ (λ u i. slot_own (wide_at b u) (mid b u) (h u) m))

  upper_least : ((m : ℕ) → m < p.top → Least p.graph.cells (pays p.graph (level p m)) (above h m)) → Least p.graph.cells (pays p.graph (halves p b)) (upper_half b h)
  upper_least k = record {
    cheapest = λ s. omega (arith, trade s (upper_half b h), own, sum_mono p.top _ _ (λ m l. (k m l).cheapest (W s m)));
    smallest = λ s d u l i.
        let w = and_parts (wide_at b u) (ltb (mid b u) (h u)) i in
        let m : ℕ = mid b u in
        let mo : m < p.top = omega (arith, wide_lt (b.low u) (b.high u) (omega (arith, c.low u l, c.high u l)) w.0, c.top u l) in
        let tight = sum_tight p.top (λ m. pays p.graph (level p m) (above h m)) (λ m. pays p.graph (level p m) (W s m)) (λ m l. (k m l).cheapest (W s m)) (omega (arith, trade s (upper_half b h), own, d (upper_half b h))) in
        let e : W s m u ≡ true = (k m mo).smallest (W s m) (λ r. omega (arith, tight m mo, (k m mo).cheapest r)) u l w.1 in
        sym (rw w.0 (slot_at m (s u) (h u))) ∙ e;
  }

-- ---- the halving problem in plain terms

none : (x : Bool) → ◌≡◌ {A = ℕ} (cond x 0 0) 0
none true = refl
none false = refl

inside : (x y z : Bool) (w : ℕ) → x ≡ true → cond x (cond (y && z) w 0) 0 ≡ cond y (cond (x && z) w 0) 0
inside x true z w e = rw e
inside x false z w e = rw e

-- a weight at the end v of a tie counts at u where v is u
at_end : (w : ℕ → Bool) (P : ℕ → Bool) (v u x : ℕ) → cond (eqb v u) (cond (w v && P v) x 0) 0 ≡ cond (w u) (cond (eqb v u && P u) x 0) 0
at_end w P v u x =
    ⊎_elim
    (λ (e : eqb v u ≡ true). let q : v ≡ u = eqb-true v u e in ap (λ (y : ℕ). cond (eqb v u) (cond (w y && P y) x 0) 0) q ∙ inside (eqb v u) (w u) (P u) x e)
    (λ (e : eqb v u ≡ false). rw e (sym (none (w u))))
    (cases_Bool (eqb v u))

cond_sum : (b : Bool) (x y z : ℕ) → cond b (x + y + z) 0 ≡ cond b x 0 + cond b y 0 + cond b z 0
cond_sum true x y z = refl
cond_sum false x y z = refl

weigh : {X : Type 0} (xs : List X) (near far weight : X → ℕ) (w : ℕ → Bool) (q : ℕ → ℕ → Bool) (u : ℕ) →
    cond (w u) (total xs (λ x. cond (eqb (near x) u && q (far x) u) (weight x) 0 + cond (eqb (far x) u && q (near x) u) (weight x) 0)) 0
    ≡ at xs near (λ x. cond (w (near x) && q (far x) (near x)) (weight x) 0) u + at xs far (λ x. cond (w (far x) && q (near x) (far x)) (weight x) 0) u
weigh [] near far weight w q u = none (w u)
weigh (x ∷ xs) near far weight w q u =
    omega (
      arith,
      weigh xs near far weight w q u,
      cond_sum (w u) (cond (eqb (near x) u && q (far x) u) (weight x) 0) (cond (eqb (far x) u && q (near x) u) (weight x) 0)
          (total xs (λ x. cond (eqb (near x) u && q (far x) u) (weight x) 0 + cond (eqb (far x) u && q (near x) u) (weight x) 0)),
      at_end w (q (far x)) (near x) u (weight x),
      at_end w (q (near x)) (far x) u (weight x),
    )

charge_is : (s : Bool) (x y l h : ℕ) → up (cond s (pos 0) (((pos x -ℤ pos y) +ℤ pos l) -ℤ pos h)) + (cond (not s) y 0 + cond (not s) h 0) ≡ down (cond s (pos 0) (((pos x -ℤ pos y) +ℤ pos l) -ℤ pos h)) + (cond (not s) x 0 + cond (not s) l 0)
charge_is true x y l h = refl
charge_is false x y l h = omega (arith, ints)

live_tie : (same set v w : Bool) (x : ℕ) → cond (same && not set) (cond (differ v w) x 0) 0 ≡ pay v w (cond (not set && same) x 0) (cond (not set && same) x 0)
live_tie true true v w x = grind arith
live_tie true false v w x = grind arith
live_tie false true v w x = grind arith
live_tie false false v w x = grind arith

halving_stands : {X : Type 0} (p : Problem X) (b : Brackets) → StandsFor p.graph (halves p b) (live_graph p.graph b) (halving_charges p b)
halving_stands p b =
    let g = p.graph in
    stands g (halves p b) (live_graph g b) (halving_charges p b) refl
    (λ u l. omega (
      arith,
      weigh g.ties g.near g.far g.weight (wide_at b) (λ v u. lies_below b v u) u,
      weigh g.ties g.near g.far g.weight (wide_at b) (λ v u. lies_below b u v) u,
      charge_is (settled b u) (p.price u (suc (mid b u))) (p.price u (mid b u)) (tied_to g u (λ v. lies_below b v u)) (tied_to g u (λ v. lies_below b u v)),
    ))
    (λ s. total_kept (live g b) g.ties (λ x. cond (crosses g s x) (g.weight x) 0)
    ∙ total_same g.ties _ _ (for_all _ g.ties (λ x _. live_tie (same_bracket b (g.near x) (g.far x)) (settled b (g.near x)) (s (g.near x)) (s (g.far x)) (g.weight x))))

pub halving : {X : Type 0} → HalvingFindsTheUpperHalf X
halving p h b o steps lowest c =
    to_set p.graph (halves p b) (live_graph p.graph b) (halving_charges p b) (halving_stands p b) (upper_half b h)
    (upper_least p h b o c (level_least p h (lowest_stacked p h o steps lowest)))
