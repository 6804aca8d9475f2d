-- What a write to one record leaves of the others.
use Rattle.std.proofs.Common.{◌≡◌, ℕ, ◌+◌, ◌-◌, ◌<◌, ◌≤◌, cond, eqb, leb, length, set, ℤ, pos, ◌+ℤ◌, ◌-ℤ◌, sym, refl, ap, ◌∙◌, subst, ⊎_elim, arith, length-set}
use Rattle.std.proofs.lemmas.List.{get_or-set_same, get_or-set_other, set_past}
use Rattle.std.proofs.lemmas.Bool.{cases_eq, cases_lt, eq-eqb, ne_eqb, le-leb, lt-leb}
use Rattle.std.proofs.lemmas.Int.{ints}
use Rattle.tile.specs.declared.cell.Cell.{Cell}
use Rattle.tile.specs.declared.side.Side.{Side}
use Rattle.tile.specs.declared.side.Side.TheVariants.{Rightward, Downward}
use Rattle.tile.specs.Records.{stored_tie, stored_flow}
use Rattle.tile.specs.Tiles.{Tile, cell, blank}
use Rattle.flow.specs.Sides.{live_pair, SameSurvey, SameFlows, uncut, add_flow, with_more_flow, remains}

pub set_field : {Y : Type 0} (f : Cell → Y) (t : Tile) (a : ℕ) (x : Cell) → f x ≡ f (cell t a) → (b : ℕ) → f (cell (set t a x) b) ≡ f (cell t b)
set_field f t a x e b =
    ⊎_elim
    (λ (q : b ≡ a).
    ⊎_elim
    (λ (l : a < length t). subst (λ (k : ℕ). f (cell (set t a x) k) ≡ f (cell t k)) (sym q) (ap f (get_or-set_same t a x blank l) ∙ e))
    (λ (l : length t ≤ a). ap (λ (z : Tile). f (cell z b)) (set_past t a x l))
    (cases_lt a (length t)))
    (λ (q : b ≡ a → ⊥). ap f (get_or-set_other t a b x blank q))
    (cases_eq b a)

-- the flow on the side that is written
pub flow_added : (t : Tile) (d : Side) (a : ℕ) (z : ℤ) → a < length t → (b : ℕ) → stored_flow (cell (add_flow t d a z) b) d ≡ stored_flow (cell t b) d +ℤ cond (eqb b a) z (pos 0)
flow_added t d a z l b =
    ⊎_elim
    (λ (q : b ≡ a).
    let here : stored_flow (cell (add_flow t d a z) a) d ≡ stored_flow (cell t a) d +ℤ z = ap (λ x. stored_flow x d) (get_or-set_same t a (with_more_flow d z (cell t a)) blank l) ∙ added d in
    rw (eq-eqb b a q) (subst (λ (k : ℕ). stored_flow (cell (add_flow t d a z) k) d ≡ stored_flow (cell t k) d +ℤ z) (sym q) here))
    (λ (q : b ≡ a → ⊥). rw (ne_eqb b a q) (ap (λ x. stored_flow x d) (get_or-set_other t a b (with_more_flow d z (cell t a)) blank q) ∙ plus_none))
    (cases_eq b a)
  where
    added : (d : Side) → stored_flow (with_more_flow d z (cell t a)) d ≡ stored_flow (cell t a) d +ℤ z
    added Rightward = refl
    added Downward = refl

    plus_none : stored_flow (cell t b) d ≡ stored_flow (cell t b) d +ℤ pos 0
    plus_none = omega (arith, ints)

-- the flow on the other side
pub down_added_right : (t : Tile) (a : ℕ) (z : ℤ) (b : ℕ) → (cell (add_flow t Rightward a z) b).down_flow ≡ (cell t b).down_flow
down_added_right t a z b = set_field (λ x. x.down_flow) t a (with_more_flow Rightward z (cell t a)) refl b

pub right_added_down : (t : Tile) (a : ℕ) (z : ℤ) (b : ℕ) → (cell (add_flow t Downward a z) b).right_flow ≡ (cell t b).right_flow
right_added_down t a z b = set_field (λ x. x.right_flow) t a (with_more_flow Downward z (cell t a)) refl b

pub charge_added : (t : Tile) (d : Side) (a : ℕ) (z : ℤ) (b : ℕ) → (cell (add_flow t d a z) b).charge ≡ (cell t b).charge
charge_added t Rightward a z b = set_field (λ x. x.charge) t a (with_more_flow Rightward z (cell t a)) refl b
charge_added t Downward a z b = set_field (λ x. x.charge) t a (with_more_flow Downward z (cell t a)) refl b

pub rank_added : (t : Tile) (d : Side) (a : ℕ) (z : ℤ) (b : ℕ) → (cell (add_flow t d a z) b).rank ≡ (cell t b).rank
rank_added t Rightward a z b = set_field (λ x. x.rank) t a (with_more_flow Rightward z (cell t a)) refl b
rank_added t Downward a z b = set_field (λ x. x.rank) t a (with_more_flow Downward z (cell t a)) refl b

pub still_added : (t : Tile) (d : Side) (a : ℕ) (z : ℤ) → SameSurvey t (add_flow t d a z)
still_added t Rightward a z = record { long = length-set _ _ _; same = set_field uncut t a (with_more_flow Rightward z (cell t a)) refl }
still_added t Downward a z = record { long = length-set _ _ _; same = set_field uncut t a (with_more_flow Downward z (cell t a)) refl }

pub still_trans : (t t' t'' : Tile) → SameSurvey t t' → SameSurvey t' t'' → SameSurvey t t''
still_trans t t' t'' p q = record { long = q.long ∙ p.long; same = λ b. q.same b ∙ p.same b }

pub still_self : (t : Tile) → SameSurvey t t
still_self t = record { long = refl; same = λ b. refl }

pub level_still : (t t' : Tile) → SameFlows t t' → SameSurvey t t'
level_still t t' p = record { long = p.long; same = λ b. ap uncut (p.same b) }

pub level_self : (t : Tile) → SameFlows t t
level_self t = record { long = refl; same = λ b. refl }

pub level_trans : (t t' t'' : Tile) → SameFlows t t' → SameFlows t' t'' → SameFlows t t''
level_trans t t' t'' p q = record { long = q.long ∙ p.long; same = λ b. q.same b ∙ p.same b }

pub live_still : (t t' : Tile) → SameSurvey t t' → (a b : ℕ) → live_pair t' a b ≡ live_pair t a b
live_still t t' p a b =
    let la : (cell t' a).low ≡ (cell t a).low = ap (λ x. x.low) (p.same a) in
    let lb : (cell t' b).low ≡ (cell t b).low = ap (λ x. x.low) (p.same b) in
    let ha : (cell t' a).high ≡ (cell t a).high = ap (λ x. x.high) (p.same a) in
    let hb : (cell t' b).high ≡ (cell t b).high = ap (λ x. x.high) (p.same b) in
    cc

pub weight_still : (t t' : Tile) → SameSurvey t t' → (d : Side) (b : ℕ) → stored_tie (cell t' b) d ≡ stored_tie (cell t b) d
weight_still t t' p Rightward b = ap (λ x. x.right) (p.same b)
weight_still t t' p Downward b = ap (λ x. x.down) (p.same b)

pub charge_still : (t t' : Tile) → SameSurvey t t' → (b : ℕ) → (cell t' b).charge ≡ (cell t b).charge
charge_still t t' p b = ap (λ x. x.charge) (p.same b)

pub flow_level : (t t' : Tile) → SameFlows t t' → (d : Side) (b : ℕ) → stored_flow (cell t' b) d ≡ stored_flow (cell t b) d
flow_level t t' p Rightward b = ap (λ x. x.right_flow) (p.same b)
flow_level t t' p Downward b = ap (λ x. x.down_flow) (p.same b)

pub remains_level : (t t' : Tile) → SameFlows t t' → (c u : ℕ) → remains t' c u ≡ remains t c u
remains_level t t' p c u =
    let q : (cell t' u).charge ≡ (cell t u).charge = ap (λ x. x.charge) (p.same u) in
    let r = flow_level t t' p Rightward u in
    let d = flow_level t t' p Downward u in
    let l = flow_level t t' p Rightward (u - 1) in
    let a = flow_level t t' p Downward (u - c) in
    cc

-- what comes from the cell k before
pub shifted : (k x a : ℕ) (z : ℤ) (F : ℕ → ℤ) → cond (leb k x) (F (x - k) +ℤ cond (eqb (x - k) a) z (pos 0)) (pos 0) ≡ cond (leb k x) (F (x - k)) (pos 0) +ℤ cond (eqb x (a + k)) z (pos 0)
shifted k x a z F =
    ⊎_elim
    (λ (l : x < k). rw (lt-leb k x l, ne_eqb x (a + k) (λ e. omega arith)))
    (λ (l : k ≤ x).
    ⊎_elim
    (λ (e : x ≡ a + k). rw (le-leb k x l, eq-eqb x (a + k) e, eq-eqb (x - k) a (omega arith)))
    (λ (e : x ≡ a + k → ⊥). rw (le-leb k x l, ne_eqb x (a + k) e, ne_eqb (x - k) a (λ q. e (omega arith))))
    (cases_eq x (a + k)))
    (cases_lt x k)

pub remains_added_right : (t : Tile) (c a : ℕ) (z : ℤ) → a < length t → (x : ℕ) → remains (add_flow t Rightward a z) c x ≡ (remains t c x +ℤ cond (eqb x a) z (pos 0)) -ℤ cond (eqb x (a + 1)) z (pos 0)
remains_added_right t c a z l x =
    let ch = charge_added t Rightward a z x in
    let fx = flow_added t Rightward a z l x in
    let dx = down_added_right t a z x in
    let dy = down_added_right t a z (x - c) in
    let fy = flow_added t Rightward a z l (x - 1) in
    let s = shifted 1 x a z (λ k. (cell t k).right_flow) in
    let s' : cond (leb 1 x) (cell (add_flow t Rightward a z) (x - 1)).right_flow (pos 0) ≡ cond (leb 1 x) (cell t (x - 1)).right_flow (pos 0) +ℤ cond (eqb x (a + 1)) z (pos 0) = ap (λ (y : ℤ). cond (leb 1 x) y (pos 0)) fy ∙ s in
    let d' : cond (leb c x) (cell (add_flow t Rightward a z) (x - c)).down_flow (pos 0) ≡ cond (leb c x) (cell t (x - c)).down_flow (pos 0) = ap (λ (y : ℤ). cond (leb c x) y (pos 0)) dy in
    omega (arith, ints)

pub remains_added_down : (t : Tile) (c a : ℕ) (z : ℤ) → a < length t → (x : ℕ) → remains (add_flow t Downward a z) c x ≡ (remains t c x +ℤ cond (eqb x a) z (pos 0)) -ℤ cond (eqb x (a + c)) z (pos 0)
remains_added_down t c a z l x =
    let ch = charge_added t Downward a z x in
    let fx = flow_added t Downward a z l x in
    let dx = right_added_down t a z x in
    let dy = right_added_down t a z (x - 1) in
    let fy = flow_added t Downward a z l (x - c) in
    let s = shifted c x a z (λ k. (cell t k).down_flow) in
    let s' : cond (leb c x) (cell (add_flow t Downward a z) (x - c)).down_flow (pos 0) ≡ cond (leb c x) (cell t (x - c)).down_flow (pos 0) +ℤ cond (eqb x (a + c)) z (pos 0) = ap (λ (y : ℤ). cond (leb c x) y (pos 0)) fy ∙ s in
    let d' : cond (leb 1 x) (cell (add_flow t Downward a z) (x - 1)).right_flow (pos 0) ≡ cond (leb 1 x) (cell t (x - 1)).right_flow (pos 0) = ap (λ (y : ℤ). cond (leb 1 x) y (pos 0)) dy in
    omega (arith, ints)
