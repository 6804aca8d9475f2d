-- One push: what it changes, and what it keeps.
use Rattle.std.proofs.Common.{◌≡◌, ℕ, ◌+◌, ◌-◌, ◌<◌, ◌≤◌, Bool, true, false, cond, eqb, ltb, leb, ◌⊎◌, w32, SFits, to_z, of_z, length, ℤ, pos, negsuc, ◌+ℤ◌, ◌-ℤ◌, neg_ℤ, nat_abs, ◌≤ℤ◌, ◌<ℤ◌, sym, refl, ap, ◌∙◌, subst, inl, inr, ⊎_elim, arith}
use borrow.Author.Differences.{down}
use Rattle.std.proofs.lemmas.Bool.{cases_eq, eq-eqb, ne_eqb, leb-true, ltb-true, both_ways}
use Rattle.std.proofs.lemmas.Int.{ints, to_z-of_z}
use Rattle.flow.specs.declared.direction.Direction.{Direction}
use Rattle.flow.specs.declared.direction.Direction.TheVariants.{Right, Down, Left, Up}
use Rattle.tile.specs.declared.side.Side.{Side}
use Rattle.tile.specs.declared.side.Side.TheVariants.{Rightward, Downward}
use Rattle.tile.specs.Records.{stored_tie, stored_flow}
use Rattle.tile.specs.Tiles.{Tile, cell}
use Rattle.flow.specs.Sides.{beside, has_beside, opposite, live_pair, room_forth, room_back, room, remains, SameSurvey, SameFlows, Admissible, Eased, add_flow, pushed}
use Rattle.tile.specs.Ties.{offset}
use Rattle.flow.proofs.Fields.{flow_added, down_added_right, right_added_down, rank_added, still_added, still_trans, still_self, live_still, weight_still, charge_still, flow_level, remains_level, level_still, remains_added_right, remains_added_down}

-- a number that is handed over keeps its value
pub as_handed_over : (z : ℤ) → SFits w32 z → to_z w32 (of_z w32 z) ≡ z
as_handed_over z f = to_z-of_z w32 z f

-- the parts of a residual arc
pub open_parts : (x y : Bool) (z : ℤ) → pos 0 <ℤ cond x (cond y z (pos 0)) (pos 0) → (x ≡ true) × (y ≡ true) × (cond x (cond y z (pos 0)) (pos 0) ≡ z)
open_parts true true z h = (refl, refl, refl)
open_parts true false z h = absurd (omega (arith, ints, h))
open_parts false y z h = absurd (omega (arith, ints, h))

pub open_forth : (t : Tile) (c : ℕ) (x : Bool) (d : Side) (a : ℕ) → pos 0 <ℤ cond x (room_forth t c d a) (pos 0) → (x ≡ true) × (live_pair t a (a + offset c d) ≡ true) × (cond x (room_forth t c d a) (pos 0) ≡ pos (stored_tie (cell t a) d) -ℤ stored_flow (cell t a) d)
open_forth t c x d a o = open_parts x (live_pair t a (a + offset c d)) (pos (stored_tie (cell t a) d) -ℤ stored_flow (cell t a) d) o

pub open_back : (t : Tile) (c : ℕ) (x : Bool) (d : Side) (a : ℕ) → pos 0 <ℤ cond x (room_back t c d a) (pos 0) → (x ≡ true) × (live_pair t a (a + offset c d) ≡ true) × (cond x (room_back t c d a) (pos 0) ≡ pos (stored_tie (cell t a) d) +ℤ stored_flow (cell t a) d)
open_back t c x d a o = open_parts x (live_pair t a (a + offset c d)) (pos (stored_tie (cell t a) d) +ℤ stored_flow (cell t a) d) o

pub room_there : (t : Tile) (c : ℕ) (h : Direction) (u : ℕ) → pos 0 <ℤ room t c h u → has_beside c (length t) h u ≡ true
room_there t c Right u o = (open_forth t c (ltb (u + 1) (length t)) Rightward u o).0
room_there t c Down u o = (open_forth t c (ltb (u + c) (length t)) Downward u o).0
room_there t c Left u o = (open_back t c (leb 1 u) Rightward (u - 1) o).0
room_there t c Up u o = (open_back t c (leb c u) Downward (u - c) o).0

pub there_in : (n c : ℕ) (h : Direction) (u : ℕ) → u < n → has_beside c n h u ≡ true → beside c h u < n
there_in n c Right u l e = ltb-true (u + 1) n e
there_in n c Down u l e = ltb-true (u + c) n e
there_in n c Left u l e = omega arith
there_in n c Up u l e = omega arith

pub back_across : (n c : ℕ) (h : Direction) (u : ℕ) → has_beside c n h u ≡ true → beside c (opposite h) (beside c h u) ≡ u
back_across n c Right u e = omega arith
back_across n c Down u e = omega arith
back_across n c Left u e = omega (arith, leb-true 1 u e)
back_across n c Up u e = omega (arith, leb-true c u e)

pub across_other : (n c : ℕ) (h : Direction) (u : ℕ) → 0 < c → has_beside c n h u ≡ true → u ≡ beside c h u → ⊥
across_other n c Right u w e q = omega arith
across_other n c Down u w e q = omega arith
across_other n c Left u w e q = omega (arith, leb-true 1 u e)
across_other n c Up u w e q = omega (arith, leb-true c u e)

neg_cond : (x : Bool) (f : ℤ) → cond x (neg_ℤ f) (pos 0) ≡ neg_ℤ (cond x f (pos 0))
neg_cond true f = refl
neg_cond false f = refl

-- a push out of u changes exactly two remainders
pub remains_pushed : (t : Tile) (c : ℕ) (h : Direction) (u : ℕ) (f : ℤ) → u < length t → has_beside c (length t) h u ≡ true → (x : ℕ) → remains (pushed t c h u f) c x ≡ (remains t c x +ℤ cond (eqb x u) f (pos 0)) -ℤ cond (eqb x (beside c h u)) f (pos 0)
remains_pushed t c Right u f l e x = remains_added_right t c u f l x
remains_pushed t c Down u f l e x = remains_added_down t c u f l x
remains_pushed t c Left u f l e x =
    let q : u - 1 + 1 ≡ u = omega (arith, leb-true 1 u e) in
    let r = rw q at (remains_added_right t c (u - 1) (neg_ℤ f) (omega arith) x) in
    let a = neg_cond (eqb x (u - 1)) f in
    let b = neg_cond (eqb x u) f in
    omega (arith, ints)
remains_pushed t c Up u f l e x =
    let q : u - c + c ≡ u = omega (arith, leb-true c u e) in
    let r = rw q at (remains_added_down t c (u - c) (neg_ℤ f) (omega arith) x) in
    let a = neg_cond (eqb x (u - c)) f in
    let b = neg_cond (eqb x u) f in
    omega (arith, ints)

near : (t : Tile) (d : Side) (a : ℕ) (z : ℤ) (b : ℕ) → a < length t → ((d ≡ d) × (b ≡ a) × (stored_flow (cell (add_flow t d a z) b) d ≡ stored_flow (cell t b) d +ℤ z)) ⊎ (stored_flow (cell (add_flow t d a z) b) d ≡ stored_flow (cell t b) d)
near t d a z b l =
    let e = flow_added t d a z l b in
    ⊎_elim
    (λ (q : b ≡ a). inl (refl, q, rw (eq-eqb b a q) at e))
    (λ (q : b ≡ a → ⊥). inr (let r = rw (ne_eqb b a q) at e in omega (arith, ints)))
    (cases_eq b a)

-- what more flow over one tie leaves of the others
pub flow_after : (t : Tile) (d e : Side) (a : ℕ) (z : ℤ) (b : ℕ) → a < length t → ((d ≡ e) × (b ≡ a) × (stored_flow (cell (add_flow t d a z) b) e ≡ stored_flow (cell t b) e +ℤ z)) ⊎ (stored_flow (cell (add_flow t d a z) b) e ≡ stored_flow (cell t b) e)
flow_after t Rightward Downward a z b l = inr (down_added_right t a z b)
flow_after t Downward Rightward a z b l = inr (right_added_down t a z b)
flow_after t Rightward Rightward a z b l = near t Rightward a z b l
flow_after t Downward Downward a z b l = near t Downward a z b l

-- records with the same survey, and flows within the weights of live ties
sound_still : (c : ℕ) (t t' : Tile) → SameSurvey t t' → Admissible c t → ((e : Side) (b : ℕ) → nat_abs (stored_flow (cell t' b) e) ≤ stored_tie (cell t b) e)
    → ((e : Side) (b : ℕ) → live_pair t b (b + offset c e) ≡ false → stored_flow (cell t' b) e ≡ pos 0) → Admissible c t'
sound_still c t t' st s bounded idle = record {
  wide = s.wide;
  wide_few = s.wide_few;
  few = subst (λ (k : ℕ). k ≤ 16384) (sym st.long) s.few;
  charges = λ b. subst (λ (k : ℤ). nat_abs k ≤ 300000) (sym (charge_still t t' st b)) (s.charges b);
  weights = λ e b. subst (λ (k : ℕ). k ≤ 10000) (sym (weight_still t t' st e b)) (s.weights e b);
  bounded = λ e b. subst (λ (k : ℕ). nat_abs (stored_flow (cell t' b) e) ≤ k) (sym (weight_still t t' st e b)) (bounded e b);
  idle = λ e b n. idle e b (sym (live_still t t' st b (b + offset c e)) ∙ n);
}

sound_bumped : (c : ℕ) (t : Tile) (d : Side) (a : ℕ) (z : ℤ) → Admissible c t → a < length t → live_pair t a (a + offset c d) ≡ true → nat_abs (stored_flow (cell t a) d +ℤ z) ≤ stored_tie (cell t a) d → Admissible c (add_flow t d a z)
sound_bumped c t d a z s l al fits =
    sound_still c t (add_flow t d a z) (still_added t d a z) s
    (λ e b.
    ⊎_elim
    (λ (q : (d ≡ e) × (b ≡ a) × (stored_flow (cell (add_flow t d a z) b) e ≡ stored_flow (cell t b) e +ℤ z)).
    subst (λ (k : ℤ). nat_abs k ≤ stored_tie (cell t b) e) (sym q.2)
    (subst (λ (k : ℕ). nat_abs (stored_flow (cell t k) e +ℤ z) ≤ stored_tie (cell t k) e) (sym q.1)
    (subst (λ (k : Side). nat_abs (stored_flow (cell t a) k +ℤ z) ≤ stored_tie (cell t a) k) q.0 fits)))
    (λ (q : stored_flow (cell (add_flow t d a z) b) e ≡ stored_flow (cell t b) e). subst (λ (k : ℤ). nat_abs k ≤ stored_tie (cell t b) e) (sym q) (s.bounded e b))
    (flow_after t d e a z b l))
    (λ e b n.
    ⊎_elim
    (λ (q : (d ≡ e) × (b ≡ a) × (stored_flow (cell (add_flow t d a z) b) e ≡ stored_flow (cell t b) e +ℤ z)).
    let al' : live_pair t b (b + offset c e) ≡ true
    = subst (λ (k : ℕ). live_pair t k (k + offset c e) ≡ true) (sym q.1) (subst (λ (k : Side). live_pair t a (a + offset c k) ≡ true) q.0 al) in
    absurd (both_ways _ n al'))
    (λ (q : stored_flow (cell (add_flow t d a z) b) e ≡ stored_flow (cell t b) e). q ∙ s.idle e b n)
    (flow_after t d e a z b l))

fits_forth : (w : ℕ) (x f : ℤ) → nat_abs x ≤ w → pos 0 <ℤ f → f ≤ℤ (pos w -ℤ x) → nat_abs (x +ℤ f) ≤ w
fits_forth w x f b o k = omega (arith, ints)

fits_aback : (w : ℕ) (x f : ℤ) → nat_abs x ≤ w → pos 0 <ℤ f → f ≤ℤ (pos w +ℤ x) → nat_abs (x +ℤ neg_ℤ f) ≤ w
fits_aback w x f b o k = omega (arith, ints)

more_room : (f r : ℤ) → pos 0 <ℤ f → f ≤ℤ r → pos 0 <ℤ r
more_room f r o k = omega (arith, ints)

pub sound_pushed : (c : ℕ) (t : Tile) (h : Direction) (u : ℕ) (f : ℤ) → Admissible c t → u < length t → pos 0 <ℤ f → f ≤ℤ room t c h u → Admissible c (pushed t c h u f)
sound_pushed c t Right u f s l o k =
    let p = open_forth t c (ltb (u + 1) (length t)) Rightward u (more_room f _ o k) in
    sound_bumped c t Rightward u f s l p.1 (fits_forth (stored_tie (cell t u) Rightward) (stored_flow (cell t u) Rightward) f (s.bounded Rightward u) o (subst (λ (r : ℤ). f ≤ℤ r) p.2 k))
sound_pushed c t Down u f s l o k =
    let p = open_forth t c (ltb (u + c) (length t)) Downward u (more_room f _ o k) in
    sound_bumped c t Downward u f s l p.1 (fits_forth (stored_tie (cell t u) Downward) (stored_flow (cell t u) Downward) f (s.bounded Downward u) o (subst (λ (r : ℤ). f ≤ℤ r) p.2 k))
sound_pushed c t Left u f s l o k =
    let p = open_back t c (leb 1 u) Rightward (u - 1) (more_room f _ o k) in
    sound_bumped c t Rightward (u - 1) (neg_ℤ f) s (omega arith) p.1 (fits_aback (stored_tie (cell t (u - 1)) Rightward) (stored_flow (cell t (u - 1)) Rightward) f (s.bounded Rightward (u - 1)) o (subst (λ (r : ℤ). f ≤ℤ r) p.2 k))
sound_pushed c t Up u f s l o k =
    let p = open_back t c (leb c u) Downward (u - c) (more_room f _ o k) in
    sound_bumped c t Downward (u - c) (neg_ℤ f) s (omega arith) p.1 (fits_aback (stored_tie (cell t (u - c)) Downward) (stored_flow (cell t (u - c)) Downward) f (s.bounded Downward (u - c)) o (subst (λ (r : ℤ). f ≤ℤ r) p.2 k))

pub still_pushed : (t : Tile) (c : ℕ) (h : Direction) (u : ℕ) (f : ℤ) → SameSurvey t (pushed t c h u f)
still_pushed t c Right u f = still_added t Rightward u f
still_pushed t c Down u f = still_added t Downward u f
still_pushed t c Left u f = still_added t Rightward (u - 1) (neg_ℤ f)
still_pushed t c Up u f = still_added t Downward (u - c) (neg_ℤ f)

pub rank_pushed : (t : Tile) (c : ℕ) (h : Direction) (u : ℕ) (f : ℤ) (b : ℕ) → (cell (pushed t c h u f) b).rank ≡ (cell t b).rank
rank_pushed t c Right u f b = rank_added t Rightward u f b
rank_pushed t c Down u f b = rank_added t Downward u f b
rank_pushed t c Left u f b = rank_added t Rightward (u - 1) (neg_ℤ f) b
rank_pushed t c Up u f b = rank_added t Downward (u - c) (neg_ℤ f) b

-- more remains, less is lacking
pub lack_less : (a b : ℤ) → a ≤ℤ b → down b ≤ down a
lack_less (pos a) (pos b) h = omega arith
lack_less (pos a) (negsuc b) h = absurd (omega (arith, ints, h))
lack_less (negsuc a) (pos b) h = omega arith
lack_less (negsuc a) (negsuc b) h = omega (arith, ints, h)

pub lack_none : (a : ℤ) → pos 0 ≤ℤ a → down a ≡ 0
lack_none (pos a) h = refl
lack_none (negsuc a) h = absurd (omega (arith, ints, h))

-- a push of no more than the surplus of the far cell
pub eased_pushed : (c : ℕ) (t : Tile) (h : Direction) (u : ℕ) (f : ℤ) → Admissible c t → u < length t → pos 0 <ℤ f → f ≤ℤ room t c h u → f ≤ℤ remains t c (beside c h u) → Eased c t (pushed t c h u f)
eased_pushed c t h u f s l o k r =
    let th = room_there t c h u (more_room f _ o k) in
    record {
      still = still_pushed t c h u f;
      sound = sound_pushed c t h u f s l o k;
      less = λ b.
          let e = remains_pushed t c h u f l th b in
          ⊎_elim
          (λ (q : b ≡ beside c h u).
          let ne : b ≡ u → ⊥ = λ z. across_other (length t) c h u s.wide th (sym z ∙ q) in
          let e' = rw (eq-eqb b (beside c h u) q, ne_eqb b u ne) at e in
          let r' : f ≤ℤ remains t c b = subst (λ (k : ℕ). f ≤ℤ remains t c k) (sym q) r in
          let w = lack_none (remains (pushed t c h u f) c b) (omega (arith, ints)) in
          omega (arith, w))
          (λ (q : b ≡ beside c h u → ⊥).
          let e' = rw (ne_eqb b (beside c h u) q) at e in
          ⊎_elim
          (λ (p : b ≡ u). let e'' = rw (eq-eqb b u p) at e' in lack_less (remains t c b) (remains (pushed t c h u f) c b) (omega (arith, ints)))
          (λ (p : b ≡ u → ⊥). let e'' = rw (ne_eqb b u p) at e' in lack_less (remains t c b) (remains (pushed t c h u f) c b) (omega (arith, ints)))
          (cases_eq b u))
          (cases_eq b (beside c h u));
    }

pub eased_self : (c : ℕ) (t : Tile) → Admissible c t → Eased c t t
eased_self c t s = record { still = still_self t; sound = s; less = λ b. omega arith }

pub eased_trans : (c : ℕ) (t t' t'' : Tile) → Eased c t t' → Eased c t' t'' → Eased c t t''
eased_trans c t t' t'' p q = record { still = still_trans t t' t'' p.still q.still; sound = q.sound; less = λ b. omega (arith, p.less b, q.less b) }

pub sound_level : (c : ℕ) (t t' : Tile) → SameFlows t t' → Admissible c t → Admissible c t'
sound_level c t t' p s =
    sound_still c t t' (level_still t t' p) s
    (λ e b. subst (λ (k : ℤ). nat_abs k ≤ stored_tie (cell t b) e) (sym (flow_level t t' p e b)) (s.bounded e b))
    (λ e b n. flow_level t t' p e b ∙ s.idle e b n)

pub eased_level : (c : ℕ) (t t' : Tile) → SameFlows t t' → Admissible c t → Eased c t t'
eased_level c t t' p s = record {
  still = level_still t t' p;
  sound = sound_level c t t' p s;
  less = λ b. omega (arith, ap down (remains_level t t' p c b));
}
