-- One step of a climb.
use Rattle.std.proofs.Common.{◌≡◌, ℕ, zero, suc, ◌+◌, ◌-◌, ◌<◌, ◌≤◌, Bool, true, false, cond, eqb, leb, ◌⊎◌, Some, None, Option, length, ℤ, pos, negsuc, ◌+ℤ◌, ◌-ℤ◌, neg_ℤ, ◌≤ℤ◌, ◌<ℤ◌, sym, refl, ap, ◌∙◌, subst, inl, inr, ⊎_elim, arith}
use Rattle.std.specs.Prelude.{MatchOption}
use borrow.Author.Differences.{down}
use Rattle.std.proofs.lemmas.Bool.{cases_lt, eq-eqb, ne_eqb, lt-ltb, le-leb, leb-true}
use Rattle.std.proofs.lemmas.Int.{ints, by_lt_z}
use Rattle.flow.specs.declared.direction.Direction.{Direction}
use Rattle.flow.specs.declared.direction.Direction.TheVariants.{Right, Down, Left, Up}
use Rattle.tile.specs.declared.side.Side.TheVariants.{Rightward, Downward}
use Rattle.tile.specs.declared.side.Side.{Side}
use Rattle.tile.specs.Records.{stored_flow}
use Rattle.tile.specs.Tiles.{Tile, cell}
use Rattle.theory.specs.Sums.{sum_below}
use Rattle.theory.proofs.Sums.{sum_mono}
use Rattle.flow.specs.Sides.{beside, has_beside, opposite, room_forth, room_back, room, remains, lack, total_lack, InDeficit, InSurplus, SameSurvey, Eased, Sent, add_flow, pushed}
use Rattle.tile.specs.Ties.{offset}
use Rattle.cut.specs.Ranks.{rank_of}
use Rattle.cut.specs.Searches.{Parent}
use Rattle.cut.specs.Climbs.{RankedSurplus, FoundSurplus, Higher, IsHigher, Above, Relieved}
use Rattle.flow.proofs.Fields.{live_still, weight_still, still_added}
use Rattle.flow.proofs.Pushes.{flow_after, room_there, back_across, remains_pushed, rank_pushed, eased_trans}

room_forth_kept : (t t' : Tile) (c : ℕ) (d : Side) (a : ℕ) → SameSurvey t t' → stored_flow (cell t' a) d ≡ stored_flow (cell t a) d → room_forth t' c d a ≡ room_forth t c d a
room_forth_kept t t' c d a s z =
    let x = live_still t t' s a (a + offset c d) in
    let y = weight_still t t' s d a in
    cc

room_back_kept : (t t' : Tile) (c : ℕ) (d : Side) (a : ℕ) → SameSurvey t t' → stored_flow (cell t' a) d ≡ stored_flow (cell t a) d → room_back t' c d a ≡ room_back t c d a
room_back_kept t t' c d a s z =
    let x = live_still t t' s a (a + offset c d) in
    let y = weight_still t t' s d a in
    cc

-- a flow over another tie than the one that is written
flow_kept : (t : Tile) (c : ℕ) (d e : Side) (a : ℕ) (z : ℤ) (v b : ℕ) → a < length t → (v ≡ a) ⊎ (v ≡ a + offset c d) → (b ≡ v → ⊥) → (b + offset c e ≡ v → ⊥) → stored_flow (cell (add_flow t d a z) b) e ≡ stored_flow (cell t b) e
flow_kept t c d e a z v b l ends n m =
    ⊎_elim
    (λ (q : (d ≡ e) × (b ≡ a) × (stored_flow (cell (add_flow t d a z) b) e ≡ stored_flow (cell t b) e +ℤ z)).
    absurd
    (⊎_elim
    (λ (p : v ≡ a). n (q.1 ∙ sym p))
    (λ (p : v ≡ a + offset c d). m (ap (λ (x : ℕ). x + offset c e) q.1 ∙ ap (λ (x : Side). a + offset c x) (sym q.0) ∙ sym p))
    ends))
    (λ (q : stored_flow (cell (add_flow t d a z) b) e ≡ stored_flow (cell t b) e). q)
    (flow_after t d e a z b l)

cond_same : (b : Bool) (x y : ℤ) → (b ≡ true → x ≡ y) → cond b x (pos 0) ≡ cond b y (pos 0)
cond_same true x y h = h refl
cond_same false x y h = refl

-- the room over ties that do not touch v
room_added : (t : Tile) (c : ℕ) (d : Side) (a : ℕ) (z : ℤ) (v : ℕ) → a < length t → (v ≡ a) ⊎ (v ≡ a + offset c d) → (g : Direction) (y : ℕ) → (y ≡ v → ⊥) → (beside c g y ≡ v → ⊥) → room (add_flow t d a z) c g y ≡ room t c g y
room_added t c d a z v l ends Right y n m =
    let s = still_added t d a z in
    let e = room_forth_kept t (add_flow t d a z) c Rightward y s (flow_kept t c d Rightward a z v y l ends n m) in
    let w = s.long in
    cc
room_added t c d a z v l ends Down y n m =
    let s = still_added t d a z in
    let e = room_forth_kept t (add_flow t d a z) c Downward y s (flow_kept t c d Downward a z v y l ends n m) in
    let w = s.long in
    cc
room_added t c d a z v l ends Left y n m =
    cond_same (leb 1 y) _ _ (λ k. room_back_kept t (add_flow t d a z) c Rightward (y - 1) (still_added t d a z) (flow_kept t c d Rightward a z v (y - 1) l ends m (λ e. n (omega (arith, leb-true 1 y k)))))
room_added t c d a z v l ends Up y n m =
    cond_same (leb c y) _ _ (λ k. room_back_kept t (add_flow t d a z) c Downward (y - c) (still_added t d a z) (flow_kept t c d Downward a z v (y - c) l ends m (λ e. n (omega (arith, leb-true c y k)))))

pub room_pushed : (t : Tile) (c : ℕ) (h : Direction) (u : ℕ) (f : ℤ) → u < length t → (g : Direction) (y : ℕ) → (y ≡ beside c h u → ⊥) → (beside c g y ≡ beside c h u → ⊥) → room (pushed t c h u f) c g y ≡ room t c g y
room_pushed t c Right u f l = room_added t c Rightward u f (u + 1) l (inr refl)
room_pushed t c Down u f l = room_added t c Downward u f (u + c) l (inr refl)
room_pushed t c Left u f l = room_added t c Rightward (u - 1) (neg_ℤ f) (u - 1) (omega arith) (inl refl)
room_pushed t c Up u f l = room_added t c Downward (u - c) (neg_ℤ f) (u - c) (omega arith) (inl refl)

-- sums

pub sum_less : (n : ℕ) (f g : ℕ → ℕ) (k : ℕ) → ((u : ℕ) → f u ≤ g u) → k < n → f k < g k → sum_below n f < sum_below n g
sum_less zero f g k le l s = absurd (omega arith)
sum_less (suc n) f g k le l s =
    ⊎_elim
    (λ (e : k < n). omega (arith, le n, sum_less n f g k le e s))
    (λ (e : n ≤ k). let q : k ≡ n = omega arith in let s' : f n < g n = subst (λ (x : ℕ). f x < g x) q s in omega (arith, sum_mono n f g (λ u _. le u)))
    (cases_lt k n)

pub relieved : (c : ℕ) (t t' : Tile) (k : ℕ) → Eased c t t' → k < length t → lack t' c k < lack t c k → Relieved c t t'
relieved c t t' k e l s = record {
  eased = e;
  fewer = subst (λ (n : ℕ). sum_below n (lack t' c) < sum_below (length t) (lack t c)) (sym e.still.long) (sum_less (length t) (lack t' c) (lack t c) k e.less l s);
}

lack_falls : (a f b : ℤ) → a <ℤ pos 0 → pos 0 <ℤ f → b ≡ a +ℤ f → down b < down a
lack_falls (pos a) f b h o e = absurd (omega (arith, ints, h))
lack_falls (negsuc a) f (pos b) h o e = omega arith
lack_falls (negsuc a) f (negsuc b) h o e = omega (arith, ints)

back_back : (h : Direction) → opposite (opposite h) ≡ h
back_back Right = refl
back_back Down = refl
back_back Left = refl
back_back Up = refl

there_back : (n c : ℕ) (h : Direction) (u : ℕ) → u < n → has_beside c n h u ≡ true → has_beside c n (opposite h) (beside c h u) ≡ true
there_back n c Right u l e = le-leb 1 (u + 1) (omega arith)
there_back n c Down u l e = le-leb c (u + c) (omega arith)
there_back n c Left u l e = lt-ltb (u - 1 + 1) n (omega (arith, leb-true 1 u e))
there_back n c Up u l e = lt-ltb (u - c + c) n (omega (arith, leb-true c u e))

-- a parent lies on some side
pub higher_from : (c : ℕ) (t : Tile) (v : ℕ) (p : Parent c t v) → Higher c t v (opposite p.side)
higher_from c t v p =
    let th = room_there t c p.side p.from p.open' in
    let b = back_across (length t) c p.side p.from th in
    let e : beside c (opposite p.side) v ≡ p.from = subst (λ (x : ℕ). beside c (opposite p.side) x ≡ p.from) p.to b in
    let bb = back_back p.side in
    record {
      reach = subst (λ (x : ℕ). has_beside c (length t) (opposite p.side) x ≡ true) p.to (there_back (length t) c p.side p.from p.inside th);
      inside = subst (λ (x : ℕ). x < length t) (sym e) p.inside;
      leads = subst (λ (x : ℕ). has_beside c (length t) (opposite (opposite p.side)) x ≡ true) (sym e) (subst (λ (x : Direction). has_beside c (length t) x p.from ≡ true) (sym bb) th);
      comes = subst (λ (x : ℕ). beside c (opposite (opposite p.side)) x ≡ v) (sym e) (subst (λ (x : Direction). beside c x p.from ≡ v) (sym bb) p.to);
      rank_up = ap (rank_of t) e ∙ p.higher;
      roomy = subst (λ (x : ℕ). pos 0 <ℤ room t c (opposite (opposite p.side)) x) (sym e) (subst (λ (x : Direction). pos 0 <ℤ room t c x p.from) (sym bb) p.open');
    }

-- there always is one
pub never_none : (c : ℕ) (t : Tile) (v : ℕ) → v < length t → InSurplus t c v → Above c t (rank_of t v) → ((h : Direction) → Higher c t v h → ⊥) → ⊥
never_none c t v l s a n =
    ⊎_elim
    (λ (sh : InDeficit t c v). omega (arith, ints, s, sh))
    (λ (p : Parent c t v). n (opposite p.side) (higher_from c t v p))
    (a v l (omega arith))

pub never_none_at : (c : ℕ) (t : Tile) (v k : ℕ) → v < length t → (InDeficit t c v → ⊥) → k ≤ rank_of t v → Above c t k → ((h : Direction) → Higher c t v h → ⊥) → ⊥
never_none_at c t v k l s le a n =
    ⊎_elim
    (λ (sh : InDeficit t c v). s sh)
    (λ (p : Parent c t v). n (opposite p.side) (higher_from c t v p))
    (a v l le)

-- what u has room for towards v
pub roomy_back : (c : ℕ) (t : Tile) (v u : ℕ) (h g : Direction) → IsHigher c t v h u → g ≡ opposite h → pos 0 <ℤ room t c g u
roomy_back c t v u h g hi ge = subst (λ (x : Direction). pos 0 <ℤ room t c x u) (sym ge) (subst (λ (x : ℕ). pos 0 <ℤ room t c (opposite h) x) (sym hi.at) hi.higher.roomy)

-- u lies in direction h from v, one rank higher, and has sent back to v
module _ (c : ℕ) (t t' : Tile) (v u : ℕ) (h g : Direction) (r : Bool) (sp : InSurplus t c v) (hi : IsHigher c t v h u) (ge : g ≡ opposite h) (sent : Sent c g u t t' r) where
  st : Sent c (opposite h) u t t' r
  st = subst (λ (x : Direction). Sent c x u t t' r) ge sent

  comes : beside c (opposite h) u ≡ v
  comes = ap (beside c (opposite h)) hi.at ∙ hi.higher.comes

  lu : u < length t
  lu = subst (λ (x : ℕ). x < length t) (sym hi.at) hi.higher.inside

  ranks : rank_of t u ≡ rank_of t v + 1
  ranks = ap (rank_of t) hi.at ∙ hi.higher.rank_up

  leads : has_beside c (length t) (opposite h) u ≡ true
  leads = subst (λ (x : ℕ). has_beside c (length t) (opposite h) x ≡ true) (sym hi.at) hi.higher.leads

  moved : (f : ℤ) × (pos 0 <ℤ f) × (f ≤ℤ room t c (opposite h) u) × (f ≤ℤ remains t c (beside c (opposite h) u)) × (t' ≡ pushed t c (opposite h) u f)
  moved = st.moved (st.sure (subst (λ (x : ℕ). pos 0 <ℤ room t c (opposite h) x) (sym hi.at) hi.higher.roomy) (subst (λ (x : ℕ). InSurplus t c x) (sym comes) sp))

  remains_after : (x : ℕ) → remains t' c x ≡ (remains t c x +ℤ cond (eqb x u) moved.0 (pos 0)) -ℤ cond (eqb x v) moved.0 (pos 0)
  remains_after x =
      let e = remains_pushed t c (opposite h) u moved.0 lu leads x in
      let e' = subst (λ (k : ℕ). remains (pushed t c (opposite h) u moved.0) c x ≡ (remains t c x +ℤ cond (eqb x u) moved.0 (pos 0)) -ℤ cond (eqb x k) moved.0 (pos 0)) comes e in
      ap (λ (k : Tile). remains k c x) moved.4 ∙ e'

  u_not_v : u ≡ v → ⊥
  u_not_v e = let q : rank_of t u ≡ rank_of t v = ap (rank_of t) e in omega (arith, ranks)

  remains_up : remains t' c u ≡ remains t c u +ℤ moved.0
  remains_up = let e = rw (eq-eqb u u refl, ne_eqb u v u_not_v) at (remains_after u) in omega (arith, ints)

  -- the giver was in deficit: some cell lacks less
  pub climb_last : InDeficit t c u → Relieved c t t'
  climb_last sh = relieved c t t' u st.eased lu (lack_falls (remains t c u) moved.0 (remains t' c u) sh moved.1 remains_up)

  rank_after : (x : ℕ) → rank_of t' x ≡ rank_of t x
  rank_after x = ap (λ (k : Tile). rank_of k x) moved.4 ∙ rank_pushed t c (opposite h) u moved.0 x

  -- it was not: now it is in surplus, and the ranks above it are as they were
  pub climb_surplus : (InDeficit t c u → ⊥) → InSurplus t' c u
  climb_surplus n =
      let o = moved.1 in
      let e = remains_up in
      by_lt_z (remains t c u) (pos 0) (λ k. absurd (n k)) (λ k. omega (arith, ints))

  pub climb_rank : rank_of t' u ≡ rank_of t v + 1
  climb_rank = rank_after u ∙ ranks

  pub climb_above : (InDeficit t c u → ⊥) → Above c t (rank_of t v) → Above c t' (rank_of t' u)
  climb_above n a x lx rx =
      let long = st.eased.still.long in
      let rx' : rank_of t v < rank_of t x = omega (arith, climb_rank, rank_after x) in
      let xv : x ≡ v → ⊥ = λ e. let q : rank_of t x ≡ rank_of t v = ap (rank_of t) e in omega arith in
      ⊎_elim
      (λ (sh : InDeficit t c x).
      let xu : x ≡ u → ⊥ = λ e. n (subst (λ (k : ℕ). InDeficit t c k) e sh) in
      let e = rw (ne_eqb x u xu, ne_eqb x v xv) at (remains_after x) in
      inl (omega (arith, ints)))
      (λ (p : Parent c t x).
      let fv : p.from ≡ v → ⊥ = λ e. let q : rank_of t p.from ≡ rank_of t v = ap (rank_of t) e in omega (arith, p.higher) in
      let same : room t' c p.side p.from ≡ room t c p.side p.from
      = ap (λ (k : Tile). room k c p.side p.from) moved.4 ∙ room_pushed t c (opposite h) u moved.0 lu p.side p.from (λ e. fv (e ∙ comes)) (λ e. xv (sym p.to ∙ e ∙ comes)) in
      inr (record {
        from = p.from;
        side = p.side;
        inside = subst (λ (k : ℕ). p.from < k) (sym long) p.inside;
        to = p.to;
        open' = subst (λ (k : ℤ). pos 0 <ℤ k) (sym same) p.open';
        higher = omega (arith, rank_after p.from, rank_after x, p.higher);
      }))
      (a x (subst (λ (k : ℕ). x < k) long lx) (omega arith))

pub lack_eased : (c : ℕ) (t t' : Tile) → Eased c t t' → total_lack t' c ≤ total_lack t c
lack_eased c t t' e = subst (λ (n : ℕ). sum_below n (lack t' c) ≤ sum_below (length t) (lack t c)) (sym e.still.long) (sum_mono (length t) (lack t' c) (lack t c) (λ u _. e.less u))

pub relieved_after : (c : ℕ) (t t' t'' : Tile) → Eased c t t' → Relieved c t' t'' → Relieved c t t''
relieved_after c t t' t'' e r = record { eased = eased_trans c t t' t'' e r.eased; fewer = omega (arith, r.fewer, lack_eased c t t' e) }

pub relieved_then : (c : ℕ) (t t' t'' : Tile) → Relieved c t t' → Eased c t' t'' → Relieved c t t''
relieved_then c t t' t'' r e = record { eased = eased_trans c t t' t'' r.eased e; fewer = omega (arith, r.fewer, lack_eased c t' t'' e) }

-- a search over all cells: each has been asked, or one was found
pub found_surplus : (c : ℕ) (t : Tile) (r : Option ℕ) → MatchOption r ((k : ℕ) → 0 ≤ k → k < length t → RankedSurplus c t k → ⊥) (λ v. (0 ≤ v) × (v < length t) × RankedSurplus c t v × ((k : ℕ) → 0 ≤ k → k < v → RankedSurplus c t k → ⊥)) → FoundSurplus c t r
found_surplus c t None n = λ u l p s. n u (omega arith) l (p, s)
found_surplus c t (Some v) f = (f.1, f.2.0, f.2.1)
