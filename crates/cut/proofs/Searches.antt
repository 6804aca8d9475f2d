-- Searches: ranks, and one more cell among the waiting.
use Rattle.std.proofs.Common.{◌≡◌, ℕ, ◌+◌, ◌-◌, ◌<◌, ◌≤◌, cond, ltb, ◌⊎◌, List, [], ◌∷◌, ◌++◌, length, ℤ, pos, ◌<ℤ◌, sym, refl, ap, ◌∙◌, subst, inl, inr, ⊎_elim, arith, length-set}
use Rattle.std.proofs.lemmas.List.{set-get_or, get_or-set_same, get_or-set_other, length_push}
use Rattle.std.proofs.ByRecursion.{All-push, All-weaker}
use Rattle.std.proofs.lemmas.List.Sums.{sum_by-set, count_by-le-length}
use Rattle.std.proofs.lemmas.Bool.{cases_eq, lt-ltb, le-ltb}
use Rattle.tile.specs.declared.cell.Cell.{Cell}
use Rattle.flow.specs.declared.direction.Direction.{Direction}
use Rattle.flow.specs.declared.direction.Direction.TheVariants.{Right, Down, Left, Up}
use Rattle.tile.specs.declared.side.Side.TheVariants.{Rightward, Downward}
use Rattle.tile.specs.declared.side.Side.{Side}
use Rattle.tile.specs.Tiles.{Tile, cell, blank}
use Rattle.flow.specs.Sides.{beside, room_forth, room_back, room, InDeficit, SameFlows, unranked}
use Rattle.tile.specs.Ties.{offset}
use Rattle.cut.specs.Ranks.{rank_of, with_rank, ranked_at, with_mark, marked_at, has_rank, ranked}
use Rattle.cut.specs.Searches.{Among, Parent, Grown, Spread, Searching, Grows}
use Rattle.flow.proofs.Fields.{set_field, live_still, weight_still, flow_level, remains_level, level_still, level_self, level_trans}

pub level_ranked : (t : Tile) (v r : ℕ) → SameFlows t (ranked_at t v r)
level_ranked t v r = record { long = length-set _ _ _; same = set_field unranked t v (with_rank r (cell t v)) refl }

-- a mark is written: no flow moves, and the ranks stay
pub level_marked : (t : Tile) (v m : ℕ) → SameFlows t (marked_at t v m)
level_marked t v m = record { long = length-set _ _ _; same = set_field unranked t v (with_mark m (cell t v)) refl }

room_forth_level : (t t' : Tile) → SameFlows t t' → (c : ℕ) (d : Side) (a : ℕ) → room_forth t' c d a ≡ room_forth t c d a
room_forth_level t t' p c d a =
    let x = live_still t t' (level_still t t' p) a (a + offset c d) in
    let y = weight_still t t' (level_still t t' p) d a in
    let z = flow_level t t' p d a in
    cc

room_back_level : (t t' : Tile) → SameFlows t t' → (c : ℕ) (d : Side) (a : ℕ) → room_back t' c d a ≡ room_back t c d a
room_back_level t t' p c d a =
    let x = live_still t t' (level_still t t' p) a (a + offset c d) in
    let y = weight_still t t' (level_still t t' p) d a in
    let z = flow_level t t' p d a in
    cc

pub room_level : (t t' : Tile) → SameFlows t t' → (c : ℕ) (h : Direction) (u : ℕ) → room t' c h u ≡ room t c h u
room_level t t' p c Right u = let x = room_forth_level t t' p c Rightward u in let n = p.long in cc
room_level t t' p c Down u = let x = room_forth_level t t' p c Downward u in let n = p.long in cc
room_level t t' p c Left u = let x = room_back_level t t' p c Rightward (u - 1) in cc
room_level t t' p c Up u = let x = room_back_level t t' p c Downward (u - c) in cc

pub rank_here : (t : Tile) (v r : ℕ) → v < length t → rank_of (ranked_at t v r) v ≡ r
rank_here t v r l = ap (λ (x : Cell). x.rank) (get_or-set_same t v (with_rank r (cell t v)) blank l)

pub rank_other : (t : Tile) (v r x : ℕ) → (x ≡ v → ⊥) → rank_of (ranked_at t v r) x ≡ rank_of t x
rank_other t v r x n = ap (λ (x : Cell). x.rank) (get_or-set_other t v x (with_rank r (cell t v)) blank n)

-- no rank is written over none
pub ranked_same : (t : Tile) (v : ℕ) → rank_of t v ≡ 0 → ranked_at t v 0 ≡ t
ranked_same t v z = ap (λ (r : ℕ). ranked_at t v r) (sym z) ∙ set-get_or t v blank

pub count_up : (t : Tile) (v r : ℕ) → v < length t → rank_of t v ≡ 0 → 0 < r → ranked (ranked_at t v r) ≡ ranked t + 1
count_up t v r l z p =
    let e = sum_by-set (λ (c : Cell). cond (has_rank c) 1 0) t v (with_rank r (cell t v)) blank l in
    let a : ◌≡◌ {A = ℕ} (cond (ltb 0 (rank_of t v)) 1 0) 0 = rw (le-ltb 0 (rank_of t v) (omega arith)) in
    let b : ◌≡◌ {A = ℕ} (cond (ltb 0 r) 1 0) 1 = rw (lt-ltb 0 r p) in
    omega (arith, e, a, b)

pub ranked_few : (t : Tile) → ranked t ≤ length t
ranked_few t = count_by-le-length has_rank t

pub not_all : (t : Tile) (v : ℕ) → v < length t → rank_of t v ≡ 0 → ranked t < length t
not_all t v l z = omega (arith, count_up t v 1 l z (omega arith), ranked_few (ranked_at t v 1), length-set t v (with_rank 1 (cell t v)))

pub among_old : (u v : ℕ) (q : List ℕ) → Among u q → Among u (q ++ v ∷ [])
among_old u v [] a = absurd a
among_old u v (x ∷ q) (inl e) = inl e
among_old u v (x ∷ q) (inr a) = inr (among_old u v q a)

pub among_new : (v : ℕ) (q : List ℕ) → Among v (q ++ v ∷ [])
among_new v [] = inl refl
among_new v (x ∷ q) = inr (among_new v q)

pub grows_ranked : (t : Tile) (v r : ℕ) → rank_of t v ≡ 0 → Grows t (ranked_at t v r)
grows_ranked t v r z = record {
  level = level_ranked t v r;
  ranks = λ u p. rank_other t v r u (λ e. let q : rank_of t u ≡ 0 = subst (λ (k : ℕ). rank_of t k ≡ 0) (sym e) z in omega arith);
}

parent_grows : (c : ℕ) (t t' : Tile) (u : ℕ) → Grows t t' → 0 < rank_of t u → Parent c t u → Parent c t' u
parent_grows c t t' u g p q = record {
  from = q.from;
  side = q.side;
  inside = subst (λ (k : ℕ). q.from < k) (sym g.level.long) q.inside;
  to = q.to;
  open' = subst (λ (z : ℤ). pos 0 <ℤ z) (sym (room_level t t' g.level c q.side q.from)) q.open';
  higher = omega (arith, g.ranks q.from (omega (arith, q.higher)), g.ranks u p, q.higher);
}

pub grown_grows : (c : ℕ) (t t' : Tile) (u : ℕ) → Grows t t' → 0 < rank_of t u → Grown c t u → Grown c t' u
grown_grows c t t' u g p (inl s) = inl (subst (λ (z : ℤ). z <ℤ pos 0) (sym (remains_level t t' g.level c u)) s)
grown_grows c t t' u g p (inr q) = inr (parent_grows c t t' u g p q)

pub spread_grows : (c : ℕ) (t t' : Tile) (u : ℕ) → Grows t t' → (h : Direction) → (pos 0 <ℤ room t c h u → 0 < rank_of t (beside c h u)) → pos 0 <ℤ room t' c h u → 0 < rank_of t' (beside c h u)
spread_grows c t t' u g h s o =
    let k = s (subst (λ (z : ℤ). pos 0 <ℤ z) (room_level t t' g.level c h u) o) in
    omega (arith, g.ranks (beside c h u) k, k)

pub search_add : (c : ℕ) (t : Tile) (q : List ℕ) (seen v r : ℕ) → Searching c t q seen → v < length t → rank_of t v ≡ 0 → 0 < r → r ≤ length t → length t ≤ r + ranked t → Grown c (ranked_at t v r) v → Searching c (ranked_at t v r) (q ++ v ∷ []) seen
search_add c t q seen v r s l z p hi d gv =
    let t' : Tile = ranked_at t v r in
    let g : Grows t t' = grows_ranked t v r z in
    let lv = level_ranked t v r in
    let n : length t' ≡ length t = lv.long in
    let here : rank_of t' v ≡ r = rank_here t v r l in
    let count : ranked t' ≡ ranked t + 1 = count_up t v r l z p in
    let old : (x : ℕ) → (x ≡ v → ⊥) → rank_of t' x ≡ rank_of t x = rank_other t v r in
    record {
      tree = λ u lu pu.
          ⊎_elim
          (λ (e : u ≡ v). subst (λ (k : ℕ). Grown c (ranked_at t v r) k) (sym e) gv)
          (λ (e : u ≡ v → ⊥). let pu' : 0 < rank_of t u = subst (λ (k : ℕ). 0 < k) (old u e) pu in grown_grows c t t' u g pu' (s.tree u (subst (λ (k : ℕ). u < k) n lu) pu'))
          (cases_eq u v);
      deficits = λ u lu su.
          ⊎_elim
          (λ (e : u ≡ v). subst (λ (k : ℕ). 0 < rank_of (ranked_at t v r) k) (sym e) (subst (λ (k : ℕ). 0 < k) (sym here) p))
          (λ (e : u ≡ v → ⊥). subst (λ (k : ℕ). 0 < k) (sym (old u e)) (s.deficits u lu (subst (λ (z : ℤ). z <ℤ pos 0) (remains_level t t' lv c u) su)))
          (cases_eq u v);
      closed = λ u lu pu.
          ⊎_elim
          (λ (e : u ≡ v). inl (subst (λ (k : ℕ). Among k (q ++ v ∷ [])) (sym e) (among_new v q)))
          (λ (e : u ≡ v → ⊥).
          let pu' : 0 < rank_of t u = subst (λ (k : ℕ). 0 < k) (old u e) pu in
          ⊎_elim
          (λ (a : Among u q). inl (among_old u v q a))
          (λ (b : Spread c t u). inr (λ h. spread_grows c t t' u g h (b h)))
          (s.closed u (subst (λ (k : ℕ). u < k) n lu) pu'))
          (cases_eq u v);
      inside = All-push (λ x. (x < length t') × (0 < rank_of t' x)) q v
          (All-weaker (λ x. (x < length t) × (0 < rank_of t x)) (λ x. (x < length t') × (0 < rank_of t' x)) (λ x h. (subst (λ (k : ℕ). x < k) (sym n) h.0, omega (arith, g.ranks x h.1, h.1))) q s.inside)
          (subst (λ (k : ℕ). v < k) (sym n) l, subst (λ (k : ℕ). 0 < k) (sym here) p);
      deep = λ u lu pu.
          ⊎_elim
          (λ (e : u ≡ v). subst (λ (k : ℕ). length (ranked_at t v r) < rank_of (ranked_at t v r) k + ranked (ranked_at t v r)) (sym e) (omega (arith, n, here, count)))
          (λ (e : u ≡ v → ⊥).
          let pu' : 0 < rank_of t u = subst (λ (k : ℕ). 0 < k) (old u e) pu in
          omega (arith, n, count, old u e, s.deep u (subst (λ (k : ℕ). u < k) n lu) pu'))
          (cases_eq u v);
      few = omega (arith, length_push q v, s.few, count);
      high = λ u lu.
          ⊎_elim
          (λ (e : u ≡ v). subst (λ (k : ℕ). rank_of (ranked_at t v r) k ≤ length (ranked_at t v r)) (sym e) (omega (arith, n, here)))
          (λ (e : u ≡ v → ⊥). omega (arith, n, old u e, s.high u (subst (λ (k : ℕ). u < k) n lu)))
          (cases_eq u v);
    }

pub search_done : (c : ℕ) (t : Tile) (q : List ℕ) (seen u : ℕ) → Searching c t (u ∷ q) seen → Spread c t u → Searching c t q seen
search_done c t q seen u s d = record {
  tree = s.tree;
  deficits = s.deficits;
  closed = λ x l p.
      ⊎_elim
      (λ (a : (u ≡ x) ⊎ Among x q). ⊎_elim (λ (e : u ≡ x). inr (subst (λ (k : ℕ). Spread c t k) e d)) (λ (b : Among x q). inl b) a)
      (λ (b : Spread c t x). inr b)
      (s.closed x l p);
  inside = s.inside.1;
  deep = s.deep;
  few = omega (arith, s.few);
  high = s.high;
}

-- one more cell reached, over a residual arc
pub search_put : (c : ℕ) (t : Tile) (q : List ℕ) (seen u : ℕ) (h : Direction) → Searching c t (u ∷ q) seen → beside c h u < length t → pos 0 <ℤ room t c h u → rank_of t (beside c h u) ≡ 0 → (1 < rank_of t u) × Searching c (ranked_at t (beside c h u) (rank_of t u - 1)) (u ∷ (q ++ beside c h u ∷ [])) seen
search_put c t q seen u h s l o z =
    let v : ℕ = beside c h u in
    let lu : u < length t = s.inside.0.0 in
    let pu : 0 < rank_of t u = s.inside.0.1 in
    let dp = s.deep u lu pu in
    let na = not_all t v l z in
    let ne : u ≡ v → ⊥ = λ e. let q : rank_of t u ≡ 0 = subst (λ (k : ℕ). rank_of t k ≡ 0) (sym e) z in omega arith in
    let r : ℕ = rank_of t u - 1 in
    let t' : Tile = ranked_at t v r in
    let a = rank_other t v r u ne in
    let b = rank_here t v r l in (
      omega arith,
      search_add c t (u ∷ q) seen v r s l z (omega arith) (omega (arith, s.high u lu)) (omega arith)
          (inr (record {
            from = u;
            side = h;
            inside = subst (λ (k : ℕ). u < k) (sym (level_ranked t v r).long) lu;
            to = refl;
            open' = subst (λ (z : ℤ). pos 0 <ℤ z) (sym (room_level t t' (level_ranked t v r) c h u)) o;
            higher = omega (arith, a, b);
          })),
    )

pub grows_self : (t : Tile) → Grows t t
grows_self t = record { level = level_self t; ranks = λ u p. refl }

pub grows_trans : (t t' t'' : Tile) → Grows t t' → Grows t' t'' → Grows t t''
grows_trans t t' t'' p q = record {
  level = level_trans t t' t'' p.level q.level;
  ranks = λ u o. q.ranks u (subst (λ (k : ℕ). 0 < k) (sym (p.ranks u o)) o) ∙ p.ranks u o;
}

pub seen_more : (c : ℕ) (t : Tile) (q : List ℕ) (i : ℕ) → Searching c t q i → (InDeficit t c i → 0 < rank_of t i) → Searching c t q (i + 1)
seen_more c t q i s k = record {
  tree = s.tree;
  deficits = λ u l h.
      ⊎_elim
      (λ (e : u ≡ i). subst (λ (x : ℕ). 0 < rank_of t x) (sym e) (k (subst (λ (x : ℕ). InDeficit t c x) e h)))
      (λ (e : u ≡ i → ⊥). s.deficits u (omega arith) h)
      (cases_eq u i);
  closed = s.closed;
  inside = s.inside;
  deep = s.deep;
  few = s.few;
  high = s.high;
}

pub begin_not : (c : ℕ) (t : Tile) (q : List ℕ) (i : ℕ) → Searching c t q i → (InDeficit t c i → ⊥) → Searching c t q (i + 1)
begin_not c t q i s k = seen_more c t q i s (λ h. absurd (k h))
