-- The cells that have a rank are those that residual arcs reach.
use Rattle.std.proofs.Common.{◌≡◌, ℕ, zero, suc, ◌+◌, ◌<◌, ◌≤◌, length, ℤ, pos, ◌<ℤ◌, sym, subst, ⊎_elim, arith}
use Rattle.std.proofs.lemmas.Bool.{cases_lt}
use Rattle.tile.specs.Tiles.{Tile}
use Rattle.flow.specs.Sides.{InDeficit, SameFlows, Reach, starts, goes, Cut}
use Rattle.cut.specs.Ranks.{rank_of, mark_of, Marked}
use Rattle.cut.specs.Searches.{Parent, Spread, Ranked}
use Rattle.cut.specs.Climbs.{Settled}
use Rattle.flow.proofs.Fields.{remains_level, level_still, still_trans}
use Rattle.flow.proofs.Pushes.{sound_level}
use Rattle.flow.proofs.Reaching.{reach_in}
use Rattle.cut.proofs.Searches.{room_level}

pub reach_ranked : (c : ℕ) (t : Tile) → Ranked c t → {u : ℕ} → Reach c t u → 0 < rank_of t u
reach_ranked c t k (starts {u} l s) = k.deficits u l s
reach_ranked c t k (goes {u} h r o e) =
    subst (λ (x : ℕ). 0 < rank_of t x) e
    (⊎_elim (λ (a : ⊥). absurd a) (λ (b : Spread c t u). b h o) (k.closed u (reach_in c t r) (reach_ranked c t k r)))

climbs : (c : ℕ) (t : Tile) → Ranked c t → (k u : ℕ) → u < length t → 0 < rank_of t u → length t ≤ rank_of t u + k → Reach c t u
climbs c t r zero u l p d =
    ⊎_elim
    (λ (s : InDeficit t c u). starts l s)
    (λ (q : Parent c t u). absurd (omega (arith, q.higher, r.high q.from q.inside)))
    (r.tree u l p)
climbs c t r (suc k) u l p d =
    ⊎_elim
    (λ (s : InDeficit t c u). starts l s)
    (λ (q : Parent c t u). goes q.side (climbs c t r k q.from q.inside (omega (arith, q.higher)) (omega (arith, q.higher))) q.open' q.to)
    (r.tree u l p)

pub ranked_reach : (c : ℕ) (t : Tile) → Ranked c t → (u : ℕ) → u < length t → 0 < rank_of t u → Reach c t u
ranked_reach c t r u l p = climbs c t r (length t) u l p (omega arith)

pub reach_level : (c : ℕ) (t t' : Tile) → SameFlows t t' → {u : ℕ} → Reach c t u → Reach c t' u
reach_level c t t' p (starts {u} l s) = starts (subst (λ (k : ℕ). u < k) (sym p.long) l) (subst (λ (z : ℤ). z <ℤ pos 0) (sym (remains_level t t' p c u)) s)
reach_level c t t' p (goes {u} h r o e) = goes h (reach_level c t t' p r) (subst (λ (z : ℤ). pos 0 <ℤ z) (sym (room_level t t' p c h u)) o) e

level_sym : (t t' : Tile) → SameFlows t t' → SameFlows t' t
level_sym t t' p = record { long = sym p.long; same = λ b. sym (p.same b) }

pub cut_done : (c : ℕ) (t t1 t2 : Tile) → Settled c t t1 → Marked t1 t2 → Cut c t t2
cut_done c t t1 t2 s m =
    let back' = level_sym t1 t2 m.level in
    let inside : (u : ℕ) → u < length t2 → u < length t1 = λ u l. subst (λ (k : ℕ). u < k) m.level.long l in
    let rank' : (u : ℕ) → u < length t2 → mark_of t2 u ≡ 1 → 0 < rank_of t1 u = λ u l e.
    ⊎_elim
    (λ (q : 0 < rank_of t1 u). q)
    (λ (q : rank_of t1 u ≤ 0). absurd (omega (arith, m.zeros u (inside u l) (omega arith), e)))
    (cases_lt 0 (rank_of t1 u)) in
    record {
      still = still_trans t t1 t2 s.eased.still (level_still t1 t2 m.level);
      sound = sound_level c t1 t2 m.level s.eased.sound;
      bit = λ u l.
          ⊎_elim
          (λ (q : 0 < rank_of t1 u). omega (arith, m.ones u (inside u l) q))
          (λ (q : rank_of t1 u ≤ 0). omega (arith, m.zeros u (inside u l) (omega arith)))
          (cases_lt 0 (rank_of t1 u));
      marked = λ u r. let r' = reach_level c t2 t1 back' r in m.ones u (reach_in c t1 r') (reach_ranked c t1 s.ranked r');
      reached = λ u l e. reach_level c t1 t2 m.level (ranked_reach c t1 s.ranked u (inside u l) (rank' u l e));
      no_surplus = λ u l e sp. s.no_surplus u (inside u l) (rank' u l e) (subst (λ (z : ℤ). pos 0 <ℤ z) (remains_level t1 t2 m.level c u) sp);
    }
