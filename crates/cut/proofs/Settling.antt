-- Rounds of a cut: each relieves some cell, and after the last the flows are settled.
use Rattle.std.proofs.Common.{◌≡◌, ℕ, ◌<◌, Bool, true, false, arith}
use Rattle.std.proofs.lemmas.Bool.{true≢false, false≢true}
use Rattle.tile.specs.Tiles.{Tile}
use Rattle.flow.specs.declared.flows.Flows.{Flows}
use Rattle.flow.specs.Sides.{Eased}
use Rattle.flow.proofs.Pushes.{eased_trans, eased_level}
use Rattle.cut.specs.Ranks.{rank_of}
use Rattle.cut.specs.Lent.{InPlace, Leveled}
use Rattle.cut.specs.Searches.{Ranked}
use Rattle.cut.specs.Climbs.{NoneInSurplus, Above, Relieved, Settled, Swept}
use Rattle.cut.proofs.Lent.{in_place_then}

-- the ranks that a whole search has given
pub ranked_above : (c : ℕ) (t : Tile) (v : ℕ) → Ranked c t → 0 < rank_of t v → Above c t (rank_of t v)
ranked_above c t v r p = λ u l k. r.tree u l (omega arith)

pub relieved_is_eased : (f f' : Flows) → InPlace Relieved f f' → InPlace Eased f f'
relieved_is_eased f f' r = record { rows = r.rows; holds = r.holds.eased }

-- a sweep that met no surplus cell, and one that did
pub swept_none : (f f' : Flows) → Leveled f f' → Ranked f'.columns f'.tile.now → NoneInSurplus f'.columns f'.tile.now → InPlace (λ c t t'. Swept c t t' false) f f'
swept_none f f' l r n = record { rows = l.rows; holds = record { none = λ _. (l.holds, rw l.rows.columns at r, rw l.rows.columns at n); met = λ e. absurd (false≢true e) } }

pub swept_met : (f f' : Flows) → InPlace Relieved f f' → InPlace (λ c t t'. Swept c t t' true) f f'
swept_met f f' r = record { rows = r.rows; holds = record { none = λ e. absurd (true≢false e); met = λ _. r.holds } }

-- what such a sweep says
pub settled_swept : (f f1 f2 : Flows) (r : Bool) → InPlace Eased f f1 → InPlace (λ c t t'. Swept c t t' r) f1 f2 → r ≡ false → InPlace Settled f f2
settled_swept f f1 f2 r e s z =
    in_place_then Eased (λ c t t'. Swept c t t' r) Settled
    (λ c t t1 t2 a b. let n = b.none z in record { eased = eased_trans c t t1 t2 a (eased_level c t1 t2 n.0 a.sound); ranked = n.1; no_surplus = n.2 })
    f f1 f2 e s

pub relieved_swept : (f f' : Flows) (r : Bool) → InPlace (λ c t t'. Swept c t t' r) f f' → r ≡ true → InPlace Relieved f f'
relieved_swept f f' r s e = record { rows = s.rows; holds = s.holds.met e }

pub eased_settled : (f f1 f2 : Flows) → InPlace Eased f f1 → InPlace Settled f1 f2 → InPlace Settled f f2
eased_settled =
    in_place_then Eased Settled Settled
    (λ c t t1 t2 a b. record { eased = eased_trans c t t1 t2 a b.eased; ranked = b.ranked; no_surplus = b.no_surplus })
