-- Steps that move flow and have cells wait, one after the other.
use Rattle.std.specs.Prelude.{⊤}
use Rattle.std.proofs.Common.{◌≡◌, ℕ, ◌<◌, length, None, Result, sym, subst}
use Rattle.queue.specs.declared.Queue.{Queue}
use Rattle.queue.specs.Queue.{waits, Enqueued}
use Rattle.flow.specs.declared.flows.Flows.{Flows}
use Rattle.flow.specs.Sides.{Eased}
use Rattle.flow.specs.Lent.{SameRows}
use Rattle.flow.proofs.Pushes.{eased_trans, eased_level}
use Rattle.cut.specs.Ranks.{ranked_at}
use Rattle.cut.specs.Lent.{InPlace, Leveled}
use Rattle.cut.specs.Searches.{AllInside, Eases}
use Rattle.cut.proofs.Searches.{level_ranked}
use Rattle.cut.proofs.Visiting.{inside_more, inside_kept}
use Rattle.cut.proofs.Lent.{rows_trans, leveled_eased}

-- a rank is written: no flow moves
pub ranked_eased : (f f' : Flows) (v r : ℕ) → SameRows f f' → f'.tile.now ≡ ranked_at f.tile.now v r → InPlace Eased f f'
ranked_eased f f' v r s e = record {
  rows = s;
  holds = subst (Eased f.columns f.tile.now) (sym e) (eased_level f.columns f.tile.now (ranked_at f.tile.now v r) (level_ranked f.tile.now v r) f.sound);
}

-- for entries of any kind, by the cell of an entry
module _ {X : Type 0} (spot : X → ℕ) where
  pub eases_trans : (f f1 f2 : Flows) (q q1 q2 : Queue X) → Eases spot f f1 q q1 → Eases spot f1 f2 q1 q2 → Eases spot f f2 q q2
  eases_trans f f1 f2 q q1 q2 a b = record {
    rows = rows_trans f f1 f2 a.rows b.rows;
    eased = eased_trans f.columns f.tile.now f1.tile.now f2.tile.now a.eased (rw a.rows.columns at b.eased);
    inside = λ i.
        let long = a.eased.still.long in
        inside_kept spot (λ _. None) _ _ (waits q2) (sym long) (b.inside (inside_kept spot (λ _. None) _ _ (waits q1) long (a.inside i)));
  }

  -- one more cell waits
  pub eases_more : (f f' : Flows) (q q' : Queue X) (e : X) (b : Result ⊤ X) → SameRows f f' → Eased f.columns f.tile.now f'.tile.now → spot e < length f.tile.now → Enqueued q q' e b → Eases spot f f' q q'
  eases_more f f' q q' e b r s l p = record { rows = r; eased = s; inside = inside_more spot (λ _. None) (length f.tile.now) q q' e b p l }

  -- no more cells wait
  pub eases_moved : (f f' : Flows) (q : Queue X) → InPlace Eased f f' → Eases spot f f' q q
  eases_moved f f' q e = record { rows = e.rows; eased = e.holds; inside = λ i. i }

  -- no flow moves
  pub eases_leveled : (f f' : Flows) (q q' : Queue X) → Leveled f f' → (AllInside spot f.tile.now q → AllInside spot f.tile.now q') → Eases spot f f' q q'
  eases_leveled f f' q q' l i = record { rows = l.rows; eased = (leveled_eased f f' l).holds; inside = i }
