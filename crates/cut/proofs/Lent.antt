-- Steps on the same borrowed records, one after the other.
use Rattle.std.proofs.Common.{ℕ, refl, ◌∙◌, subst}
use Rattle.tile.specs.Tiles.{Tile}
use Rattle.flow.specs.declared.flows.Flows.{Flows}
use Rattle.flow.specs.Sides.{Eased}
use Rattle.flow.specs.Lent.{SameRows}
use Rattle.flow.proofs.Fields.{level_self, level_trans}
use Rattle.flow.proofs.Pushes.{eased_trans, eased_level}
use Rattle.cut.specs.Lent.{InPlace, Leveled}
use Rattle.cut.specs.Climbs.{Relieved}
use Rattle.cut.proofs.Climbs.{relieved_after, relieved_then}

pub rows_self : (f : Flows) → SameRows f f
rows_self f = record { columns = refl; lent = refl }

pub rows_trans : (f f1 f2 : Flows) → SameRows f f1 → SameRows f1 f2 → SameRows f f2
rows_trans f f1 f2 a b = record { columns = b.columns ∙ a.columns; lent = b.lent ∙ a.lent }

-- a relation and then another make a third
pub in_place_then : (R S T : ℕ → Tile → Tile → Type 0) → ((c : ℕ) (t t1 t2 : Tile) → R c t t1 → S c t1 t2 → T c t t2) → (f f1 f2 : Flows) → InPlace R f f1 → InPlace S f1 f2 → InPlace T f f2
in_place_then R S T both f f1 f2 a b = record {
  rows = rows_trans f f1 f2 a.rows b.rows;
  holds = both _ _ _ _ a.holds (subst (λ (c : ℕ). S c f1.tile.now f2.tile.now) a.rows.columns b.holds);
}

pub leveled_self : (f : Flows) → Leveled f f
leveled_self f = record { rows = rows_self f; holds = level_self _ }

pub leveled_trans : (f f1 f2 : Flows) → Leveled f f1 → Leveled f1 f2 → Leveled f f2
leveled_trans f f1 f2 a b = record { rows = rows_trans f f1 f2 a.rows b.rows; holds = level_trans _ _ _ a.holds b.holds }

pub eased_then : (f f1 f2 : Flows) → InPlace Eased f f1 → InPlace Eased f1 f2 → InPlace Eased f f2
eased_then = in_place_then Eased Eased Eased eased_trans

-- four steps, one for each direction
pub eased_four : (f f1 f2 f3 f4 : Flows) → InPlace Eased f f1 → InPlace Eased f1 f2 → InPlace Eased f2 f3 → InPlace Eased f3 f4 → InPlace Eased f f4
eased_four f f1 f2 f3 f4 a b c d = eased_then f f2 f4 (eased_then f f1 f2 a b) (eased_then f2 f3 f4 c d)

-- where nothing but marks and ranks has changed
pub leveled_eased : (f f' : Flows) → Leveled f f' → InPlace Eased f f'
leveled_eased f f' l = record { rows = l.rows; holds = eased_level _ _ _ l.holds f.sound }

pub eased_relieved : (f f1 f2 : Flows) → InPlace Eased f f1 → InPlace Relieved f1 f2 → InPlace Relieved f f2
eased_relieved = in_place_then Eased Relieved Relieved relieved_after

pub relieved_eased : (f f1 f2 : Flows) → InPlace Relieved f f1 → InPlace Eased f1 f2 → InPlace Relieved f f2
relieved_eased = in_place_then Relieved Eased Relieved relieved_then
