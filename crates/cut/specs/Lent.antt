-- What the steps of a cut do to the records that a value of flows borrows.
use Rattle.std.specs.Prelude.{ℕ}
use Rattle.tile.specs.Tiles.{Tile}
use Rattle.flow.specs.declared.flows.Flows.{Flows}
use Rattle.flow.specs.Sides.{SameFlows}
use Rattle.flow.specs.Lent.{SameRows}

-- the same records are borrowed, and what they hold is related
pub record InPlace (R : ℕ → Tile → Tile → Type 0) (f f' : Flows) : Type 0 where
  pub rows : SameRows f f'
  pub holds : R f.columns f.tile.now f'.tile.now

-- nothing but marks and ranks has changed
abbrev pub Leveled : Flows → Flows → Type 0
Leveled f f' = InPlace (λ _ t t'. SameFlows t t') f f'
