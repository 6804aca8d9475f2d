-- Whether a tile may be handed to a cut maker, cell by cell and side by side.
use Rattle.std.specs.Prelude.{◌≡◌, ℕ, ◌<◌, ◌≤◌, false, pos, unsigned_abs}
use Rattle.limits.specs.Limits.{most_charge, most_tie}
use Rattle.tile.specs.declared.shape.Shape.{Shape}
use Rattle.tile.specs.declared.side.Side.{Side}
use Rattle.tile.specs.declared.side.Side.TheVariants.{Rightward, Downward}
use Rattle.tile.specs.Records.{stored_tie, stored_flow}
use Rattle.tile.specs.Shapes.{cells}
use Rattle.tile.specs.Ties.{has_neighbour}
use Rattle.tile.specs.Tiles.{Tile, cell}
use Rattle.flow.specs.Networks.{is_live}

-- the tie on one side of the cell u and its flow are as a cut maker wants them
pub record SideFits (s : Shape) (t : Tile) (u : ℕ) (d : Side) : Type 0 where
  pub tie : stored_tie (cell t u) d ≤ most_tie
  pub edge : has_neighbour s u d ≡ false → stored_tie (cell t u) d ≡ 0
  pub bounded : unsigned_abs (stored_flow (cell t u) d) ≤ stored_tie (cell t u) d
  pub idle : is_live s t u d ≡ false → stored_flow (cell t u) d ≡ pos 0

pub record CellFits (s : Shape) (t : Tile) (u : ℕ) : Type 0 where
  pub charge : unsigned_abs (cell t u).charge ≤ most_charge
  pub right : SideFits s t u Rightward
  pub down : SideFits s t u Downward

-- every cell fits
abbrev pub AllFit : Shape → Tile → Type 0
AllFit s t = (u : ℕ) → u < cells s → CellFits s t u
