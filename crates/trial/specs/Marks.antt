-- Tiles with the same marks.
use Rattle.std.specs.Prelude.{◌≡◌, ℕ, ◌<◌, length}
use Rattle.tile.specs.Tiles.{Tile, cell}

-- as many records, and the same mark in each
pub record SameMarks (t t' : Tile) : Type 0 where
  pub long : length t ≡ length t'
  pub same : (u : ℕ) → u < length t → (cell t u).mark ≡ (cell t' u).mark
