-- What is copied out of records.
use Rattle.std.specs.Prelude.{ℕ, List, ◌++◌, map, take, drop}
use Rattle.tile.specs.declared.cell.Cell.{Cell}
use Rattle.tile.specs.Tiles.{Tile}

-- the low ends of the first n records, and a list of heights as it was past them
abbrev pub copied : ℕ → Tile → List ℕ → List ℕ
copied n t hs = map (λ (c : Cell). c.low) (take n t) ++ drop n hs
