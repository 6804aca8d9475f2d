-- What the ties of a cell add to its charge, by its four sides and with no column arithmetic.
use Rattle.std.specs.Prelude.{ℕ, ◌+◌, ◌-◌, cond, ℤ, pos, ◌+ℤ◌, ◌-ℤ◌, nat_le, nat_lt}
use Rattle.tile.specs.declared.cell.Cell.{Cell}
use Rattle.tile.specs.declared.shape.Shape.{Shape}
use Rattle.tile.specs.declared.side.Side.{Side}
use Rattle.tile.specs.Records.{stored_tie}
use Rattle.tile.specs.Shapes.{cells}
use Rattle.tile.specs.Tiles.{Tile, cell}
use Rattle.tile.specs.Ties.{offset}

-- What a tie of weight w adds: w where the bracket of the other cell lies below, minus w where it lies above.
abbrev pub pull : Cell → Cell → ℕ → ℤ
pull here there w = pos (cond (nat_lt there.high here.low) w 0) -ℤ pos (cond (nat_lt here.high there.low) w 0)

-- over the tie that the record of the cell u stores on a side, to the next cell there; 0 where there is none
abbrev pub pull_ahead : Shape → Tile → Side → ℕ → ℤ
pull_ahead s t d u = let k = offset s.columns d in cond (nat_lt (u + k) (cells s)) (pull (cell t u) (cell t (u + k)) (stored_tie (cell t u) d)) (pos 0)

-- over the tie that the record of the cell before it stores on that side; 0 where there is none
abbrev pub pull_behind : Shape → Tile → Side → ℕ → ℤ
pull_behind s t d u = let k = offset s.columns d in cond (nat_le k u) (pull (cell t u) (cell t (u - k)) (stored_tie (cell t (u - k)) d)) (pos 0)

-- over both
abbrev pub pull_over : Shape → Tile → Side → ℕ → ℤ
pull_over s t d u = pull_ahead s t d u +ℤ pull_behind s t d u
