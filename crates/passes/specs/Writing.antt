-- What is written into records.
use Rattle.std.specs.Prelude.{ℕ, ◌++◌, map, drop, pos}
use Rattle.std.specs.List.{range_with_len}
use Rattle.tile.specs.declared.bracket.Bracket.{Bracket}
use Rattle.tile.specs.declared.cell.Cell.{Cell}
use Rattle.tile.specs.declared.side.Side.{Side}
use Rattle.tile.specs.declared.side.Side.TheVariants.{Rightward, Downward}
use Rattle.tile.specs.Records.{recharged}
use Rattle.tile.specs.Halving.{from_to}
use Rattle.tile.specs.Tiles.{Tile, blank}

-- ---- one record, with some of its fields written

-- another reading and class
abbrev pub with_reading : ℕ → ℕ → Cell → Cell
with_reading v q c =
    record { reading = v; class = q; right = c.right; down = c.down; right_flow = c.right_flow; down_flow = c.down_flow; low = c.low; high = c.high; charge = c.charge; mark = c.mark; rank = c.rank }

-- a weight for each side
abbrev pub with_ties : (Side → ℕ) → Cell → Cell
with_ties w c =
    record { reading = c.reading; class = c.class; right = w Rightward; down = w Downward; right_flow = c.right_flow; down_flow = c.down_flow; low = c.low; high = c.high; charge = c.charge; mark = c.mark; rank = c.rank }

-- another bracket
abbrev pub with_bracket : Bracket → Cell → Cell
with_bracket b c =
    record { reading = c.reading; class = c.class; right = c.right; down = c.down; right_flow = c.right_flow; down_flow = c.down_flow; low = b.low; high = b.high; charge = c.charge; mark = c.mark; rank = c.rank }

-- the two weights of a cell, by their sides
abbrev pub weights : ℕ → ℕ → Side → ℕ
weights right down Rightward = right
weights right down Downward = down

-- bracket 0..top, and all else 0
abbrev pub fresh : ℕ → Cell
fresh top = with_bracket (from_to 0 top) blank

-- reading, class and ties as they are, and all else as in a fresh record
abbrev pub reset : ℕ → Cell → Cell
reset top c = with_bracket (from_to 0 top) (recharged (pos 0) c)

-- ---- a tile

-- each of the first n records written anew, those past them as they were
abbrev pub rewritten : ℕ → (ℕ → Cell) → Tile → Tile
rewritten n f t = map f (range_with_len 0 n) ++ drop n t
