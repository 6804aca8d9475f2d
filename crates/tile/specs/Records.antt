-- What the record of a cell stores on its sides, its bracket, and the record charged anew.
use Rattle.std.specs.Prelude.{ℕ, Bool, not, ◌&&◌, ◌==◌, ℤ, pos}
use Rattle.tile.specs.declared.bracket.Bracket.{Bracket}
use Rattle.tile.specs.declared.cell.Cell.{Cell}
use Rattle.tile.specs.declared.side.Side.{Side}
use Rattle.tile.specs.declared.side.Side.TheVariants.{Rightward, Downward}

-- the weight of the tie on a side
abbrev pub stored_tie : Cell → Side → ℕ
stored_tie c Rightward = c.right
stored_tie c Downward = c.down

-- the flow over that tie, away from the cell
abbrev pub stored_flow : Cell → Side → ℤ
stored_flow c Rightward = c.right_flow
stored_flow c Downward = c.down_flow

-- the heights that the cell may still take
abbrev pub stored_bracket : Cell → Bracket
stored_bracket c = record { low = c.low; high = c.high }

-- the record with this charge, and no flow, mark or rank
abbrev pub recharged : ℤ → Cell → Cell
recharged z c =
    record { reading = c.reading; class = c.class; right = c.right; down = c.down; right_flow = pos 0; down_flow = pos 0; low = c.low; high = c.high; charge = z; mark = 0; rank = 0 }

-- the two cells have the same bracket, and its low end differs from its high end
abbrev pub share_bracket : Cell → Cell → Bool
share_bracket a b = (a.low == b.low && a.high == b.high) && not (a.low == a.high)
