-- Ranks and marks in the records of a tile.
use Rattle.std.specs.Prelude.{◌≡◌, ℕ, ◌<◌, Bool, length, count_by, nat_lt, slice_set}
use Rattle.tile.specs.declared.cell.Cell.{Cell}
use Rattle.tile.specs.Tiles.{Tile, cell}
use Rattle.flow.specs.declared.direction.Direction.{Direction}
use Rattle.flow.specs.declared.direction.Direction.TheVariants.{Right, Down, Left, Up}
use Rattle.flow.specs.Sides.{SameFlows}

abbrev pub rank_of : Tile → ℕ → ℕ
rank_of t u = (cell t u).rank

abbrev pub mark_of : Tile → ℕ → ℕ
mark_of t u = (cell t u).mark

abbrev pub with_rank : ℕ → Cell → Cell
with_rank r c = record { reading = c.reading; class = c.class; right = c.right; down = c.down; right_flow = c.right_flow; down_flow = c.down_flow; low = c.low; high = c.high; charge = c.charge; mark = c.mark; rank = r }

abbrev pub ranked_at : Tile → ℕ → ℕ → Tile
ranked_at t v r = slice_set t v (with_rank r (cell t v))

-- a record with another mark
abbrev pub with_mark : ℕ → Cell → Cell
with_mark m c = record { reading = c.reading; class = c.class; right = c.right; down = c.down; right_flow = c.right_flow; down_flow = c.down_flow; low = c.low; high = c.high; charge = c.charge; mark = m; rank = c.rank }

abbrev pub marked_at : Tile → ℕ → ℕ → Tile
marked_at t v m = slice_set t v (with_mark m (cell t v))

-- the mark that stands for a direction
abbrev pub direction_mark : Direction → ℕ
direction_mark Right = 0
direction_mark Down = 1
direction_mark Left = 2
direction_mark Up = 3

abbrev pub has_rank : Cell → Bool
has_rank c = nat_lt 0 c.rank

-- how many cells have a rank
abbrev pub ranked : Tile → ℕ
ranked t = count_by has_rank t

-- the marks stand at exactly the cells that have a rank
pub record Marked (t t' : Tile) : Type 0 where
  pub level : SameFlows t t'
  pub ones : (u : ℕ) → u < length t → 0 < rank_of t u → mark_of t' u ≡ 1
  pub zeros : (u : ℕ) → u < length t → rank_of t u ≡ 0 → mark_of t' u ≡ 0
