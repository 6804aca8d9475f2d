-- Push-relabel: the rank of a cell that is still in surplus.
use Rattle.std.specs.Prelude.{ℕ, ◌-◌, max, cond, length, pos, int_lt}
use Rattle.tile.specs.Tiles.{Tile}
use Rattle.flow.specs.declared.direction.Direction.{Direction}
use Rattle.flow.specs.declared.direction.Direction.TheVariants.{Right, Down, Left, Up}
use Rattle.flow.specs.Sides.{beside, has_beside, opposite, room}
use Rattle.cut.specs.Ranks.{rank_of}

-- the rank of the cell in this direction, where a residual arc leads from it to v; else 0
abbrev pub rank_beside : Tile → ℕ → ℕ → Direction → ℕ
rank_beside t c v h = cond (has_beside c (length t) h v) (cond (int_lt (pos 0) (room t c (opposite h) (beside c h v))) (rank_of t (beside c h v)) 0) 0

-- one less than the highest of these, and 0 where there is none
abbrev pub lower_rank : Tile → ℕ → ℕ → ℕ
lower_rank t c v = max (max (rank_beside t c v Right) (rank_beside t c v Down)) (max (rank_beside t c v Left) (rank_beside t c v Up)) - 1
