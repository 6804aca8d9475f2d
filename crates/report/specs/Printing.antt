-- What is printed of a solution.
use Rattle.std.specs.Prelude.{ℕ, ◌*◌, List, [], ◌∷◌, ◌++◌, map, take, drop, codes}
use Rattle.std.specs.Fmt.{decimal}
use Rattle.std.specs.List.{flat_map, range_with_len}
use Rattle.tile.specs.declared.cell.Cell.{Cell}
use Rattle.tile.specs.Tiles.{Tile}
use Rattle.report.specs.declared.solving.Solution.{Solution}

-- numbers parted by single spaces, and the end of the line
abbrev pub spaced : List ℕ → List ℕ
spaced [] = []
spaced (n ∷ ns) = decimal n ++ flat_map (λ k. codes " " ++ decimal k) ns

abbrev pub line : List ℕ → List ℕ
line ns = spaced ns ++ codes "\n"

-- rows, columns, top, rounds and energy
abbrev pub heading : Solution → List ℕ
heading x = line (x.rows ∷ x.columns ∷ x.top ∷ x.rounds ∷ x.energy ∷ [])

-- the heights of the row i: the low ends of its records
abbrev pub row_heights : (columns : ℕ) → Tile → ℕ → List ℕ
row_heights columns t i = map (λ (c : Cell). c.low) (take columns (drop (i * columns) t))

-- a line for each row
abbrev pub grid_text : (rows columns : ℕ) → Tile → List ℕ
grid_text rows columns t = flat_map (λ i. line (row_heights columns t i)) (range_with_len 0 rows)

-- the heading, and the grid
abbrev pub solution_text : Solution → Tile → List ℕ
solution_text x t = heading x ++ grid_text x.rows x.columns t
