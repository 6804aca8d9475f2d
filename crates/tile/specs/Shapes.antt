-- Shapes, and what making one answers.
use Rattle.std.specs.Prelude.{◌≡◌, ℕ, ◌*◌, ◌≤◌, Result, MatchResult}
use Rattle.limits.specs.Limits.{most_rows, most_strip_rows, most_columns, most_top}
use Rattle.tile.specs.declared.shape.Shape.{Shape}
use Rattle.tile.specs.declared.shape.error.ShapeError.{ShapeError}

-- how many cells a shape has; they are numbered row by row, from 0
abbrev pub cells : Shape → ℕ
cells s = s.rows * s.columns

-- rows, columns and top within their bounds
pub record Ranged (most rows columns top : ℕ) : Type 0 where
  pub some_rows : 1 ≤ rows
  pub few_rows : rows ≤ most
  pub some_columns : 1 ≤ columns
  pub few_columns : columns ≤ most_columns
  pub some_top : 1 ≤ top
  pub low_top : top ≤ most_top

-- the shape that was asked for
pub record MadeOf (most rows columns top : ℕ) (s : Shape) : Type 0 where
  pub ranged : Ranged most rows columns top
  pub same_rows : s.rows ≡ rows
  pub same_columns : s.columns ≡ columns
  pub same_top : s.top ≡ top

-- a shape of at most so many rows: made where its rows, columns and top are in bounds, and refused exactly where they are not
abbrev pub MadeWithin : ℕ → ℕ → ℕ → ℕ → Result Shape ShapeError → Type 0
MadeWithin most rows columns top r = MatchResult r (MadeOf most rows columns top) (λ _. Ranged most rows columns top → ⊥)

-- the shape of a tile
abbrev pub Made : ℕ → ℕ → ℕ → Result Shape ShapeError → Type 0
Made = MadeWithin most_rows

-- the shape of a strip of tiles, which may have more rows
abbrev pub MadeStrip : ℕ → ℕ → ℕ → Result Shape ShapeError → Type 0
MadeStrip = MadeWithin most_strip_rows
