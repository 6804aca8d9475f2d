-- Weighted graphs.
use Rattle.std.specs.Prelude.{ℕ, ◌<◌, Bool, List, filter}
use Rattle.std.specs.List.{ContainsAt as Has}

-- Cells 0 .. cells − 1, and a list of ties, each with two ends and a weight.
-- X is whatever tells the ties apart: a tile's are told apart by the cell and the side where they are stored.
pub record Graph (X : Type 0) : Type 0 where
  pub cells : ℕ
  pub ties : List X
  pub near : X → ℕ
  pub far : X → ℕ
  pub weight : X → ℕ

-- both ends of every tie are cells
abbrev pub Proper : {X : Type 0} → Graph X → Type 0
Proper {X} g = (x : X) → Has g.ties x → (g.near x < g.cells) × (g.far x < g.cells)

-- the graph with those ties alone that pass a test
abbrev pub only : {X : Type 0} → (X → Bool) → Graph X → Graph X
only test g = record { cells = g.cells; ties = filter test g.ties; near = g.near; far = g.far; weight = g.weight }
