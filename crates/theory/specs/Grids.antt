-- Grids of heights, their energy, and the lowest of the cheapest.
use Rattle.std.specs.Prelude.{ℕ, suc, ◌+◌, ◌-◌, ◌*◌, ◌<◌, ◌≤◌, ℤ, pos, ◌-ℤ◌, ◌≤ℤ◌}
use Rattle.theory.specs.Sums.{sum_below, total}
use Rattle.theory.specs.Graphs.{Graph}

-- what is to be made cheapest: a graph, the greatest height, and the price of each cell at each height
pub record Problem (X : Type 0) : Type 0 where
  pub graph : Graph X
  pub top : ℕ
  pub price : ℕ → ℕ → ℕ

-- a height for each cell
abbrev pub Heights : Type 0
Heights = ℕ → ℕ

-- the absolute difference
abbrev pub gap : ℕ → ℕ → ℕ
gap a b = (a - b) + (b - a)

-- what a tie costs: its weight times the absolute difference of the heights at its ends
abbrev pub tie_cost : {X : Type 0} → Graph X → Heights → X → ℕ
tie_cost g h x = g.weight x * gap (h (g.near x)) (h (g.far x))

-- the prices of all heights, plus what all ties cost
unfoldable pub energy : {X : Type 0} → Problem X → Heights → ℕ
energy p h = sum_below p.graph.cells (λ u. p.price u (h u)) + total p.graph.ties (tie_cost p.graph h)

-- a grid has heights from 0 to top
abbrev pub Grid : {X : Type 0} → Problem X → Heights → Type 0
Grid p h = (u : ℕ) → u < p.graph.cells → h u ≤ p.top

-- no grid has a smaller energy
pub record CheapestGrid {X : Type 0} (p : Problem X) (h : Heights) : Type 0 where
  pub grid : Grid p h
  pub cheapest : (k : Heights) → Grid p k → energy p h ≤ energy p k

-- the cheapest grid that lies above no other cheapest grid at any cell
pub record LowestCheapestGrid {X : Type 0} (p : Problem X) (h : Heights) : Type 0 where
  pub least : CheapestGrid p h
  pub lowest : (k : Heights) → CheapestGrid p k → (u : ℕ) → u < p.graph.cells → h u ≤ k u

-- the step of a price at height m, what the next height costs more; it may be negative
abbrev pub step_of : (ℕ → ℕ) → ℕ → ℤ
step_of price m = pos (price (suc m)) -ℤ pos (price m)

-- what it costs the cell u to go from height m to m + 1
abbrev pub step : {X : Type 0} → Problem X → ℕ → ℕ → ℤ
step p m u = step_of (p.price u) m

-- the step of a cell never falls when the height rises by 1
abbrev pub StepsNeverFall : {X : Type 0} → Problem X → Type 0
StepsNeverFall p = (u m : ℕ) → u < p.graph.cells → suc m < p.top → step p m u ≤ℤ step p (suc m) u
