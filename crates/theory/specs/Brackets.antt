-- A bracket of heights for each cell, and the problem on cell sets that halves all brackets at once.
use Rattle.std.specs.Prelude.{◌≡◌, ℕ, ◌+◌, ◌/◌, ◌<◌, ◌≤◌, Bool, cond, not, ◌&&◌, ◌⊎◌, pos, ◌+ℤ◌, ◌-ℤ◌, ◌==◌, nat_lt}
use Rattle.theory.specs.Sums.{total}
use Rattle.theory.specs.Graphs.{Graph, Proper, only}
use Rattle.theory.specs.Sets.{CellSet, Charges, SmallestCheapestSet}
use Rattle.theory.specs.Grids.{Problem, Heights, LowestCheapestGrid, step, StepsNeverFall}

-- the lowest and the highest height that each cell may still take
pub record Brackets : Type 0 where
  pub low : ℕ → ℕ
  pub high : ℕ → ℕ

-- the middle of low..high, rounded down
abbrev pub middle : ℕ → ℕ → ℕ
middle low high = (low + high) / 2

-- a cell is settled when the low and the high end of its bracket are the same
abbrev pub settled : Brackets → CellSet
settled b u = b.low u == b.high u

-- two cells have the same bracket
abbrev pub same_bracket : Brackets → ℕ → ℕ → Bool
same_bracket b u v = b.low u == b.low v && b.high u == b.high v

-- the bracket of u lies below that of v
abbrev pub lies_below : Brackets → ℕ → ℕ → Bool
lies_below b u v = nat_lt (b.high u) (b.low v)

-- a tie is live when both its cells have the same bracket and are not settled
abbrev pub live : {X : Type 0} → Graph X → Brackets → X → Bool
live g b x = same_bracket b (g.near x) (g.far x) && not (settled b (g.near x))

-- the weights of the ties from the cell u to cells that pass a test
abbrev pub tied_to : {X : Type 0} → Graph X → ℕ → (ℕ → Bool) → ℕ
tied_to g u test =
    total g.ties (λ x. cond (g.near x == u && test (g.far x)) (g.weight x) 0 + cond (g.far x == u && test (g.near x)) (g.weight x) 0)

-- A settled cell is charged 0; any other its step at the middle of its bracket, plus its ties to lower brackets, minus its ties to higher ones.
abbrev pub halving_charges : {X : Type 0} → Problem X → Brackets → Charges
halving_charges p b u =
    cond (settled b u) (pos 0)
    ((step p (middle (b.low u) (b.high u)) u +ℤ pos (tied_to p.graph u (λ v. lies_below b v u))) -ℤ pos (tied_to p.graph u (λ v. lies_below b u v)))

-- the graph with its live ties alone
abbrev pub live_graph : {X : Type 0} → Graph X → Brackets → Graph X
live_graph g b = only (live g b) g

-- brackets within 0..top that contain the heights, any two of them equal or disjoint
pub record Bracketed {X : Type 0} (p : Problem X) (h : Heights) (b : Brackets) : Type 0 where
  pub low : (u : ℕ) → u < p.graph.cells → b.low u ≤ h u
  pub high : (u : ℕ) → u < p.graph.cells → h u ≤ b.high u
  pub top : (u : ℕ) → u < p.graph.cells → b.high u ≤ p.top
  pub apart : (u v : ℕ) → u < p.graph.cells → v < p.graph.cells →
      ((b.low u ≡ b.low v) × (b.high u ≡ b.high v)) ⊎ ((b.high u < b.low v) ⊎ (b.high v < b.low u))

-- the unsettled cells whose height lies above the middle of their bracket
abbrev pub upper_half : Brackets → Heights → CellSet
upper_half b h u = not (settled b u) && nat_lt (middle (b.low u) (b.high u)) (h u)

-- ---- theorem

abbrev pub HalvingFindsTheUpperHalf : Type 0 → Type 0
HalvingFindsTheUpperHalf X = (p : Problem X) (h : Heights) (b : Brackets) → Proper p.graph → StepsNeverFall p →
    LowestCheapestGrid p h → Bracketed p h b → SmallestCheapestSet (live_graph p.graph b) (halving_charges p b) (upper_half b h)
