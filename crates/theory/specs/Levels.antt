-- The level sets of a grid: what ties grids to sets of cells.
use Rattle.std.specs.Prelude.{◌≡◌, ℕ, ◌<◌, ◌≤◌, pos, ◌+ℤ◌, ◌≤ℤ◌, nat_lt}
use Rattle.theory.specs.Sums.{sumℤ}
use Rattle.theory.specs.Graphs.{Graph, Proper}
use Rattle.theory.specs.Sets.{CellSet, cost, SmallestCheapestSet}
use Rattle.theory.specs.Grids.{Problem, Heights, energy, Grid, LowestCheapestGrid, step, StepsNeverFall}

-- the cells that stand above level m
abbrev pub above : Heights → ℕ → CellSet
above h m u = nat_lt m (h u)

-- the set above each level is a smallest cheapest set, each cell charged its step at that level
abbrev pub LevelsAreSmallest : {X : Type 0} → Problem X → Heights → Type 0
LevelsAreSmallest p h = (m : ℕ) → m < p.top → SmallestCheapestSet p.graph (step p m) (above h m)

-- ---- theorems

-- the energy is that of the all-zero grid, plus the costs of the sets above the levels
abbrev pub EnergyIsTheSumOfItsLevels : Type 0 → Type 0
EnergyIsTheSumOfItsLevels X = (p : Problem X) (h : Heights) → Proper p.graph → Grid p h →
    pos (energy p h) ≡ pos (energy p (λ _. 0)) +ℤ sumℤ p.top (λ m. cost p.graph (step p m) (above h m))

abbrev pub LowestCheapestGridExists : Type 0 → Type 0
LowestCheapestGridExists X = (p : Problem X) → Proper p.graph → StepsNeverFall p → (h : Heights) × LowestCheapestGrid p h

abbrev pub LowestCheapestGridIsUnique : Type 0 → Type 0
LowestCheapestGridIsUnique X = (p : Problem X) (h k : Heights) → LowestCheapestGrid p h → LowestCheapestGrid p k → (u : ℕ) → u < p.graph.cells → h u ≡ k u

abbrev pub LowestCheapestGridHasSmallestLevels : Type 0 → Type 0
LowestCheapestGridHasSmallestLevels X = (p : Problem X) (h : Heights) → Proper p.graph → StepsNeverFall p → LowestCheapestGrid p h → LevelsAreSmallest p h

abbrev pub GridWithSmallestLevelsIsLowestCheapest : Type 0 → Type 0
GridWithSmallestLevelsIsLowestCheapest X = (p : Problem X) (h : Heights) → Proper p.graph → Grid p h → LevelsAreSmallest p h → LowestCheapestGrid p h

-- the same graph and top under other prices
abbrev pub priced : {X : Type 0} → Graph X → ℕ → (ℕ → ℕ → ℕ) → Problem X
priced g top price = record { graph = g; top = top; price = price }

-- steps that are nowhere higher give a lowest cheapest grid that is nowhere lower
abbrev pub LowerStepsRaiseTheGrid : Type 0 → Type 0
LowerStepsRaiseTheGrid X = (g : Graph X) (top : ℕ) (a b : ℕ → ℕ → ℕ) (h k : Heights) → Proper g →
    StepsNeverFall (priced g top a) → StepsNeverFall (priced g top b) →
    ((u m : ℕ) → u < g.cells → m < top → step (priced g top b) m u ≤ℤ step (priced g top a) m u) →
    LowestCheapestGrid (priced g top a) h → LowestCheapestGrid (priced g top b) k →
    (u : ℕ) → u < g.cells → h u ≤ k u
