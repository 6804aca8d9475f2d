-- Flows over ties, what they leave at the cells, and the marks that certify a smallest cheapest set.
use Rattle.std.specs.Prelude.{◌≡◌, ℕ, ◌<◌, true, cond, ℤ, pos, ◌+ℤ◌, ◌-ℤ◌, neg_ℤ, ◌≤ℤ◌, ◌<ℤ◌, ◌==◌}
use Rattle.std.specs.List.{ContainsAt as Has}
use Rattle.theory.specs.Sums.{totalℤ}
use Rattle.theory.specs.Graphs.{Graph, Proper}
use Rattle.theory.specs.Sets.{CellSet, Charges, SmallestCheapestSet}

-- what runs over each tie from its near end to its far end; negative when it runs the other way
abbrev pub Flow : Type 0 → Type 0
Flow X = X → ℤ

-- what the tie x carries out of the cell u
abbrev pub leaving : {X : Type 0} → Graph X → Flow X → ℕ → X → ℤ
leaving g f u x = cond (g.near x == u) (f x) (pos 0) -ℤ cond (g.far x == u) (f x) (pos 0)

-- the charge of a cell, plus the flow that leaves it, minus the flow that enters it
abbrev pub remainder : {X : Type 0} → Graph X → Charges → Flow X → ℕ → ℤ
remainder g c f u = c u +ℤ totalℤ g.ties (leaving g f u)

-- a cell is in deficit below 0 and in surplus above
abbrev pub Deficit : {X : Type 0} → Graph X → Charges → Flow X → ℕ → Type 0
Deficit g c f u = remainder g c f u <ℤ pos 0

abbrev pub Surplus : {X : Type 0} → Graph X → Charges → Flow X → ℕ → Type 0
Surplus g c f u = pos 0 <ℤ remainder g c f u

-- a residual arc from u to v: a tie whose flow, in the direction of travel, is below its weight
pub data Residual {X : Type 0} (g : Graph X) (f : Flow X) (u v : ℕ) : Type 0 where
  forth : (x : X) → Has g.ties x → g.near x ≡ u → g.far x ≡ v → f x <ℤ pos (g.weight x) → Residual g f u v
  back : (x : X) → Has g.ties x → g.far x ≡ u → g.near x ≡ v → neg_ℤ (f x) <ℤ pos (g.weight x) → Residual g f u v

-- deficit cells, and the cells that residual arcs reach from one
pub data Reached {X : Type 0} (g : Graph X) (c : Charges) (f : Flow X) : ℕ → Type 0 where
  deficit : {u : ℕ} → u < g.cells → Deficit g c f u → Reached g c f u
  onward : {u v : ℕ} → Reached g c f u → Residual g f u v → Reached g c f v

-- each flow lies from minus its tie's weight to its weight
abbrev pub WithinWeights : {X : Type 0} → Graph X → Flow X → Type 0
WithinWeights {X} g f = (x : X) → Has g.ties x → (f x ≤ℤ pos (g.weight x)) × (neg_ℤ (f x) ≤ℤ pos (g.weight x))

-- A flow within the weights, marks at exactly the cells that are reached, and no marked cell in surplus.
pub record Certified {X : Type 0} (g : Graph X) (c : Charges) (f : Flow X) (marks : CellSet) : Type 0 where
  pub fits : WithinWeights g f
  pub marked : (u : ℕ) → u < g.cells → Reached g c f u → marks u ≡ true
  pub reached : (u : ℕ) → u < g.cells → marks u ≡ true → Reached g c f u
  pub no_surplus : (u : ℕ) → u < g.cells → marks u ≡ true → Surplus g c f u → ⊥

-- ---- theorem

abbrev pub CertifiedMarksAreTheSmallestCheapestSet : Type 0 → Type 0
CertifiedMarksAreTheSmallestCheapestSet X = (g : Graph X) (c : Charges) (f : Flow X) (marks : CellSet) → Proper g → Certified g c f marks → SmallestCheapestSet g c marks
