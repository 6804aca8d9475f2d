-- Sets of cells, what they cost, and the smallest of the cheapest.
use Rattle.std.specs.Prelude.{◌≡◌, ℕ, ◌<◌, Bool, true, false, cond, ◌&&◌, ◌||◌, ℤ, pos, ◌+ℤ◌, ◌≤ℤ◌}
use Rattle.theory.specs.Sums.{sumℤ, total}
use Rattle.theory.specs.Graphs.{Graph, Proper}

-- a set of cells, by whether each cell is inside
abbrev pub CellSet : Type 0
CellSet = ℕ → Bool

-- the cells that are in both sets
abbrev pub meet : CellSet → CellSet → CellSet
meet s t u = s u && t u

-- the cells that are in one of the sets, or in both
abbrev pub join : CellSet → CellSet → CellSet
join s t u = s u || t u

-- each of the cells below n that is in s is in t
abbrev pub Within : ℕ → CellSet → CellSet → Type 0
Within n s t = (u : ℕ) → u < n → s u ≡ true → t u ≡ true

-- s and t have the same cells below n
abbrev pub Same : ℕ → CellSet → CellSet → Type 0
Same n s t = (u : ℕ) → u < n → s u ≡ t u

-- one of the two is true, and not both
abbrev pub differ : Bool → Bool → Bool
differ true true = false
differ true false = true
differ false true = true
differ false false = false

-- the tie has one end inside the set
abbrev pub crosses : {X : Type 0} → Graph X → CellSet → X → Bool
crosses g s x = differ (s (g.near x)) (s (g.far x))

-- a signed charge for each cell
abbrev pub Charges : Type 0
Charges = ℕ → ℤ

-- what a set costs: its charges, plus the weights of the ties with one end inside
unfoldable pub cost : {X : Type 0} → Graph X → Charges → CellSet → ℤ
cost g c s = sumℤ g.cells (λ u. cond (s u) (c u) (pos 0)) +ℤ pos (total g.ties (λ x. cond (crosses g s x) (g.weight x) 0))

-- no set costs less
abbrev pub CheapestSet : {X : Type 0} → Graph X → Charges → CellSet → Type 0
CheapestSet g c s = (t : CellSet) → cost g c s ≤ℤ cost g c t

-- a cheapest set that is contained in every other
pub record SmallestCheapestSet {X : Type 0} (g : Graph X) (c : Charges) (s : CellSet) : Type 0 where
  pub cheapest : CheapestSet g c s
  pub smallest : (t : CellSet) → CheapestSet g c t → Within g.cells s t

-- ---- theorems

abbrev pub CostIsSubmodular : Type 0 → Type 0
CostIsSubmodular X = (g : Graph X) (c : Charges) (s t : CellSet) → (cost g c (meet s t) +ℤ cost g c (join s t)) ≤ℤ (cost g c s +ℤ cost g c t)

abbrev pub SmallestCheapestSetExists : Type 0 → Type 0
SmallestCheapestSetExists X = (g : Graph X) (c : Charges) → Proper g → (s : CellSet) × SmallestCheapestSet g c s

abbrev pub SmallestCheapestSetIsUnique : Type 0 → Type 0
SmallestCheapestSetIsUnique X = (g : Graph X) (c : Charges) (s t : CellSet) → SmallestCheapestSet g c s → SmallestCheapestSet g c t → Same g.cells s t

-- with the same ties and charges nowhere lower, the smallest cheapest set is contained in the other's
abbrev pub HigherChargesShrinkTheSet : Type 0 → Type 0
HigherChargesShrinkTheSet X = (g : Graph X) (c d : Charges) (s t : CellSet) → ((u : ℕ) → u < g.cells → c u ≤ℤ d u) →
    SmallestCheapestSet g c s → SmallestCheapestSet g d t → Within g.cells t s
