-- Energies and costs look at cells and ties alone.
use Rattle.std.proofs.Common.{◌≡◌, ℕ, zero, suc, ◌+◌, ◌*◌, ◌<◌, ◌≤◌, cond, ℤ, pos, ◌+ℤ◌, ◌≤ℤ◌, sym, refl, ap, subst, ap₂, arith}
use Rattle.std.specs.List.{ContainsAt as Has}
use Rattle.theory.specs.Sums.{sum_below, sumℤ, total}
use Rattle.theory.specs.Graphs.{Graph, Proper}
use Rattle.theory.specs.Sets.{CellSet, Charges, crosses, cost, SmallestCheapestSet}
use Rattle.theory.specs.Grids.{Problem, Heights, gap, tie_cost, energy, CheapestGrid, LowestCheapestGrid}
use Rattle.theory.proofs.Sums.{for_all, sum_same, total_same}

-- heights that agree at all cells have the same energy, since ties join cells
pub energy_same : {X : Type 0} (p : Problem X) (h k : Heights) → Proper p.graph → ((u : ℕ) → u < p.graph.cells → h u ≡ k u) → energy p h ≡ energy p k
unfolding energy
energy_same p h k o e =
    let cells : sum_below p.graph.cells (λ u. p.price u (h u)) ≡ sum_below p.graph.cells (λ u. p.price u (k u)) =
    sum_same p.graph.cells _ _ (λ u l. ap (p.price u) (e u l)) in
    let ties : total p.graph.ties (tie_cost p.graph h) ≡ total p.graph.ties (tie_cost p.graph k) =
    total_same p.graph.ties _ _ (for_all _ p.graph.ties (λ x i. rw (e (p.graph.near x) (o x i).0, e (p.graph.far x) (o x i).1))) in
    omega arith

-- heights that agree at all cells with the lowest cheapest grid are one too
pub lowest_same : {X : Type 0} (p : Problem X) (h k : Heights) → Proper p.graph → ((u : ℕ) → u < p.graph.cells → h u ≡ k u) → LowestCheapestGrid p h → LowestCheapestGrid p k
lowest_same p h k o e low = record {
  least = record {
    grid = λ u l. subst (λ (n : ℕ). n ≤ p.top) (e u l) (low.least.grid u l);
    cheapest = λ other grid. subst (λ (n : ℕ). n ≤ energy p other) (energy_same p h k o e) (low.least.cheapest other grid);
  };
  lowest = λ other cheap u l. subst (λ (n : ℕ). n ≤ other u) (e u l) (low.lowest other cheap u l);
}

sumℤ_same : (n : ℕ) (f g : ℕ → ℤ) → ((u : ℕ) → u < n → f u ≡ g u) → sumℤ n f ≡ sumℤ n g
sumℤ_same zero f g e = refl
sumℤ_same (suc n) f g e = ap₂ (λ (a b : ℤ). a +ℤ b) (sumℤ_same n f g (λ u l. e u (omega arith))) (e n (omega arith))

-- the same graph with other weights
abbrev pub with_weights : {X : Type 0} → Graph X → (X → ℕ) → Graph X
with_weights g w = record { cells = g.cells; ties = g.ties; near = g.near; far = g.far; weight = w }

-- weights that agree at all ties, and charges that agree at all cells, give every set the same cost
cost_same : {X : Type 0} (g : Graph X) (w : X → ℕ) (c d : Charges) → ((x : X) → Has g.ties x → g.weight x ≡ w x) → ((u : ℕ) → u < g.cells → c u ≡ d u) →
    (s : CellSet) → cost g c s ≡ cost (with_weights g w) d s
unfolding cost
cost_same g w c d ew ec s =
    ap₂ (λ (a : ℤ) (b : ℕ). a +ℤ pos b) (sumℤ_same g.cells _ _ (λ u l. ap (λ (z : ℤ). cond (s u) z (pos 0)) (ec u l)))
    (total_same g.ties _ _ (for_all _ g.ties (λ x i. ap (λ (n : ℕ). cond (crosses g s x) n 0) (ew x i))))

-- and hence the same smallest cheapest set
pub smallest_same : {X : Type 0} (g : Graph X) (w : X → ℕ) (c d : Charges) (s : CellSet) → ((x : X) → Has g.ties x → g.weight x ≡ w x) → ((u : ℕ) → u < g.cells → c u ≡ d u) →
    SmallestCheapestSet g c s → SmallestCheapestSet (with_weights g w) d s
smallest_same g w c d s ew ec small =
    let same = cost_same g w c d ew ec in
    record {
      cheapest = λ t. subst (λ (z : ℤ). z ≤ℤ cost (with_weights g w) d t) (same s) (subst (λ (z : ℤ). cost g c s ≤ℤ z) (same t) (small.cheapest t));
      smallest = λ t cheap. small.smallest t (λ o. subst (λ (z : ℤ). z ≤ℤ cost g c o) (sym (same t)) (subst (λ (z : ℤ). cost (with_weights g w) d t ≤ℤ z) (sym (same o)) (cheap o)));
    }

-- a problem with other weights
abbrev pub reweighted : {X : Type 0} → Problem X → (X → ℕ) → Problem X
reweighted p w = record { graph = with_weights p.graph w; top = p.top; price = p.price }

energy_reweighted : {X : Type 0} (p : Problem X) (w : X → ℕ) (h : Heights) → ((x : X) → Has p.graph.ties x → p.graph.weight x ≡ w x) → energy p h ≡ energy (reweighted p w) h
unfolding energy
energy_reweighted p w h e =
    ap (λ (n : ℕ). sum_below p.graph.cells (λ u. p.price u (h u)) + n)
    (total_same p.graph.ties _ _ (for_all _ p.graph.ties (λ x i. ap (λ (n : ℕ). n * gap (h (p.graph.near x)) (h (p.graph.far x))) (e x i))))

-- weights that agree at all ties leave the lowest cheapest grid
pub lowest_reweighted : {X : Type 0} (p : Problem X) (w : X → ℕ) (h : Heights) → ((x : X) → Has p.graph.ties x → p.graph.weight x ≡ w x) → LowestCheapestGrid p h → LowestCheapestGrid (reweighted p w) h
lowest_reweighted p w h e low =
    let same = λ (k : Heights). energy_reweighted p w k e in
    let cheap : (k : Heights) → CheapestGrid (reweighted p w) k → CheapestGrid p k =
    λ k c. record { grid = c.grid; cheapest = λ o grid. subst (λ (n : ℕ). n ≤ energy p o) (sym (same k)) (subst (λ (n : ℕ). energy (reweighted p w) k ≤ n) (sym (same o)) (c.cheapest o grid)) } in
    record {
      least = record { grid = low.least.grid; cheapest = λ o grid. subst (λ (n : ℕ). n ≤ energy (reweighted p w) o) (same h) (subst (λ (n : ℕ). energy p h ≤ n) (same o) (low.least.cheapest o grid)) };
      lowest = λ k c. low.lowest k (cheap k c);
    }
