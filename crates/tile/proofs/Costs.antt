-- The energy, cell by cell.
use Rattle.std.proofs.Common.{◌≡◌, ℕ, zero, suc, ◌+◌, ◌≤◌, map, sym, refl, ap, ◌∙◌, add-one, arith}
use Rattle.std.specs.List.{sum_by, range_with_len}
use Rattle.std.proofs.lemmas.Nat.{mul-le}
use Rattle.std.proofs.lemmas.List.FromFn.{sum_by-map-range_with_len_more}
use Rattle.price.specs.Rules.{Rule, priced}
use Rattle.theory.specs.Sums.{sum_below, total}
use Rattle.theory.specs.Grids.{Heights, tie_cost, energy}
use Rattle.theory.proofs.Sums.{total_append}
use Rattle.tile.specs.declared.shape.Shape.{Shape}
use Rattle.tile.specs.Shapes.{cells}
use Rattle.tile.specs.Ties.{ties_below, ties_of, graph}
use Rattle.tile.specs.Tiles.{Survey, problem}
use Rattle.tile.specs.Rating.{cell_cost}

-- a shape has few cells
pub cells_few : (s : Shape) → cells s ≤ 16384
cells_few s = mul-le s.rows s.columns 256 64 s.tall.1 s.wide.1

-- what the first n cells cost
abbrev costs_below : Rule → Shape → Survey → Heights → ℕ → ℕ
costs_below rule s y h n = sum_below n (λ u. priced rule (y.reading u) (y.class u) (h u)) + total (ties_below s n) (tie_cost (graph s y.tie) h)

-- the costs of the first n cells, added up
costs_listed : (rule : Rule) (s : Shape) (y : Survey) (h : Heights) (n : ℕ) → sum_by (λ c. c) (map (cell_cost rule s y h) (range_with_len 0 n)) ≡ costs_below rule s y h n
costs_listed rule s y h zero = refl
costs_listed rule s y h (suc n) =
    ap (λ k. sum_by (λ c. c) (map (cell_cost rule s y h) (range_with_len 0 k))) (sym (add-one n))
    ∙ sum_by-map-range_with_len_more (λ c. c) (cell_cost rule s y h) 0 n n (omega arith)
    ∙ omega (arith, costs_listed rule s y h n, total_append (ties_below s n) (ties_of s n) (tie_cost (graph s y.tie) h))

-- the costs of all cells
pub costs_all : (rule : Rule) (s : Shape) (y : Survey) (h : Heights) → sum_by (λ c. c) (map (cell_cost rule s y h) (range_with_len 0 (cells s))) ≡ energy (problem rule s y) h
unfolding energy
costs_all rule s y h = costs_listed rule s y h (cells s)
