-- Surveys that agree at the cells pose the same problem.
use Rattle.std.proofs.Common.{◌≡◌, ℕ, ◌+◌, ◌*◌, ◌<◌, ◌≤◌, sym, ap, ap₂, subst}
use Rattle.price.specs.Rules.{Rule, priced}
use Rattle.theory.specs.Grids.{Heights, gap, energy, LowestCheapestGrid}
use Rattle.theory.proofs.Sums.{for_all, sum_same, total_same}
use Rattle.tile.specs.declared.shape.Shape.{Shape}
use Rattle.tile.specs.declared.side.Side.{Side}
use Rattle.tile.specs.Shapes.{cells}
use Rattle.tile.specs.Ties.{ties}
use Rattle.tile.specs.Tiles.{Survey, problem}
use Rattle.tile.proofs.Joins.{ties_join_cells}

pub record SameSurvey (s : Shape) (y z : Survey) : Type 0 where
  pub reading : (u : ℕ) → u < cells s → y.reading u ≡ z.reading u
  pub class : (u : ℕ) → u < cells s → y.class u ≡ z.class u
  pub tie : (u : ℕ) (d : Side) → u < cells s → y.tie u d ≡ z.tie u d

-- every grid has the same energy
pub energy_resurveyed : (rule : Rule) (s : Shape) (y z : Survey) (g : Heights) → SameSurvey s y z → energy (problem rule s y) g ≡ energy (problem rule s z) g
unfolding energy
energy_resurveyed rule s y z g same =
    ap₂ (λ (a b : ℕ). a + b) (sum_same (cells s) _ _ (λ u l. ap₂ (λ (v q : ℕ). priced rule v q (g u)) (same.reading u l) (same.class u l)))
    (total_same (ties s) _ _ (for_all _ (ties s) (λ x i.
    ap (λ (w : ℕ). w * gap (g ((problem rule s y).graph.near x)) (g ((problem rule s y).graph.far x))) (same.tie x.cell x.side (ties_join_cells s y.tie x i).0))))

-- and the lowest cheapest grid is the same
pub lowest_resurveyed : (rule : Rule) (s : Shape) (y z : Survey) (g : Heights) → SameSurvey s y z → LowestCheapestGrid (problem rule s y) g → LowestCheapestGrid (problem rule s z) g
lowest_resurveyed rule s y z g agree low =
    let same = λ (k : Heights). energy_resurveyed rule s y z k agree in
    record {
      least = record {
        grid = low.least.grid;
        cheapest = λ o grid. subst (λ (n : ℕ). n ≤ energy (problem rule s z) o) (same g) (subst (λ (n : ℕ). energy (problem rule s y) g ≤ n) (same o) (low.least.cheapest o grid));
      };
      lowest = λ k c. low.lowest k (record {
        grid = c.grid;
        cheapest = λ o grid. subst (λ (n : ℕ). n ≤ energy (problem rule s y) o) (sym (same k)) (subst (λ (n : ℕ). energy (problem rule s z) k ≤ n) (sym (same o)) (c.cheapest o grid));
      });
    }
