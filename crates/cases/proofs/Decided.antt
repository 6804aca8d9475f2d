-- A test that goes through all grids decides which is the lowest cheapest one.
use Rattle.std.proofs.Common.{◌≡◌, ℕ, ◌<◌, ◌≤◌, Bool, true, ◌&&◌, ◌||◌, eqb, ltb, leb, List, ⊎_elim, arith}
use Rattle.std.proofs.lemmas.Bool.{and_parts, or_cases, eqb-true, leb-true, ltb-true}
use Rattle.theory.specs.Graphs.{Proper}
use Rattle.theory.specs.Grids.{Problem, Heights, energy, Grid, LowestCheapestGrid}
use Rattle.cases.specs.Cases.{height}
use Rattle.theory.proofs.Locals.{energy_same}
use Rattle.theory.proofs.Every.{every, every_passes}
use Rattle.cases.proofs.EveryGrid.{every_grid, every_grid_passes, listed, listed_at}

-- among the first n cells h lies nowhere above k
abbrev nowhere_above : ℕ → Heights → Heights → Bool
nowhere_above n h k = every n (λ u. leb (h u) (k u))

-- h, whose energy is n, against k, whose energy is m, over so many cells: k costs more, or as much and lies nowhere below
abbrev wins : ℕ → Heights → ℕ → Heights → ℕ → Bool
wins cells h n k m = ltb n m || (eqb n m && nowhere_above cells h k)

-- h is a grid, n is its energy, and it wins against every grid
abbrev pub is_lowest_cheapest : {X : Type 0} → Problem X → Heights → ℕ → Bool
is_lowest_cheapest p h n =
    every p.graph.cells (λ u. leb (h u) p.top)
    && (eqb (energy p h) n && every_grid p.top p.graph.cells (λ ks. wins p.graph.cells h n (height ks) (energy p (height ks))))

-- what winning says of the two
record Won (cells : ℕ) (h : Heights) (n : ℕ) (k : Heights) (m : ℕ) : Type 0 where
  cheaper : n ≤ m
  lower : m ≤ n → (u : ℕ) → u < cells → h u ≤ k u

won : (cells : ℕ) (h : Heights) (n : ℕ) (k : Heights) (m : ℕ) → wins cells h n k m ≡ true → Won cells h n k m
won cells h n k m e =
    ⊎_elim
    (λ (less : ltb n m ≡ true). record { cheaper = omega (arith, ltb-true n m less); lower = λ le. absurd (omega (arith, ltb-true n m less)) })
    (λ (same : (eqb n m && nowhere_above cells h k) ≡ true).
    let both = and_parts (eqb n m) (nowhere_above cells h k) same in
    record { cheaper = omega (arith, eqb-true n m both.0); lower = λ le u l. leb-true (h u) (k u) (every_passes cells (λ v. leb (h v) (k v)) both.1 u l) })
    (or_cases (ltb n m) (eqb n m && nowhere_above cells h k) e)

-- the test is sound
pub decided : {X : Type 0} (p : Problem X) (h : Heights) (n : ℕ) → Proper p.graph → is_lowest_cheapest p h n ≡ true → LowestCheapestGrid p h × (energy p h ≡ n)
decided p h n o e =
    let parts = and_parts (every cells (λ u. leb (h u) p.top)) (eqb (energy p h) n && every_grid p.top cells test) e in
    let rest = and_parts (eqb (energy p h) n) (every_grid p.top cells test) parts.1 in
    let grid : Grid p h = λ u l. leb-true (h u) p.top (every_passes cells (λ v. leb (h v) p.top) parts.0 u l) in
    let value : energy p h ≡ n = eqb-true (energy p h) n rest.0 in
    let beats : (k : Heights) → Grid p k → Won cells h n (height (listed cells k)) (energy p (height (listed cells k))) = λ k g. won cells h n (height (listed cells k)) (energy p (height (listed cells k))) (every_grid_passes p.top cells test rest.1 k g) in
    let as_listed : (k : Heights) → energy p (height (listed cells k)) ≡ energy p k = λ k. energy_same p (height (listed cells k)) k o (listed_at cells k) in (
      record {
        least = record { grid = grid; cheapest = λ k g. omega (arith, value, (beats k g).cheaper, as_listed k) };
        lowest = λ k c u l.
            let below : h u ≤ height (listed cells k) u = (beats k c.grid).lower (omega (arith, value, c.cheapest h grid, as_listed k)) u l in
            omega (arith, below, listed_at cells k u l);
      },
      value,
    )
  where
    cells : ℕ
    cells = p.graph.cells

    test : List ℕ → Bool
    test ks = wins cells h n (height ks) (energy p (height ks))
