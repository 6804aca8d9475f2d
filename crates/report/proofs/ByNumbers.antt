-- The examples in numbers, computed.
use Rattle.std.specs.Fmt.{digits}
use Rattle.std.specs.Prelude.{codes}
use Rattle.std.specs.Fmt.{decimal}
use Rattle.std.proofs.Common.{◌≡◌, ℕ, ◌+◌, ◌<◌, ◌≤◌, List, [], ◌∷◌, ◌++◌, length, refl, ap, ◌∙◌, ap₂, arith}
use Rattle.std.proofs.lemmas.Fmt.{decimal_nonempty}
use Rattle.std.proofs.lemmas.List.{length-append}
use Rattle.theory.specs.Grids.{energy}
use Rattle.tile.proofs.ByNumbers.{rounds}
use Rattle.filter.proofs.ByNumbers.{runs}
use Rattle.tile.specs.Tiles.{Tile, heights}
use Rattle.tile.specs.Examples.{two_in_a_row}
use Rattle.report.specs.declared.solving.Solution.{Solution}
use Rattle.report.specs.Printing.{line, heading, grid_text}
use Rattle.report.specs.Answering.{Printed}
use Rattle.report.specs.Examples.{TextsAreRead, TextsHaveEveryHeight, SolutionsAreRead}

pub texts : TextsAreRead
unfolding digits
texts = record {
  three_numbers = refl;
  no_number = refl;
  two_rows_of_one = refl;
  heading_and_heights = refl;
  letter_refused = refl;
  entries_refused = refl;
  its_number = refl;
  number_of_a_fault = refl;
  places_have_no_number = refl;
}

-- ---- how long a text is at least

longer : (a b : List ℕ) (n m : ℕ) → n ≤ length a → m ≤ length b → n + m ≤ length (a ++ b)
longer a b n m l k = omega (arith, length-append a b)

-- a number with a space before it
spaced : (k n : ℕ) → n ≤ length (decimal k) → 1 + n ≤ length (codes " " ++ decimal k)
spaced k n l = longer (codes " ") (decimal k) 1 n (omega arith) l

some : (n : ℕ) → n ≤ 1023 → 1 ≤ length (decimal n)
some n l = let h : 0 < length (decimal n) = decimal_nonempty n (omega arith) in omega (arith, h)

heading_long : (x : Solution) → x.rows ≤ 1023 → x.columns ≤ 1023 → x.top ≤ 1023 → x.rounds ≤ 1023 → 9 ≤ length (heading x)
heading_long x r c t k =
    longer _ (codes "\n") 8 1 (longer (decimal x.rows) _ 1 7 (some x.rows r) (longer (codes " " ++ decimal x.columns) _ 2 5 (spaced x.columns 1 (some x.columns c)) (longer (codes " " ++ decimal x.top) _ 2 3 (spaced x.top 1 (some x.top t))
    (longer (codes " " ++ decimal x.rounds) _ 2 1 (spaced x.rounds 1 (some x.rounds k)) (longer (codes " " ++ decimal x.energy) _ 1 0 (spaced x.energy 0 (omega arith)) (omega arith)))))) (omega arith)

-- a row of two heights
row_long : (t : Tile) → 2 ≤ length t → ((u : ℕ) → u < 2 → heights t u ≤ 10) → 4 ≤ length (grid_text 1 2 t)
row_long [] l h = absurd (omega (arith, l))
row_long (c ∷ []) l h = absurd (omega (arith, l))
row_long (c ∷ e ∷ t) l h =
    let low : c.low ≤ 10 = h 0 (omega arith) in
    let next : e.low ≤ 10 = h 1 (omega arith) in
    longer (line (c.low ∷ e.low ∷ [])) [] 4 0
    (longer _ (codes "\n") 3 1 (longer (decimal c.low) _ 1 2 (some c.low (omega arith)) (longer (codes " " ++ decimal e.low) [] 2 0 (spaced e.low 1 (some e.low (omega arith))) (omega arith))) (omega arith)) (omega arith)

pub every_height : TextsHaveEveryHeight
every_height = record { none_is_left_out = none }
  where
    none : (f : List ℕ) → Printed two_in_a_row f (codes "1 2 10 4 0\n\n") → ⊥
    none f p =
        let a = p.solved in
        let few : p.solution.rounds ≤ 4 = a.rounds.least 4 (omega arith) in
        let text : codes "1 2 10 4 0\n\n" ≡ heading p.solution ++ grid_text 1 2 p.tile = p.prints ∙ ap₂ (λ (r c : ℕ). heading p.solution ++ grid_text r c p.tile) a.rows a.columns in
        let long : 9 + 4 ≤ length (heading p.solution ++ grid_text 1 2 p.tile) = longer (heading p.solution) (grid_text 1 2 p.tile) 9 4
        (heading_long p.solution (omega (arith, a.rows)) (omega (arith, a.columns)) (omega (arith, a.top)) (omega arith)) (row_long p.tile p.whole (λ u l. a.lowest_cheapest.least.grid u l)) in
        let same : 12 ≡ length (heading p.solution ++ grid_text 1 2 p.tile) = ap length text in
        omega (arith, long, same)

pub solutions : SolutionsAreRead
unfolding energy
solutions = record {
  one_cell_solved = record { lowest_cheapest = runs.height_1_is_lowest_cheapest; rows = refl; columns = refl; top = refl; rounds = rounds.due_for_top_1; energy = refl };
  no_other_energy = λ s. omega (arith, s.energy);
  no_other_rounds = λ s. omega (arith, s.rounds.least 1 (omega arith));
  no_other_height = λ s. runs.height_0_is_not s.lowest_cheapest;
}
