-- Examples in numbers, which pin the definitions.
use Rattle.std.specs.Prelude.{◌≡◌, ℕ, List, [], ◌∷◌, pos, neg_ℤ, codes}
use Rattle.price.specs.Kinds.{absolute}
use Rattle.passes.specs.Writing.{with_bracket}
use Rattle.tile.specs.Halving.{from_to}
use Rattle.tile.specs.Tiles.{Tile}
use Rattle.tile.specs.Examples.{two_in_a_row, first, second}
use Rattle.filter.specs.Runs.{surveyed}
use Rattle.filter.specs.Examples.{one_cell, calls, ended}
use Rattle.tilefile.specs.declared.fault.Section.TheVariants.{Rule}
use Rattle.tilefile.specs.declared.fault.Flaw.TheVariants.{Letter}
use Rattle.tilefile.specs.Sections.{fault}
use Rattle.report.specs.declared.refusing.FileRefusal.TheVariants.{File, FewEntries, FewPlaces}
use Rattle.report.specs.declared.solving.Solution.{Solution}
use Rattle.report.specs.Printing.{line, grid_text, solution_text}
use Rattle.report.specs.Answering.{Printed}
use Rattle.report.specs.Refusing.{file_refusal_number, file_refusal_text}
use Rattle.report.specs.Solving.{SolvedAs}

-- two cells solved: a row, two columns, top 10, four rounds and the energy 42, with the heights 3 and 7
abbrev pub of_two_cells : Solution
of_two_cells = record { rows = 1; columns = 2; top = 10; rounds = 4; energy = 42 }

abbrev pub solved_cells : Tile
solved_cells = with_bracket (from_to 3 3) first ∷ with_bracket (from_to 7 7) second ∷ []

pub record TextsAreRead : Type 0 where
  pub three_numbers : line (4 ∷ 0 ∷ 42 ∷ []) ≡ codes "4 0 42\n"
  pub no_number : line [] ≡ codes "\n"
  pub two_rows_of_one : grid_text 2 1 solved_cells ≡ codes "3\n7\n"
  pub heading_and_heights : solution_text of_two_cells solved_cells ≡ codes "1 2 10 4 42\n3 7\n"
  pub letter_refused : file_refusal_text (File (fault Rule 2 Letter)) ≡ codes "refused 13 1 2 0"
  pub entries_refused : file_refusal_text FewEntries ≡ codes "fewer entries of workspace than cells"
  pub its_number : file_refusal_number FewEntries ≡ 7
  pub number_of_a_fault : file_refusal_number (File (fault Rule 2 Letter)) ≡ 13
  pub places_have_no_number : file_refusal_number FewPlaces ≡ 0

-- one cell with the reading 1: height 1 after one round, at no cost
abbrev pub of_one_cell : Solution
of_one_cell = record { rows = 1; columns = 1; top = 1; rounds = 1; energy = 0 }

abbrev pub dearer : Solution
dearer = record { rows = 1; columns = 1; top = 1; rounds = 1; energy = 1 }

abbrev pub longer : Solution
longer = record { rows = 1; columns = 1; top = 1; rounds = 2; energy = 0 }

-- what a text without its last heights would be, where they are 0
pub record TextsHaveEveryHeight : Type 0 where
  pub none_is_left_out : (f : List ℕ) → Printed two_in_a_row f (codes "1 2 10 4 0\n\n") → ⊥

pub record SolutionsAreRead : Type 0 where
  pub one_cell_solved : SolvedAs (absolute 1) one_cell (surveyed (calls 1)) (ended 1 (neg_ℤ (pos 1))) of_one_cell
  pub no_other_energy : SolvedAs (absolute 1) one_cell (surveyed (calls 1)) (ended 1 (neg_ℤ (pos 1))) dearer → ⊥
  pub no_other_rounds : SolvedAs (absolute 1) one_cell (surveyed (calls 1)) (ended 1 (neg_ℤ (pos 1))) longer → ⊥
  pub no_other_height : SolvedAs (absolute 1) one_cell (surveyed (calls 1)) (ended 0 (pos 1)) of_one_cell → ⊥
