-- A small instance: two cells with charges 11 and −9 over one tie of weight 6, cut by a flow of 6 from the second cell to the first.
use Rattle.std.specs.Prelude.{ℕ, cond, [], ◌∷◌, pos, negsuc, ◌==◌}
use Rattle.theory.specs.Graphs.{Graph, Proper}
use Rattle.theory.specs.Sets.{CellSet, Charges}
use Rattle.theory.specs.Flows.{Flow, Certified}

-- the one tie is told apart by the number 0
abbrev pub two_cells : Graph ℕ
two_cells = record { cells = 2; ties = 0 ∷ []; near = λ _. 0; far = λ _. 1; weight = λ _. 6 }

abbrev pub two_charges : Charges
two_charges u = cond (u == 0) (pos 11) (negsuc 8)

abbrev pub six_back : Flow ℕ
six_back _ = negsuc 5

abbrev pub second_cell : CellSet
second_cell u = u == 1

-- ---- theorem

abbrev pub CertificateCanBeMet : Type 0
CertificateCanBeMet = Proper two_cells × Certified two_cells two_charges six_back second_cell
