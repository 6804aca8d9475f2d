-- Why a file is not solved: the number of each case, and what it prints.
use Rattle.std.specs.Prelude.{ℕ, List, codes}
use Rattle.limits.specs.Refusals.{refusal_text}
use Rattle.limits.specs.declared.refusal.Refusal.TheVariants.{FewEntries as EntriesRefusal}
use Rattle.tilefile.specs.Faults.{flaw_number, fault_text}
use Rattle.report.specs.declared.refusing.FileRefusal.{FileRefusal}
use Rattle.report.specs.declared.refusing.FileRefusal.TheVariants.{File, FewEntries, FewPlaces}

-- that of the fault, from 11 to 15; that of a round's refusal; 0 where the table of refusals has none
abbrev pub file_refusal_number : FileRefusal → ℕ
file_refusal_number (File fault) = flaw_number fault.flaw
file_refusal_number FewEntries = 7
file_refusal_number FewPlaces = 0

abbrev pub file_refusal_text : FileRefusal → List ℕ
file_refusal_text (File fault) = fault_text fault
file_refusal_text FewEntries = refusal_text EntriesRefusal
file_refusal_text FewPlaces = codes "fewer places for heights than cells"
