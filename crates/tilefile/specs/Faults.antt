-- The faults of tile files, by the numbers that report them.
use Rattle.std.specs.Prelude.{ℕ, List, ◌++◌, codes}
use Rattle.std.specs.Fmt.{decimal}
use Rattle.tilefile.specs.declared.fault.Section.{Section}
use Rattle.tilefile.specs.declared.fault.Section.TheVariants.{Rule, Shape, Readings, Ties}
use Rattle.tilefile.specs.declared.fault.EntryFlaw.{EntryFlaw}
use Rattle.tilefile.specs.declared.fault.EntryFlaw.TheVariants.{Range, FewRecords, Reading, Tie}
use Rattle.tilefile.specs.declared.fault.Flaw.{Flaw}
use Rattle.tilefile.specs.declared.fault.Flaw.TheVariants.{Truncated, Count, Letter, Entry, Trailing}
use Rattle.tilefile.specs.declared.fault.Fault.{Fault}

-- the number of a section
abbrev pub section_number : Section → ℕ
section_number Rule = 1
section_number Shape = 2
section_number Readings = 3
section_number Ties = 4

-- the number of what is wrong with an entry, which is that of the refusal that a call on the tile would answer
abbrev pub entry_number : EntryFlaw → ℕ
entry_number Range = 1
entry_number FewRecords = 2
entry_number Reading = 5
entry_number Tie = 6

-- the number of a flaw
abbrev pub flaw_number : Flaw → ℕ
flaw_number Truncated = 11
flaw_number Count = 12
flaw_number Letter = 13
flaw_number (Entry e) = 14
flaw_number Trailing = 15

-- the number of what is wrong with an entry; 0 for every other flaw
abbrev pub inner_number : Flaw → ℕ
inner_number Truncated = 0
inner_number Count = 0
inner_number Letter = 0
inner_number (Entry e) = entry_number e
inner_number Trailing = 0

-- what a fault prints: the word refused, and its number, section, place and inner number
abbrev pub fault_text : Fault → List ℕ
fault_text f = codes "refused " ++ decimal (flaw_number f.flaw) ++ codes " " ++ decimal (section_number f.section) ++ codes " " ++ decimal f.place ++ codes " " ++ decimal (inner_number f.flaw)
