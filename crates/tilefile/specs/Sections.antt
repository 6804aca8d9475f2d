-- The four sections of a file, each by its checks in file order. A section begins at the place p of the file f with its count.
use Rattle.std.specs.Prelude.{◌≡◌, ℕ, ◌+◌, ◌*◌, ◌≤◌, List, length}
use Rattle.limits.specs.Checking.{CheckedBy, EachChecked}
use Rattle.tile.specs.declared.shape.Shape.{Shape}
use Rattle.tile.specs.declared.side.Side.{Side}
use Rattle.tile.specs.Shapes.{cells}
use Rattle.passes.specs.Soundness.{SoundReading, SoundTies}
use Rattle.passes.specs.Writing.{weights}
use Rattle.filter.specs.Checks.{StartCheckedBy}
use Rattle.tilefile.specs.declared.fault.Section.{Section}
use Rattle.tilefile.specs.declared.fault.Section.TheVariants as section
use Rattle.tilefile.specs.declared.fault.EntryFlaw.{EntryFlaw}
use Rattle.tilefile.specs.declared.fault.EntryFlaw.TheVariants.{Range, FewRecords, Reading, Tie}
use Rattle.tilefile.specs.declared.fault.Flaw.{Flaw}
use Rattle.tilefile.specs.declared.fault.Flaw.TheVariants.{Truncated, Count, Letter, Entry, Trailing}
use Rattle.tilefile.specs.declared.fault.Fault.{Fault}
use Rattle.tilefile.specs.Faults.{entry_number, flaw_number}
use Rattle.tilefile.specs.Bytes.{byte_at, number_at}
use Rattle.tilefile.specs.Letters.{NamesOne}

-- ---- one check

abbrev pub fault : Section → ℕ → Flaw → Fault
fault s p w = record { section = s; place = p; flaw = w }

-- One check. Where its condition does not hold, the file is refused with the flaw w, whose number is n, in the section s at the place p.
abbrev pub FaultChecked : ℕ → Flaw → Section → ℕ → Type 0 → (Fault → Type 0) → Type 0 → Type 0
FaultChecked n w s p = CheckedBy (λ f. flaw_number f.flaw) n (fault s p w)

-- the bytes from p on, so many of them, are there; where the file ends within them or before them, its length is the place
abbrev pub WholeChecked : List ℕ → Section → (p size : ℕ) → (Fault → Type 0) → Type 0 → Type 0
WholeChecked f s p size = FaultChecked 11 Truncated s (length f) (p + size ≤ length f)

-- the count at p is there, and is n
abbrev pub CountChecked : List ℕ → Section → (p n : ℕ) → (Fault → Type 0) → Type 0 → Type 0
CountChecked f s p n Left Rest = WholeChecked f s p 2 Left (FaultChecked 12 Count s p (number_at f p ≡ n) Left Rest)

-- what is left where the entry at p has the flaw e: flaw 14, which carries e
abbrev pub at_entry : (Fault → Type 0) → Section → ℕ → EntryFlaw → Type 0
at_entry Left s p e = (flaw_number (Entry e) ≡ 14) × Left (fault s p (Entry e))

-- One check of an entry, which a call on the tile makes too. Where its condition does not hold, the entry has the flaw e, whose number
-- is n.
abbrev pub EntryChecked : ℕ → EntryFlaw → Type 0 → (EntryFlaw → Type 0) → Type 0 → Type 0
EntryChecked = CheckedBy entry_number

-- ---- Rule: count 1, and one letter

abbrev pub RuleChecked : List ℕ → ℕ → (Fault → Type 0) → Type 0 → Type 0
RuleChecked f p Left Rest = CountChecked f section.Rule p 1 Left (WholeChecked f section.Rule (p + 2) 1 Left (FaultChecked 13 Letter section.Rule (p + 2) (NamesOne (byte_at f (p + 2))) Left Rest))

-- ---- Shape: count 3, and rows, columns and top, which are one entry; start would accept it over so many records

abbrev pub rows_at : List ℕ → ℕ → ℕ
rows_at f p = number_at f (p + 2)

abbrev pub columns_at : List ℕ → ℕ → ℕ
columns_at f p = number_at f (p + 4)

abbrev pub top_at : List ℕ → ℕ → ℕ
top_at f p = number_at f (p + 6)

-- the checks of start, whose refusal is what is wrong with the entry
abbrev pub StartChecked : (rows columns top records : ℕ) → (EntryFlaw → Type 0) → Type 0 → Type 0
StartChecked = StartCheckedBy entry_number Range FewRecords

abbrev pub ShapeChecked : List ℕ → (p records : ℕ) → (Fault → Type 0) → Type 0 → Type 0
ShapeChecked f p records Left Rest = CountChecked f section.Shape p 3 Left (WholeChecked f section.Shape (p + 2) 6 Left (StartChecked (rows_at f p) (columns_at f p) (top_at f p) records (at_entry Left section.Shape (p + 2)) Rest))

-- ---- Readings: as many entries as cells, each a reading and its class, which put would accept

-- where the cell u's entry begins
abbrev pub reading_place : ℕ → ℕ → ℕ
reading_place p u = p + 2 + 3 * u

-- the class in the entry at q, whose first two bytes are its reading
abbrev pub class_at : List ℕ → ℕ → ℕ
class_at f q = byte_at f (q + 2)

abbrev pub ReadingChecked : Shape → List ℕ → ℕ → (Fault → Type 0) → Type 0 → Type 0
ReadingChecked s f q Left Rest = WholeChecked f section.Readings q 3 Left (EntryChecked 5 Reading (SoundReading s.top (number_at f q) (class_at f q)) (at_entry Left section.Readings q) Rest)

abbrev pub ReadingsChecked : Shape → List ℕ → ℕ → (Fault → Type 0) → Type 0 → Type 0
ReadingsChecked s f p Left Rest = CountChecked f section.Readings p (cells s) Left (EachChecked (λ u. ReadingChecked s f (reading_place p u) Left) (cells s) Rest)

-- ---- Ties: as many entries as cells, each a right and a down tie, which tie would accept

-- where the cell u's entry begins
abbrev pub ties_place : ℕ → ℕ → ℕ
ties_place p u = p + 2 + 4 * u

-- the weights in the entry at q
abbrev pub tie_numbers : List ℕ → ℕ → Side → ℕ
tie_numbers f q = weights (number_at f q) (number_at f (q + 2))

abbrev pub TieChecked : Shape → List ℕ → (q u : ℕ) → (Fault → Type 0) → Type 0 → Type 0
TieChecked s f q u Left Rest = WholeChecked f section.Ties q 4 Left (EntryChecked 6 Tie (SoundTies s u (tie_numbers f q)) (at_entry Left section.Ties q) Rest)

abbrev pub TiesChecked : Shape → List ℕ → ℕ → (Fault → Type 0) → Type 0 → Type 0
TiesChecked s f p Left Rest = CountChecked f section.Ties p (cells s) Left (EachChecked (λ u. TieChecked s f (ties_place p u) u Left) (cells s) Rest)

-- ---- and no byte more, at p

abbrev pub EndChecked : List ℕ → ℕ → (Fault → Type 0) → Type 0 → Type 0
EndChecked f p Left Rest = FaultChecked 15 Trailing section.Ties p (length f ≤ p) Left Rest
