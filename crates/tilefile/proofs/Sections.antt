-- The checks of a section, with other outcomes.
use Rattle.std.proofs.Common.{ℕ, ◌+◌, ◌*◌, ◌≤◌, List}
use Rattle.limits.proofs.Outcomes.{mapped, followed}
use Rattle.limits.proofs.Each.{each_mapped}
use Rattle.tile.specs.declared.shape.Shape.{Shape}
use Rattle.tile.specs.Shapes.{cells}
use Rattle.tilefile.specs.declared.fault.Section.{Section}
use Rattle.tilefile.specs.declared.fault.Section.TheVariants as section
use Rattle.tilefile.specs.declared.fault.EntryFlaw.{EntryFlaw}
use Rattle.tilefile.specs.declared.fault.Flaw.TheVariants.{Entry}
use Rattle.tilefile.specs.declared.fault.Fault.{Fault}
use Rattle.tilefile.specs.Sections.{fault, at_entry, CountChecked, reading_place, ReadingChecked, ReadingsChecked, ties_place, TieChecked, TiesChecked, RuleChecked, rows_at, columns_at, ShapeChecked}
use Rattle.tilefile.specs.Files.{CellsChecked}

-- at an entry
entry_mapped : {Left Left' : Fault → Type 0} → ((e : Fault) → Left e → Left' e) → (s : Section) (p : ℕ) (e : EntryFlaw) → at_entry Left s p e → at_entry Left' s p e
entry_mapped left s p e z = (z.0, left (fault s p (Entry e)) z.1)

pub count_mapped : {Left Left' : Fault → Type 0} {Rest Rest' : Type 0} (f : List ℕ) (s : Section) (p n : ℕ) → ((e : Fault) → Left e → Left' e) → (Rest → Rest') → CountChecked f s p n Left Rest → CountChecked f s p n Left' Rest'
count_mapped f s p n left rest = mapped left (mapped left rest)

pub rule_mapped : {Left Left' : Fault → Type 0} {Rest Rest' : Type 0} (f : List ℕ) (p : ℕ) → ((e : Fault) → Left e → Left' e) → (Rest → Rest') → RuleChecked f p Left Rest → RuleChecked f p Left' Rest'
rule_mapped f p left rest = count_mapped f section.Rule p 1 left (mapped left (mapped left rest))

pub shape_mapped : {Left Left' : Fault → Type 0} {Rest Rest' : Type 0} (f : List ℕ) (p n : ℕ) → ((e : Fault) → Left e → Left' e) → (Rest → Rest') → ShapeChecked f p n Left Rest → ShapeChecked f p n Left' Rest'
shape_mapped f p n left rest =
    count_mapped f section.Shape p 3 left (mapped left (mapped (entry_mapped left section.Shape (p + 2)) (mapped (entry_mapped left section.Shape (p + 2)) rest)))

-- and what acceptance comes to may use that there are records enough
pub shape_followed : {Left Left' : Fault → Type 0} {Rest Rest' : Type 0} (f : List ℕ) (p n : ℕ) → ((e : Fault) → Left e → Left' e) → (rows_at f p * columns_at f p ≤ n → Rest → Rest') → ShapeChecked f p n Left Rest → ShapeChecked f p n Left' Rest'
shape_followed f p n left rest =
    count_mapped f section.Shape p 3 left (mapped left (mapped (entry_mapped left section.Shape (p + 2)) (followed (λ _. entry_mapped left section.Shape (p + 2)) rest)))

pub readings_mapped : {Left Left' : Fault → Type 0} (Rest Rest' : Type 0) (s : Shape) (f : List ℕ) (p : ℕ) → ((e : Fault) → Left e → Left' e) → (Rest → Rest') → ReadingsChecked s f p Left Rest → ReadingsChecked s f p Left' Rest'
readings_mapped {Left} {Left'} Rest Rest' s f p left rest =
    count_mapped f section.Readings p (cells s) left
    (each_mapped (λ u. ReadingChecked s f (reading_place p u) Left) (λ u. ReadingChecked s f (reading_place p u) Left') Rest Rest' (cells s)
    (λ u _ _ r. mapped left (mapped (entry_mapped left section.Readings (reading_place p u)) r)) rest)

pub ties_mapped : {Left Left' : Fault → Type 0} (Rest Rest' : Type 0) (s : Shape) (f : List ℕ) (p : ℕ) → ((e : Fault) → Left e → Left' e) → (Rest → Rest') → TiesChecked s f p Left Rest → TiesChecked s f p Left' Rest'
ties_mapped {Left} {Left'} Rest Rest' s f p left rest =
    count_mapped f section.Ties p (cells s) left
    (each_mapped (λ u. TieChecked s f (ties_place p u) u Left) (λ u. TieChecked s f (ties_place p u) u Left') Rest Rest' (cells s)
    (λ u _ _ r. mapped left (mapped (entry_mapped left section.Ties (ties_place p u)) r)) rest)

pub cells_mapped : {Left Left' : Fault → Type 0} (Rest Rest' : Type 0) (s : Shape) (f : List ℕ) (p : ℕ) → ((e : Fault) → Left e → Left' e) → (Rest → Rest') → CellsChecked s f p Left Rest → CellsChecked s f p Left' Rest'
cells_mapped Rest Rest' s f p left rest = readings_mapped _ _ s f p left (ties_mapped _ _ s f (reading_place p (cells s)) left (mapped left rest))
