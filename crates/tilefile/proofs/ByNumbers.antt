-- The examples in numbers, computed.
use Rattle.std.specs.Prelude.{slice_index_or}
use Rattle.std.specs.Fmt.{digits}
use Rattle.std.proofs.Common.{◌≡◌, ℕ, List, [], ◌∷◌, Ok, Err, Result, refl, ap, arith}
use Rattle.limits.specs.Limits.{most_rows}
use Rattle.limits.specs.Checking.{refused, passed}
use Rattle.limits.proofs.Outcomes.{surely}
use Rattle.theory.proofs.ByNumbers.{both}
use Rattle.tile.specs.declared.shape.Shape.{Shape}
use Rattle.tile.specs.Shapes.{MadeOf}
use Rattle.tile.specs.Tiles.{Tile, blank, Survey, survey}
use Rattle.tile.specs.Examples.{two_in_a_row, pair}
use Rattle.passes.proofs.ByNumbers.{first_ties, second_ties}
use Rattle.passes.specs.Soundness.{SoundReading, SoundTies}
use Rattle.tilefile.specs.declared.letter.Letter.{Letter}
use Rattle.tilefile.specs.declared.letter.Letter.TheVariants.{Absolute, Squared, Leaning}
use Rattle.tilefile.specs.declared.fault.Fault.{Fault}
use Rattle.tilefile.specs.Faults.{flaw_number}
use Rattle.tilefile.specs.declared.fault.Section.TheVariants as section
use Rattle.tilefile.specs.declared.fault.Flaw.TheVariants.{Truncated, Entry, Letter as LetterFlaw}
use Rattle.tilefile.specs.declared.fault.EntryFlaw.TheVariants.{FewRecords, Reading}
use Rattle.filter.specs.declared.states.Draft.{Draft}
use Rattle.tilefile.specs.Letters.{NamesOne}
use Rattle.tilefile.specs.Sections.{tie_numbers, fault, FaultChecked, ShapeChecked, TiesChecked, EndChecked}
use Rattle.tilefile.specs.Files.{file_survey, Asked, CellsChecked, FileChecked}
use Rattle.tilefile.specs.Examples.{BytesAreRead, LayoutsAreRead, FilesAreRead, NumbersOfEntries, TextsOfFaults, two_cells_file, two_faults_file, drafted, three_records}

no_B : NamesOne 66 → ⊥
no_B (Absolute, e) = omega (arith, e)
no_B (Squared, e) = omega (arith, e)
no_B (Leaning, e) = omega (arith, e)

pub bytes : BytesAreRead
bytes = record { high_byte_first = refl; past_the_end = refl; in_two_bytes = refl; letter_A = (Absolute, refl); letter_B = no_B }

-- ---- what the file of two cells says

said : Survey
said = file_survey two_in_a_row two_cells_file

pub layouts : LayoutsAreRead
unfolding said
layouts = record {
  bytes_of_two_cells = refl;
  it_is_such_a_layout = record {
    writable = record {
      few_rows = omega arith;
      sound = record {
        readings = both (λ u. SoundReading 10 (said.reading u) (said.class u)) (record { reading = omega arith; class = omega arith }) (record { reading = omega arith; class = omega arith });
        ties = both (λ u. SoundTies two_in_a_row u (said.tie u)) (first_ties (said.tie 0) (omega arith) refl) (second_ties (said.tie 1) refl refl);
      };
    };
    bytes = refl;
  };
  another_letter_is_not = λ l. omega (arith, ap (λ (f : List ℕ). slice_index_or f 2 0) l.bytes);
  may_be_written = record {
    few_rows = omega arith;
    sound = record {
      readings = both (λ u. SoundReading 10 ((survey pair).reading u) ((survey pair).class u)) (record { reading = omega arith; class = omega arith }) (record { reading = omega arith; class = omega arith });
      ties = both (λ u. SoundTies two_in_a_row u ((survey pair).tie u)) (first_ties ((survey pair).tie 0) (omega arith) refl) (second_ties ((survey pair).tie 1) refl refl);
    };
  };
  reading_of_the_second_cell = refl;
  class_of_the_second_cell = refl;
  tie_to_the_right = refl;
  tie_downward = refl;
  calls_of_two_cells = refl;
}

-- ---- reading files

asked : MadeOf most_rows 1 2 10 two_in_a_row
asked = record {
  ranged = record { some_rows = omega arith; few_rows = omega arith; some_columns = omega arith; few_columns = omega arith; some_top = omega arith; low_top = omega arith };
  same_rows = refl;
  same_columns = refl;
  same_top = refl;
}

-- the letter and the shape of both files pass, for three records
abbrev Shaped : List ℕ → (Fault → Type 0) → (Shape → Type 0) → Type 0
Shaped f Left Rest = (s : Shape) × Asked f s × CellsChecked s f 11 Left (Rest s)

two_cells_front : (Left : Fault → Type 0) (Rest : Shape → Type 0) → Shaped two_cells_file Left Rest → FileChecked two_cells_file 3 Left Rest
two_cells_front Left Rest r = passed (omega arith) (passed refl (passed (omega arith) (passed (Squared, refl) shape)))
  where
    shape : ShapeChecked two_cells_file 3 3 Left (Shaped two_cells_file Left Rest)
    shape = passed (omega arith) (passed refl (passed (omega arith) (passed asked.ranged (passed (omega arith) r))))

two_faults_front : (Left : Fault → Type 0) (Rest : Shape → Type 0) → Shaped two_faults_file Left Rest → FileChecked two_faults_file 3 Left Rest
two_faults_front Left Rest r = passed (omega arith) (passed refl (passed (omega arith) (passed (Squared, refl) shape)))
  where
    shape : ShapeChecked two_faults_file 3 3 Left (Shaped two_faults_file Left Rest)
    shape = passed (omega arith) (passed refl (passed (omega arith) (passed asked.ranged (passed (omega arith) r))))

-- so do the cells of the first
two_cells_passed : (Left : Fault → Type 0) (Rest : Shape → Type 0) → Rest two_in_a_row → FileChecked two_cells_file 3 Left Rest
two_cells_passed Left Rest r = two_cells_front Left Rest (two_in_a_row, asked, readings)
  where
    ties : TiesChecked two_in_a_row two_cells_file 19 Left (EndChecked two_cells_file 29 Left (Rest two_in_a_row))
    ties = passed (omega arith) (passed refl (passed (omega arith) (passed (first_ties (tie_numbers two_cells_file 21) (omega arith) refl) (passed (omega arith) (passed (second_ties (tie_numbers two_cells_file 25) refl refl) (passed (omega arith) r))))))

    readings : CellsChecked two_in_a_row two_cells_file 11 Left (Rest two_in_a_row)
    readings = passed (omega arith) (passed refl (passed (omega arith) (passed (record { reading = omega arith; class = omega arith }) (passed (omega arith) (passed (record { reading = omega arith; class = omega arith }) ties)))))

-- the number of a flaw that is told, and 0 where there is none
told : {X : Type 0} → Result X Fault → ℕ
told (Ok _) = 0
told (Err f) = flaw_number f.flaw

letter_first : {Rest : Type 0} → FaultChecked 13 LetterFlaw section.Rule 2 (NamesOne 66) (λ e. (◌≡◌ {A = Result (Draft × Letter) Fault} (Err (fault section.Shape 3 Truncated)) (Err e)) × (◌≡◌ {A = Tile} three_records three_records)) Rest → ⊥
unfolding told
letter_first (refused _ _ z) = omega (arith, ap told z.0)
letter_first (passed one _) = no_B one

pub files : FilesAreRead
files = record {
  two_cells_read = two_cells_passed _ _ (record { draft = drafted; letter = Squared; answers = refl; shape = refl; names = refl; writes = refl });
  empty_file = refused (λ l. omega (arith, l)) refl (refl, refl);
  cut_off_in_its_count = refused (λ l. omega (arith, l)) refl (refl, refl);
  count_of_two_letters = passed (omega arith) (refused (λ e. omega (arith, e)) refl (refl, refl));
  letter_B = passed (omega arith) (passed refl (passed (omega arith) (refused no_B refl (refl, refl))));
  no_shape = passed (omega arith) (passed refl (passed (omega arith) (passed (Absolute, refl) (refused (λ l. omega (arith, l)) refl (refl, refl)))));
  few_records = passed (omega arith) (passed refl (passed (omega arith) (passed (Squared, refl) shape_refused)));
  reading_above_top = two_faults_front _ _ (two_in_a_row, asked, reading_refused);
  the_shape_is_not_told_before_the_letter = λ k. letter_first (surely (omega arith) (surely refl (surely (omega arith) k)));
}
  where
    shape_refused : {Rest : Type 0} → ShapeChecked two_cells_file 3 1 (λ e. (◌≡◌ {A = Result (Draft × Letter) Fault} (Err (fault section.Shape 5 (Entry FewRecords))) (Err e)) × (◌≡◌ {A = Tile} (blank ∷ []) (blank ∷ []))) Rest
    shape_refused = passed (omega arith) (passed refl (passed (omega arith) (passed asked.ranged (refused (λ l. omega (arith, l)) refl (refl, (refl, refl))))))

    reading_refused : {Rest : Type 0} → CellsChecked two_in_a_row two_faults_file 11 (λ e. (◌≡◌ {A = Result (Draft × Letter) Fault} (Err (fault section.Readings 16 (Entry Reading))) (Err e)) × (◌≡◌ {A = Tile} three_records three_records)) Rest
    reading_refused = passed (omega arith) (passed refl (passed (omega arith) (passed (record { reading = omega arith; class = omega arith }) (passed (omega arith) (refused (λ r. omega (arith, r.reading)) refl (refl, (refl, refl)))))))

pub entries : NumbersOfEntries
entries = record { range = refl; few_records = refl; reading = refl; tie = refl }

pub texts : TextsOfFaults
unfolding digits
texts = record { reading_refused = refl; trailing_byte = refl }
