-- Examples in numbers, which pin the definitions: the file of two cells with readings 0 and 10 over a tie of weight 6.
use Rattle.std.specs.Prelude.{◌≡◌, ℕ, List, [], ◌∷◌, Ok, Err, codes}
use Rattle.std.proofs.Common.{lit≤}
use Rattle.limits.specs.Refusals.{number}
use Rattle.limits.specs.declared.refusal.Refusal.TheVariants as refusal
use Rattle.tile.specs.declared.side.Side.TheVariants.{Rightward, Downward}
use Rattle.tile.specs.Tiles.{Tile, blank, survey}
use Rattle.tile.specs.Examples.{two_in_a_row, pair}
use Rattle.passes.specs.Writing.{weights}
use Rattle.filter.specs.declared.states.Draft.{Draft}
use Rattle.filter.specs.Runs.{put_at, tied_at}
use Rattle.tilefile.specs.declared.fault.Section.TheVariants.{Rule, Shape, Readings, Ties}
use Rattle.tilefile.specs.declared.fault.EntryFlaw.TheVariants as entry
use Rattle.tilefile.specs.declared.fault.Flaw.TheVariants.{Truncated, Count, Letter, Entry, Trailing}
use Rattle.tilefile.specs.declared.letter.Letter.TheVariants.{Absolute, Squared}
use Rattle.tilefile.specs.Bytes.{number_at}
use Rattle.tilefile.specs.Faults.{entry_number, fault_text}
use Rattle.tilefile.specs.Letters.{NamesOne}
use Rattle.tilefile.specs.Sections.{fault}
use Rattle.tilefile.specs.Survey.{Writable, surveyed_record}
use Rattle.tilefile.specs.Layout.{two, layout, IsLayout}
use Rattle.tilefile.specs.Files.{file_survey, ReadDoes, survey_calls}

-- the letter Q; a row, two columns and top 10; the readings 0 and 10 of class 1; a tie of 6, and no other
abbrev pub two_cells_file : List ℕ
two_cells_file =
    0 ∷ 1 ∷ 81
    ∷ 0 ∷ 3 ∷ 0 ∷ 1 ∷ 0 ∷ 2 ∷ 0 ∷ 10
    ∷ 0 ∷ 2 ∷ 0 ∷ 0 ∷ 1 ∷ 0 ∷ 10 ∷ 1
    ∷ 0 ∷ 2 ∷ 0 ∷ 6 ∷ 0 ∷ 0 ∷ 0 ∷ 0 ∷ 0 ∷ 0
    ∷ []

-- the same with the second reading 11, and a byte too many
abbrev pub two_faults_file : List ℕ
two_faults_file =
    0 ∷ 1 ∷ 81
    ∷ 0 ∷ 3 ∷ 0 ∷ 1 ∷ 0 ∷ 2 ∷ 0 ∷ 10
    ∷ 0 ∷ 2 ∷ 0 ∷ 0 ∷ 1 ∷ 0 ∷ 11 ∷ 1
    ∷ 0 ∷ 2 ∷ 0 ∷ 6 ∷ 0 ∷ 0 ∷ 0 ∷ 0 ∷ 0 ∷ 0 ∷ 0
    ∷ []

pub record BytesAreRead : Type 0 where
  pub high_byte_first : number_at (1 ∷ 2 ∷ []) 0 ≡ 258
  pub past_the_end : number_at (1 ∷ 2 ∷ []) 2 ≡ 0
  pub in_two_bytes : two 258 ≡ 1 ∷ 2 ∷ []
  pub letter_A : NamesOne 65
  pub letter_B : NamesOne 66 → ⊥

-- what a file says, and how it is laid out
pub record LayoutsAreRead : Type 0 where
  pub bytes_of_two_cells : layout Squared two_in_a_row (survey pair) ≡ two_cells_file
  pub it_is_such_a_layout : IsLayout two_cells_file Squared two_in_a_row
  pub another_letter_is_not : IsLayout two_cells_file Absolute two_in_a_row → ⊥
  pub may_be_written : Writable two_in_a_row (survey pair)
  pub reading_of_the_second_cell : (file_survey two_in_a_row two_cells_file).reading 1 ≡ 10
  pub class_of_the_second_cell : (file_survey two_in_a_row two_cells_file).class 1 ≡ 1
  pub tie_to_the_right : (file_survey two_in_a_row two_cells_file).tie 0 Rightward ≡ 6
  pub tie_downward : (file_survey two_in_a_row two_cells_file).tie 0 Downward ≡ 0
  pub calls_of_two_cells : survey_calls (survey pair) 2 ≡
      tied_at 1 ((survey pair).tie 1) ∷ put_at 1 10 1 ∷ tied_at 0 ((survey pair).tie 0) ∷ put_at 0 0 1 ∷ []

abbrev pub drafted : Draft
drafted = record { shape = two_in_a_row; tall = lit≤ tt }

abbrev pub three_records : Tile
three_records = blank ∷ blank ∷ blank ∷ []

-- what reading a file answers and leaves: of two faults the first one, and as its place where the entry begins
pub record FilesAreRead : Type 0 where
  pub two_cells_read : ReadDoes two_cells_file three_records (Ok (drafted, Squared)) (surveyed_record 10 0 1 (weights 6 0) ∷ surveyed_record 10 10 1 (weights 0 0) ∷ blank ∷ [])
  pub empty_file : ReadDoes [] three_records (Err (fault Rule 0 Truncated)) three_records
  pub cut_off_in_its_count : ReadDoes (0 ∷ []) three_records (Err (fault Rule 1 Truncated)) three_records
  pub count_of_two_letters : ReadDoes (0 ∷ 2 ∷ 65 ∷ []) three_records (Err (fault Rule 0 Count)) three_records
  pub letter_B : ReadDoes (0 ∷ 1 ∷ 66 ∷ []) three_records (Err (fault Rule 2 Letter)) three_records
  pub no_shape : ReadDoes (0 ∷ 1 ∷ 65 ∷ []) three_records (Err (fault Shape 3 Truncated)) three_records
  pub few_records : ReadDoes two_cells_file (blank ∷ []) (Err (fault Shape 5 (Entry entry.FewRecords))) (blank ∷ [])
  pub reading_above_top : ReadDoes two_faults_file three_records (Err (fault Readings 16 (Entry entry.Reading))) three_records
  pub the_shape_is_not_told_before_the_letter : ReadDoes (0 ∷ 1 ∷ 66 ∷ []) three_records (Err (fault Shape 3 Truncated)) three_records → ⊥

-- an entry's number is that of the refusal which the call would answer
pub record NumbersOfEntries : Type 0 where
  pub range : entry_number entry.Range ≡ number refusal.Range
  pub few_records : entry_number entry.FewRecords ≡ number refusal.FewRecords
  pub reading : entry_number entry.Reading ≡ number refusal.Reading
  pub tie : entry_number entry.Tie ≡ number refusal.Tie

pub record TextsOfFaults : Type 0 where
  pub reading_refused : fault_text (fault Readings 16 (Entry entry.Reading)) ≡ codes "refused 14 3 16 5"
  pub trailing_byte : fault_text (fault Ties 29 Trailing) ≡ codes "refused 15 4 29 0"
