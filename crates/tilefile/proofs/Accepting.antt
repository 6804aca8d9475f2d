-- Every layout is a file without a fault, and such a file passes every check.
use Rattle.std.proofs.Common.{◌≡◌, ℕ, ◌+◌, ◌-◌, ◌*◌, ◌<◌, ◌≤◌, List, [], ◌∷◌, ◌++◌, length, drop, Result, Ok, refl, sym, ap, ap₂, ◌∙◌, subst, arith}
use Rattle.std.proofs.lemmas.List.{append-nil}
use Rattle.std.proofs.lemmas.Nat.{mul-le}
use Rattle.limits.specs.Limits.{most_rows}
use Rattle.limits.proofs.Each.{each_surely}
use Rattle.limits.proofs.Outcomes.{surely}
use Rattle.tile.specs.declared.shape.Shape.{Shape}
use Rattle.tile.specs.declared.side.Side.{Side}
use Rattle.tile.specs.declared.side.Side.TheVariants.{Rightward, Downward}
use Rattle.tile.specs.Shapes.{cells}
use Rattle.tile.specs.Tiles.{Tile, Survey}
use Rattle.passes.specs.Soundness.{SoundReading, SoundTie}
use Rattle.filter.specs.declared.states.Draft.{Draft}
use Rattle.filter.specs.Laws.{SameShape}
use Rattle.filter.proofs.Keeps.{same_shape}
use Rattle.tilefile.specs.declared.fault.Fault.{Fault}
use Rattle.tilefile.specs.declared.letter.Letter.{Letter}
use Rattle.tilefile.specs.declared.letter.Letter.TheVariants.{Absolute, Squared, Leaning}
use Rattle.tilefile.specs.Bytes.{byte_at, number_at}
use Rattle.tilefile.specs.Letters.{letter_byte}
use Rattle.tilefile.specs.Sections.{rows_at, columns_at, top_at, reading_place, class_at, ReadingChecked, ties_place, tie_numbers, TieChecked}
use Rattle.tilefile.specs.Files.{ties_start, CellsChecked, Asked, FileChecked, file_survey, ReadAs, ReadDoes}
use Rattle.tilefile.specs.Survey.{Writable, cell_record}
use Rattle.tilefile.specs.Layout.{two, entries, reading_entry, ties_entry, shape_section, readings_section, ties_section, layout, AcceptsLayouts}
use Rattle.tilefile.proofs.Wholes.{Whole, Entries, reading_filed, class_filed, tie_filed, some_cells}
use Rattle.tilefile.proofs.Calls.{rewritten_same}
use Rattle.tilefile.proofs.Fronts.{From, behind, within, ended, byte_there, number_there, entry_there, entries_behind}

-- ---- a file without a fault comes to what acceptance comes to

-- the checks of the cells, and then of the whole file
cells_pass : (Left : Fault → Type 0) (s : Shape) (f : List ℕ) (R : Type 0) → Entries s f → CellsChecked s f 11 Left R → R
cells_pass Left s f R w cells_checked =
    let first = w.ties.fit 0 (some_cells s) in
    let readings = each_surely (λ u. ReadingChecked s f (reading_place 11 u) Left) _ (cells s) (λ u l R z. surely (w.readings.fit u l).sound (surely (w.readings.fit u l).whole z))
    (surely w.readings.count (surely (omega (arith, first.whole)) cells_checked)) in
    let ties = each_surely (λ u. TieChecked s f (ties_place (ties_start s) u) u Left) _ (cells s) (λ u l R z. surely (w.ties.fit u l).sound (surely (w.ties.fit u l).whole z))
    (surely w.ties.count (surely (omega (arith, first.whole)) readings)) in
    surely w.ends ties

whole_passes : (Left : Fault → Type 0) (s : Shape) (f : List ℕ) (n : ℕ) (Rest : Shape → Type 0) → Whole s f n → FileChecked f n Left Rest → Rest s
whole_passes Left s f n Rest w file = made (surely enough (surely w.asked.ranged (surely (omega (arith, long)) (surely w.shape_count (surely (omega (arith, long)) (surely w.letter (surely (omega (arith, long)) (surely w.rule_count (surely (omega (arith, long)) file)))))))))
  where
    long : 11 ≤ length f
    long = let first = w.entries.ties.fit 0 (some_cells s) in omega (arith, first.whole)

    enough : rows_at f 3 * columns_at f 3 ≤ n
    enough = let same : cells s ≡ rows_at f 3 * columns_at f 3 = ap₂ (λ (a b : ℕ). a * b) w.asked.same_rows w.asked.same_columns in omega (arith, w.enough)

    made : (z : Shape) × Asked f z × CellsChecked z f 11 Left (Rest z) → Rest s
    made (z, asked, checked) =
        let same : SameShape s z = record { rows = w.asked.same_rows ∙ sym asked.same_rows; columns = w.asked.same_columns ∙ sym asked.same_columns; top = w.asked.same_top ∙ sym asked.same_top } in
        cells_pass Left s f (Rest s) w.entries (subst (λ (x : Shape). CellsChecked x f 11 Left (Rest x)) (same_shape s z same) checked)

-- ---- what stands in a layout

-- each number at its place, and the length
pub record Stands (letter : Letter) (s : Shape) (y : Survey) (f : List ℕ) : Type 0 where
  pub rule_count : number_at f 0 ≡ 1
  pub names : byte_at f 2 ≡ letter_byte letter
  pub shape_count : number_at f 3 ≡ 3
  pub rows : rows_at f 3 ≡ s.rows
  pub columns : columns_at f 3 ≡ s.columns
  pub top : top_at f 3 ≡ s.top
  pub readings_count : number_at f 11 ≡ cells s
  pub reading : (u : ℕ) → u < cells s → number_at f (reading_place 11 u) ≡ y.reading u
  pub class : (u : ℕ) → u < cells s → class_at f (reading_place 11 u) ≡ y.class u
  pub ties_count : number_at f (ties_start s) ≡ cells s
  pub tie : (u : ℕ) → u < cells s → (d : Side) → tie_numbers f (ties_place (ties_start s) u) d ≡ y.tie u d
  pub long : ties_place (ties_start s) (cells s) ≤ length f
  pub ends : length f ≤ ties_place (ties_start s) (cells s)

-- a tile of so few rows has cells that two bytes can count
pub few_cells : (s : Shape) → s.rows ≤ most_rows → cells s ≤ 4096
few_cells s few = mul-le s.rows s.columns 64 64 few s.wide.1

-- what follows each part, from the file's beginning to its end
layout_stands : (letter : Letter) (s : Shape) (y : Survey) (f : List ℕ) → Writable s y → f ≡ layout letter s y → Stands letter s y f
layout_stands letter s y f w e = record {
  rule_count = number_there f 0 1 _ (omega arith) from_start;
  names = byte_there f 2 (letter_byte letter) _ from_letter;
  shape_count = number_there f 3 3 _ (omega arith) from_shape;
  rows = number_there f 5 s.rows _ (omega (arith, w.few_rows)) from_rows;
  columns = number_there f 7 s.columns _ (omega (arith, s.wide.1)) from_columns;
  top = number_there f 9 s.top _ (omega (arith, s.high.1)) from_top;
  readings_count = number_there f 11 (cells s) _ (omega (arith, few)) from_readings;
  reading = λ u l. number_there f (reading_place 11 u) (y.reading u) _ (omega (arith, (w.sound.readings u l).reading, s.high.1)) (reading_from u l).1;
  class = λ u l. byte_there f (reading_place 11 u + 2) (y.class u) _ (behind f (reading_place 11 u) (two (y.reading u)) _ (reading_from u l).1);
  ties_count = number_there f (ties_start s) (cells s) _ (omega (arith, few)) from_ties;
  tie = tie;
  long = let last = (tie_from (cells s - 1) (omega (arith, some_cells s))).1 in omega (arith, within f (ties_place (ties_start s) (cells s - 1)) (ties_entry y (cells s - 1)) _ (omega arith) last, some_cells s);
  ends = ended f (ties_place (ties_start s) (cells s)) from_end;
}
  where
    few : cells s ≤ 4096
    few = few_cells s w.few_rows

    from_start : From f 0 (layout letter s y)
    from_start = e

    from_letter : From f 2 (letter_byte letter ∷ (shape_section s ++ (readings_section s y ++ ties_section s y)))
    from_letter = behind f 0 (two 1) _ from_start

    from_shape : From f 3 (shape_section s ++ (readings_section s y ++ ties_section s y))
    from_shape = behind f 2 (letter_byte letter ∷ []) _ from_letter

    from_rows : From f 5 (two s.rows ++ (two s.columns ++ (two s.top ++ (readings_section s y ++ ties_section s y))))
    from_rows = behind f 3 (two 3) _ from_shape

    from_columns : From f 7 (two s.columns ++ (two s.top ++ (readings_section s y ++ ties_section s y)))
    from_columns = behind f 5 (two s.rows) _ from_rows

    from_top : From f 9 (two s.top ++ (readings_section s y ++ ties_section s y))
    from_top = behind f 7 (two s.columns) _ from_columns

    from_readings : From f 11 (two (cells s) ++ (entries (reading_entry y) (cells s) ++ ties_section s y))
    from_readings = behind f 9 (two s.top) _ from_top

    from_reading : From f 13 (entries (reading_entry y) (cells s) ++ ties_section s y)
    from_reading = behind f 11 (two (cells s)) _ from_readings

    reading_from : (u : ℕ) → u < cells s → (c : List ℕ) × From f (reading_place 11 u) (reading_entry y u ++ c)
    reading_from u l = entry_there f (reading_entry y) (reading_place 11) u (cells s) (ties_section s y) (λ v. omega arith) l from_reading

    from_ties : From f (ties_start s) (ties_section s y)
    from_ties = entries_behind f (reading_entry y) (reading_place 11) (cells s) (ties_section s y) (λ v. omega arith) from_reading

    from_tie : From f (ties_place (ties_start s) 0) (entries (ties_entry y) (cells s) ++ [])
    from_tie =
        let first : ties_place (ties_start s) 0 ≡ ties_start s + 2 = omega arith in
        ap (λ k. drop k f) first ∙ behind f (ties_start s) (two (cells s)) _ from_ties ∙ sym (append-nil (entries (ties_entry y) (cells s)))

    tie_from : (u : ℕ) → u < cells s → (c : List ℕ) × From f (ties_place (ties_start s) u) (ties_entry y u ++ c)
    tie_from u l = entry_there f (ties_entry y) (ties_place (ties_start s)) u (cells s) [] (λ v. omega arith) l from_tie

    from_end : From f (ties_place (ties_start s) (cells s)) []
    from_end = entries_behind f (ties_entry y) (ties_place (ties_start s)) (cells s) [] (λ v. omega arith) from_tie

    tie : (u : ℕ) → u < cells s → (d : Side) → tie_numbers f (ties_place (ties_start s) u) d ≡ y.tie u d
    tie u l Rightward = number_there f (ties_place (ties_start s) u) (y.tie u Rightward) _ (omega (arith, (w.sound.ties u l Rightward).few)) (tie_from u l).1
    tie u l Downward =
        number_there f (ties_place (ties_start s) u + 2) (y.tie u Downward) _ (omega (arith, (w.sound.ties u l Downward).few))
        (behind f (ties_place (ties_start s) u) (two (y.tie u Rightward)) _ (tie_from u l).1)

-- so it has no fault
layout_whole : (letter : Letter) (s : Shape) (y : Survey) (f : List ℕ) (n : ℕ) → Writable s y → cells s ≤ n → Stands letter s y f → Whole s f n
layout_whole letter s y f n w enough k = record {
  rule_count = k.rule_count;
  letter = (letter, k.names);
  shape_count = k.shape_count;
  asked = record {
    ranged = record {
      some_rows = omega (arith, k.rows, s.tall.0);
      few_rows = omega (arith, k.rows, w.few_rows);
      some_columns = omega (arith, k.columns, s.wide.0);
      few_columns = omega (arith, k.columns, s.wide.1);
      some_top = omega (arith, k.top, s.high.0);
      low_top = omega (arith, k.top, s.high.1);
    };
    same_rows = sym k.rows;
    same_columns = sym k.columns;
    same_top = sym k.top;
  };
  enough = enough;
  entries = record {
    readings = record {
      count = k.readings_count;
      fit = λ u l. record {
        whole = omega (arith, k.long);
        sound = subst (λ v. SoundReading s.top v (class_at f (reading_place 11 u))) (sym (k.reading u l)) (subst (λ q. SoundReading s.top (y.reading u) q) (sym (k.class u l)) (w.sound.readings u l));
      };
    };
    ties = record {
      count = k.ties_count;
      fit = λ u l. record {
        whole = omega (arith, k.long);
        sound = λ d. subst (λ v. SoundTie s u d v) (sym (k.tie u l d)) (w.sound.ties u l d);
      };
    };
    ends = k.ends;
  };
}

-- ---- the answer

-- a byte is one letter only
same_letter : (a b : Letter) → letter_byte a ≡ letter_byte b → a ≡ b
same_letter Absolute Absolute e = refl
same_letter Squared Squared e = refl
same_letter Leaning Leaning e = refl
same_letter a b e = absurd (omega arith)

-- the file says of a cell what the survey says, so its record is the same
same_record : (letter : Letter) (s : Shape) (y : Survey) (f : List ℕ) → Stands letter s y f → (u : ℕ) → u < cells s → cell_record s.top (file_survey s f) u ≡ cell_record s.top y u
same_record letter s y f k u l =
    let reading : (file_survey s f).reading u ≡ y.reading u = reading_filed s f u ∙ k.reading u l in
    let class : (file_survey s f).class u ≡ y.class u = class_filed s f u ∙ k.class u l in
    let right : (file_survey s f).tie u Rightward ≡ y.tie u Rightward = tie_filed s f u Rightward ∙ k.tie u l Rightward in
    let down : (file_survey s f).tie u Downward ≡ y.tie u Downward = tie_filed s f u Downward ∙ k.tie u l Downward in
    cc

-- so what reading does comes, at a layout, to the answer that is promised
pub read_accepts : (f : List ℕ) (t : Tile) (answer : Result (Draft × Letter) Fault) (t' : Tile) → ReadDoes f t answer t' → AcceptsLayouts f t answer t'
read_accepts f t answer t' does letter s y w enough e = record {
  draft = here.draft;
  answers = here.answers ∙ ap (λ (l : Letter). Ok (here.draft, l)) (same_letter here.letter letter (sym here.names ∙ stands.names));
  shape = record { rows = ap (λ (z : Shape). z.rows) here.shape; columns = ap (λ (z : Shape). z.columns) here.shape; top = ap (λ (z : Shape). z.top) here.shape };
  writes = here.writes ∙ rewritten_same (cells s) (cell_record s.top (file_survey s f)) (cell_record s.top y) t (same_record letter s y f stands);
}
  where
    stands : Stands letter s y f
    stands = layout_stands letter s y f w e

    here : ReadAs s f t answer t'
    here = whole_passes _ s f (length t) (λ z. ReadAs z f t answer t') (layout_whole letter s y f (length t) w enough stands) does
