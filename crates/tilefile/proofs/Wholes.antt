-- What a file without a fault has.
use Rattle.std.proofs.Common.{◌≡◌, ℕ, ◌+◌, ◌-◌, ◌*◌, ◌<◌, ◌≤◌, List, length, drop, ap, ap₂, sym, ◌∙◌, subst, arith}
use Rattle.std.proofs.Math.Nat.{le-mul_of_pos_right}
use Rattle.std.proofs.lemmas.List.{get_or-drop, length-drop}
use Rattle.limits.specs.Limits.{most_rows}
use Rattle.limits.specs.Checking.{refused, passed}
use Rattle.limits.proofs.Each.{each_found}
use Rattle.tile.specs.declared.shape.Shape.{Shape}
use Rattle.tile.specs.declared.side.Side.{Side}
use Rattle.tile.specs.declared.side.Side.TheVariants.{Rightward, Downward}
use Rattle.tile.specs.Shapes.{cells}
use Rattle.passes.specs.Soundness.{SoundReading, SoundTie}
use Rattle.tilefile.specs.declared.fault.Fault.{Fault}
use Rattle.tilefile.specs.Bytes.{byte_at, number_at}
use Rattle.tilefile.specs.Letters.{NamesOne}
use Rattle.tilefile.specs.Sections.{rows_at, columns_at, ShapeChecked, reading_place, class_at, ReadingChecked, ReadingsChecked, ties_place, tie_numbers, TieChecked, TiesChecked, EndChecked}
use Rattle.tilefile.specs.Survey.{entries_survey, Holds, Writable}
use Rattle.tilefile.specs.Files.{ties_start, CellsChecked, Asked, FileChecked, file_survey}
use Rattle.tilefile.proofs.Entries.{ReadingFits, TieFits}

-- a section's count, and the entries of all cells
pub record AllReadings (s : Shape) (f : List ℕ) (p : ℕ) : Type 0 where
  pub count : number_at f p ≡ cells s
  pub fit : (u : ℕ) → u < cells s → ReadingFits s f (reading_place p u)

pub record AllTies (s : Shape) (f : List ℕ) (p : ℕ) : Type 0 where
  pub count : number_at f p ≡ cells s
  pub fit : (u : ℕ) → u < cells s → TieFits s f (ties_place p u) u

-- both sections, and no byte more
pub record Entries (s : Shape) (f : List ℕ) : Type 0 where
  pub readings : AllReadings s f 11
  pub ties : AllTies s f (ties_start s)
  pub ends : length f ≤ ties_place (ties_start s) (cells s)

abbrev pub Never : (Fault → Type 0) → Type 0
Never Left = (e : Fault) → Left e → ⊥

-- ---- checks that found no fault

reading_found : (Left : Fault → Type 0) → Never Left → (s : Shape) (f : List ℕ) (q : ℕ) (R : Type 0) → ReadingChecked s f q Left R → ReadingFits s f q × R
reading_found Left never s f q R (refused _ _ z) = absurd (never _ z)
reading_found Left never s f q R (passed whole (refused _ _ z)) = absurd (never _ z.1)
reading_found Left never s f q R (passed whole (passed sound r)) = (record { whole = whole; sound = sound }, r)

tie_found : (Left : Fault → Type 0) → Never Left → (s : Shape) (f : List ℕ) (q u : ℕ) (R : Type 0) → TieChecked s f q u Left R → TieFits s f q u × R
tie_found Left never s f q u R (refused _ _ z) = absurd (never _ z)
tie_found Left never s f q u R (passed whole (refused _ _ z)) = absurd (never _ z.1)
tie_found Left never s f q u R (passed whole (passed sound r)) = (record { whole = whole; sound = sound }, r)

readings_found : (Left : Fault → Type 0) → Never Left → (s : Shape) (f : List ℕ) (p : ℕ) (R : Type 0) → ReadingsChecked s f p Left R → AllReadings s f p × R
readings_found Left never s f p R (refused _ _ z) = absurd (never _ z)
readings_found Left never s f p R (passed _ (refused _ _ z)) = absurd (never _ z)
readings_found Left never s f p R (passed _ (passed count w)) =
    let fit = each_found (λ u. ReadingChecked s f (reading_place p u) Left) (λ u. ReadingFits s f (reading_place p u)) R (cells s) (λ u. reading_found Left never s f (reading_place p u)) w in
    (record { count = count; fit = fit.0 }, fit.1)

ties_found : (Left : Fault → Type 0) → Never Left → (s : Shape) (f : List ℕ) (p : ℕ) (R : Type 0) → TiesChecked s f p Left R → AllTies s f p × R
ties_found Left never s f p R (refused _ _ z) = absurd (never _ z)
ties_found Left never s f p R (passed _ (refused _ _ z)) = absurd (never _ z)
ties_found Left never s f p R (passed _ (passed count w)) =
    let fit = each_found (λ u. TieChecked s f (ties_place p u) u Left) (λ u. TieFits s f (ties_place p u) u) R (cells s) (λ u. tie_found Left never s f (ties_place p u) u) w in
    (record { count = count; fit = fit.0 }, fit.1)

cells_found : (Left : Fault → Type 0) → Never Left → (s : Shape) (f : List ℕ) (R : Type 0) → CellsChecked s f 11 Left R → Entries s f × R
cells_found Left never s f R w =
    let first = readings_found Left never s f 11 _ w in
    let second = ties_found Left never s f (ties_start s) _ first.1 in
    end second.1 first.0 second.0
  where
    end : EndChecked f (ties_place (ties_start s) (cells s)) Left R → AllReadings s f 11 → AllTies s f (ties_start s) → Entries s f × R
    end (refused _ _ z) readings ties = absurd (never _ z)
    end (passed le r) readings ties = (record { readings = readings; ties = ties; ends = le }, r)

-- ---- the whole file

pub record Whole (s : Shape) (f : List ℕ) (n : ℕ) : Type 0 where
  pub rule_count : number_at f 0 ≡ 1
  pub letter : NamesOne (byte_at f 2)
  pub shape_count : number_at f 3 ≡ 3
  pub asked : Asked f s
  pub enough : cells s ≤ n
  pub entries : Entries s f

pub file_found : (Left : Fault → Type 0) → Never Left → (f : List ℕ) (n : ℕ) (Rest : Shape → Type 0) → FileChecked f n Left Rest → (s : Shape) × Whole s f n × Rest s
file_found Left never f n Rest w = rule w
  where
    rest : number_at f 0 ≡ 1 → NamesOne (byte_at f 2) → number_at f 3 ≡ 3 → rows_at f 3 * columns_at f 3 ≤ n → (s : Shape) × Asked f s × CellsChecked s f 11 Left (Rest s) → (s : Shape) × Whole s f n × Rest s
    rest one letter three enough (s, asked, w) =
        let found = cells_found Left never s f (Rest s) w in
        let same : cells s ≡ rows_at f 3 * columns_at f 3 = ap₂ (λ (a b : ℕ). a * b) asked.same_rows asked.same_columns in
        (s, record { rule_count = one; letter = letter; shape_count = three; asked = asked; enough = omega arith; entries = found.0 }, found.1)

    shape : number_at f 0 ≡ 1 → NamesOne (byte_at f 2) → ShapeChecked f 3 n Left ((s : Shape) × Asked f s × CellsChecked s f 11 Left (Rest s)) → (s : Shape) × Whole s f n × Rest s
    shape one letter (refused _ _ z) = absurd (never _ z)
    shape one letter (passed _ (refused _ _ z)) = absurd (never _ z)
    shape one letter (passed _ (passed _ (refused _ _ z))) = absurd (never _ z)
    shape one letter (passed _ (passed _ (passed _ (refused _ _ z)))) = absurd (never _ z.1)
    shape one letter (passed _ (passed _ (passed _ (passed _ (refused _ _ z))))) = absurd (never _ z.1)
    shape one letter (passed _ (passed three (passed _ (passed _ (passed enough w))))) = rest one letter three enough w

    rule : FileChecked f n Left Rest → (s : Shape) × Whole s f n × Rest s
    rule (refused _ _ z) = absurd (never _ z)
    rule (passed _ (refused _ _ z)) = absurd (never _ z)
    rule (passed _ (passed _ (refused _ _ z))) = absurd (never _ z)
    rule (passed _ (passed _ (passed _ (refused _ _ z)))) = absurd (never _ z)
    rule (passed _ (passed one (passed _ (passed letter w)))) = shape one letter w

-- ---- a section by itself

pub byte_in : (f : List ℕ) (k q : ℕ) → byte_at (drop k f) q ≡ byte_at f (k + q)
byte_in f k q = get_or-drop k f q 0

pub number_in : (f : List ℕ) (k q : ℕ) → number_at (drop k f) q ≡ number_at f (k + q)
number_in f k q =
    let e : k + (q + 1) ≡ k + q + 1 = omega arith in
    ap₂ (λ (a b : ℕ). a * 256 + b) (byte_in f k q) (byte_in f k (q + 1) ∙ ap (byte_at f) e)

-- the survey of a file, by places in the file
pub reading_filed : (s : Shape) (f : List ℕ) (u : ℕ) → (file_survey s f).reading u ≡ number_at f (reading_place 11 u)
reading_filed s f u = let e : 11 + reading_place 0 u ≡ reading_place 11 u = omega arith in number_in f 11 (reading_place 0 u) ∙ ap (number_at f) e

pub class_filed : (s : Shape) (f : List ℕ) (u : ℕ) → (file_survey s f).class u ≡ class_at f (reading_place 11 u)
class_filed s f u = let e : 11 + (reading_place 0 u + 2) ≡ reading_place 11 u + 2 = omega arith in byte_in f 11 (reading_place 0 u + 2) ∙ ap (byte_at f) e

pub tie_filed : (s : Shape) (f : List ℕ) (u : ℕ) (d : Side) → (file_survey s f).tie u d ≡ tie_numbers f (ties_place (ties_start s) u) d
tie_filed s f u Rightward = let e : ties_start s + ties_place 0 u ≡ ties_place (ties_start s) u = omega arith in number_in f (ties_start s) (ties_place 0 u) ∙ ap (number_at f) e
tie_filed s f u Downward =
    let e : ties_start s + (ties_place 0 u + 2) ≡ ties_place (ties_start s) u + 2 = omega arith in
    number_in f (ties_start s) (ties_place 0 u + 2) ∙ ap (number_at f) e

-- its survey is one that the calls accept
pub accepts : (s : Shape) (f : List ℕ) → s.rows ≤ most_rows → Entries s f → Writable s (file_survey s f)
accepts s f few w = record {
  few_rows = few;
  sound = record {
    readings = λ u l. subst (λ v. SoundReading s.top v ((file_survey s f).class u)) (sym (reading_filed s f u)) (subst (λ q. SoundReading s.top (number_at f (reading_place 11 u)) q) (sym (class_filed s f u)) (w.readings.fit u l).sound);
    ties = λ u l d. subst (λ k. SoundTie s u d k) (sym (tie_filed s f u d)) ((w.ties.fit u l).sound d);
  };
}

-- the sections are as long as their entries ask
pub long_readings : (s : Shape) (f : List ℕ) → 1 ≤ cells s → Entries s f → reading_place 0 (cells s) ≤ length (drop 11 f)
long_readings s f some w = let last = w.readings.fit (cells s - 1) (omega arith) in omega (arith, last.whole, length-drop 11 f)

pub long_ties : (s : Shape) (f : List ℕ) → 1 ≤ cells s → Entries s f → ties_place 0 (cells s) ≤ length (drop (ties_start s) f)
long_ties s f some w = let last = w.ties.fit (cells s - 1) (omega arith) in omega (arith, last.whole, length-drop (ties_start s) f)

pub some_cells : (s : Shape) → 1 ≤ cells s
some_cells s = let grows = le-mul_of_pos_right {m = s.columns} s.rows (omega (arith, s.wide.0)) in omega (arith, s.tall.0, grows)

-- what the first pass answers
abbrev pub SectionsAre : List ℕ → Shape → List ℕ → List ℕ → Shape → Type 0
SectionsAre f x readings ties s = (x ≡ s) × (readings ≡ drop 11 f) × (ties ≡ drop (ties_start s) f)

-- is what a file has
pub contents_hold : (f : List ℕ) (n : ℕ) (x : Shape) (readings ties : List ℕ) → FileChecked f n (λ e. ⊥) (SectionsAre f x readings ties) →
    record { whole : Holds x readings ties; writable : Writable x (entries_survey readings ties) }
contents_hold f n x readings ties w = held (file_found (λ e. ⊥) (λ e z. z) f n (SectionsAre f x readings ties) w)
  where
    of_file : (s : Shape) → Whole s f n → record { whole : Holds s (drop 11 f) (drop (ties_start s) f); writable : Writable s (file_survey s f) }
    of_file s w = let here : ties_start s + 0 ≡ ties_start s = omega arith in record {
      whole = record {
        readings_count = number_in f 11 0 ∙ w.entries.readings.count;
        each_reading = long_readings s f (some_cells s) w.entries;
        ties_count = number_in f (ties_start s) 0 ∙ ap (number_at f) here ∙ w.entries.ties.count;
        each_tie = long_ties s f (some_cells s) w.entries;
      };
      writable = accepts s f (omega (arith, w.asked.same_rows, w.asked.ranged.few_rows)) w.entries;
    }

    held : (s : Shape) × Whole s f n × SectionsAre f x readings ties s → record { whole : Holds x readings ties; writable : Writable x (entries_survey readings ties) }
    held (s, whole, says) =
        subst (λ (y : Shape). record { whole : Holds y readings ties; writable : Writable y (entries_survey readings ties) }) (sym says.0)
        (subst (λ (r : List ℕ). record { whole : Holds s r ties; writable : Writable s (entries_survey r ties) }) (sym says.1)
        (subst (λ (k : List ℕ). record { whole : Holds s (drop 11 f) k; writable : Writable s (entries_survey (drop 11 f) k) }) (sym says.2) (of_file s whole)))
