-- A file without a fault is the layout of what it says.
use Rattle.std.proofs.Common.{◌≡◌, ℕ, ◌+◌, ◌≤◌, List, [], ◌∷◌, ◌++◌, length, drop, Ok, sym, ap, ◌∙◌, subst, arith}
use Rattle.std.proofs.lemmas.List.{drop_all, append-nil}
use Rattle.tile.specs.declared.shape.Shape.{Shape}
use Rattle.tile.specs.declared.side.Side.TheVariants.{Rightward, Downward}
use Rattle.tile.specs.Shapes.{cells}
use Rattle.tile.specs.Tiles.{Tile, Survey}
use Rattle.filter.specs.declared.states.Draft.{Draft}
use Rattle.tilefile.specs.declared.letter.Letter.{Letter}
use Rattle.tilefile.specs.declared.contents.Contents.{Contents}
use Rattle.tilefile.specs.Bytes.{byte_at}
use Rattle.tilefile.specs.Letters.{letter_byte}
use Rattle.tilefile.specs.Sections.{reading_place, ties_place}
use Rattle.tilefile.specs.Files.{ties_start, file_survey, FillDoes}
use Rattle.tilefile.specs.Layout.{two, entries, reading_entry, ties_entry, ties_section, layout, IsLayout}
use Rattle.tilefile.specs.Contents.{CheckDoes, contents_survey}
use Rattle.tilefile.proofs.Entries.{ReadingFits, TieFits}
use Rattle.tilefile.proofs.Wholes.{Whole, reading_filed, class_filed, tie_filed, accepts, some_cells}
use Rattle.tilefile.proofs.Found.{contents_found, read_shape}
use Rattle.tilefile.proofs.Fronts.{AreBytes, From, byte_on, number_on, entries_on}

-- an entry of either kind, before what follows it
reading_on : (s : Shape) (f : List ℕ) → AreBytes f → (u : ℕ) → ReadingFits s f (reading_place 11 u) → (c : List ℕ) → From f (reading_place 11 (u + 1)) c → From f (reading_place 11 u) (reading_entry (file_survey s f) u ++ c)
reading_on s f bytes u fits c rest =
    let y : Survey = file_survey s f in
    let q : ℕ = reading_place 11 u in
    let after : q + 2 + 1 ≡ reading_place 11 (u + 1) = omega arith in
    number_on f q (y.reading u) (y.class u ∷ c) bytes (omega (arith, fits.whole)) (sym (reading_filed s f u))
    (byte_on f (q + 2) (y.class u) c (omega (arith, fits.whole)) (sym (class_filed s f u)) (ap (λ k. drop k f) after ∙ rest))

tie_on : (s : Shape) (f : List ℕ) → AreBytes f → (u : ℕ) → TieFits s f (ties_place (ties_start s) u) u → (c : List ℕ) → From f (ties_place (ties_start s) (u + 1)) c → From f (ties_place (ties_start s) u) (ties_entry (file_survey s f) u ++ c)
tie_on s f bytes u fits c rest =
    let y : Survey = file_survey s f in
    let q : ℕ = ties_place (ties_start s) u in
    let after : q + 2 + 2 ≡ ties_place (ties_start s) (u + 1) = omega arith in
    number_on f q (y.tie u Rightward) (two (y.tie u Downward) ++ c) bytes (omega (arith, fits.whole)) (sym (tie_filed s f u Rightward))
    (number_on f (q + 2) (y.tie u Downward) c bytes (omega (arith, fits.whole)) (sym (tie_filed s f u Downward)) (ap (λ k. drop k f) after ∙ rest))

-- the whole file, from its end to its beginning
whole_layout : (s : Shape) (f : List ℕ) (n : ℕ) (letter : Letter) → AreBytes f → Whole s f n → byte_at f 2 ≡ letter_byte letter → f ≡ layout letter s (file_survey s f)
whole_layout s f n letter bytes w names =
    number_on f 0 1 _ bytes (omega (arith, long)) w.rule_count
    (byte_on f 2 (letter_byte letter) _ (omega (arith, long)) names
    (number_on f 3 3 _ bytes (omega (arith, long)) w.shape_count
    (number_on f 5 s.rows _ bytes (omega (arith, long)) (sym w.asked.same_rows)
    (number_on f 7 s.columns _ bytes (omega (arith, long)) (sym w.asked.same_columns)
    (number_on f 9 s.top _ bytes (omega (arith, long)) (sym w.asked.same_top)
    (number_on f 11 (cells s) _ bytes (omega (arith, long)) w.entries.readings.count readings))))))
  where
    y : Survey
    y = file_survey s f

    long : ties_start s + 6 ≤ length f
    long = let first = w.entries.ties.fit 0 (some_cells s) in omega (arith, first.whole)

    tie_entries : From f (ties_place (ties_start s) 0) (entries (ties_entry y) (cells s) ++ [])
    tie_entries = entries_on f (ties_entry y) (ties_place (ties_start s)) (cells s) [] (λ v l. tie_on s f bytes v (w.entries.ties.fit v l)) (drop_all _ f w.entries.ends)

    ties : From f (ties_start s) (ties_section s y)
    ties =
        let first : ties_start s + 2 ≡ ties_place (ties_start s) 0 = omega arith in
        number_on f (ties_start s) (cells s) (entries (ties_entry y) (cells s)) bytes (omega (arith, long)) w.entries.ties.count (ap (λ k. drop k f) first ∙ tie_entries ∙ append-nil (entries (ties_entry y) (cells s)))

    readings : From f 13 (entries (reading_entry y) (cells s) ++ ties_section s y)
    readings = entries_on f (reading_entry y) (reading_place 11) (cells s) (ties_section s y) (λ v l. reading_on s f bytes v (w.entries.readings.fit v l)) ties

-- the answer's draft has that shape, and the file says what put and tie accept
pub read_layout : (f : List ℕ) (t : Tile) (x : Contents) (d : Draft) (t' : Tile) → AreBytes f → CheckDoes f (length t) (Ok x) → FillDoes x.shape (contents_survey x) t (Ok d) t' → IsLayout f x.letter d.shape
read_layout f t x d t' bytes w fill =
    let (s, whole, says) = contents_found f (length t) x w in
    subst (λ (z : Shape). IsLayout f x.letter z) (sym (read_shape f t x d t' s w fill says)) (record {
      writable = accepts s f (omega (arith, whole.asked.same_rows, whole.asked.ranged.few_rows)) whole.entries;
      bytes = whole_layout s f (length t) x.letter bytes whole says.names;
    })
