-- The front of a file tells what checking it answers.
use Rattle.std.proofs.Common.{◌≡◌, ℕ, zero, suc, ◌+◌, ◌*◌, ◌<◌, ◌≤◌, min, List, length, take, IsOkAnd, ⊎_elim, sym, ap₂, subst, arith}
use Rattle.std.proofs.lemmas.Bool.{cases_lt}
use Rattle.std.proofs.lemmas.List.{take_all, get_or-take, length-take-le}
use Rattle.limits.specs.Limits.{most_rows}
use Rattle.limits.specs.Checking.{EachChecked, refused, passed}
use Rattle.limits.proofs.Outcomes.{mapped, surely}
use Rattle.passes.specs.Soundness.{SoundReading, SoundTies}
use Rattle.passes.specs.Writing.{weights}
use Rattle.tile.specs.declared.shape.Shape.{Shape}
use Rattle.tile.specs.Shapes.{cells, MadeOf}
use Rattle.tilefile.specs.declared.fault.Section.{Section}
use Rattle.tilefile.specs.declared.fault.Section.TheVariants as section
use Rattle.tilefile.specs.declared.fault.Flaw.TheVariants.{Count, Letter}
use Rattle.tilefile.specs.declared.fault.EntryFlaw.TheVariants as entry
use Rattle.tilefile.specs.declared.fault.Fault.{Fault}
use Rattle.tilefile.specs.Bytes.{byte_at, number_at}
use Rattle.tilefile.specs.Bounds.{NoneLonger, FrontTells}
use Rattle.tilefile.specs.Contents.{Says}
use Rattle.tilefile.specs.Files.{Asked, CellsChecked, FileChecked}
use Rattle.tilefile.specs.Letters.{NamesOne}
use Rattle.tilefile.specs.Sections.{FaultChecked, WholeChecked, CountChecked, RuleChecked, EntryChecked, at_entry, StartChecked, ShapeChecked, class_at, rows_at, columns_at, top_at, reading_place, ReadingChecked, ReadingsChecked, ties_place, TieChecked, TiesChecked, EndChecked}
use Rattle.tilefile.proofs.Accepting.{few_cells}
use Rattle.tilefile.proofs.Found.{contents_found}
use Rattle.tilefile.proofs.Sections.{shape_followed}

-- two files of m bytes or more, which begin with the same m bytes
pub record Agree (m : ℕ) (f g : List ℕ) : Type 0 where
  pub long : m ≤ length f
  pub as_long : m ≤ length g
  pub same : (p : ℕ) → p < m → byte_at f p ≡ byte_at g p

number_agrees : (m : ℕ) (f g : List ℕ) → Agree m f g → (p : ℕ) → p + 2 ≤ m → number_at f p ≡ number_at g p
number_agrees m f g a p le = ap₂ (λ (x y : ℕ). x * 256 + y) (a.same p (omega arith)) (a.same (p + 1) (omega arith))

-- ---- each check within those bytes comes to the same

whole_agrees : {Left : Fault → Type 0} {R R' : Type 0} (m : ℕ) (f g : List ℕ) → Agree m f g → (s : Section) (p size : ℕ) → p + size ≤ m → (R → R') → WholeChecked f s p size Left R → WholeChecked g s p size Left R'
whole_agrees m f g a s p size le rest w = passed (omega (arith, a.as_long)) (rest (surely (omega (arith, a.long)) w))

count_agrees : {Left : Fault → Type 0} {R R' : Type 0} (m : ℕ) (f g : List ℕ) → Agree m f g → (s : Section) (p n : ℕ) → p + 2 ≤ m → (R → R') → CountChecked f s p n Left R → CountChecked g s p n Left R'
count_agrees {Left} {R} {R'} m f g a s p n le rest =
    whole_agrees m f g a s p 2 le (λ w. subst (λ k. FaultChecked 12 Count s p (k ≡ n) Left R') (number_agrees m f g a p le) (mapped (λ e z. z) rest w))

rule_agrees : {Left : Fault → Type 0} {R R' : Type 0} (m : ℕ) (f g : List ℕ) → Agree m f g → 3 ≤ m → (R → R') → RuleChecked f 0 Left R → RuleChecked g 0 Left R'
rule_agrees {Left} {R} {R'} m f g a le rest =
    count_agrees m f g a section.Rule 0 1 (omega arith) (whole_agrees m f g a section.Rule 2 1 le
    (λ w. subst (λ b. FaultChecked 13 Letter section.Rule 2 (NamesOne b) Left R') (a.same 2 (omega arith)) (mapped (λ e z. z) rest w)))

shape_agrees : {Left : Fault → Type 0} {R R' : Type 0} (m n : ℕ) (f g : List ℕ) → Agree m f g → 11 ≤ m → (R → R') → ShapeChecked f 3 n Left R → ShapeChecked g 3 n Left R'
shape_agrees {Left} {R} {R'} m n f g a le rest =
    count_agrees m f g a section.Shape 3 3 (omega arith) (whole_agrees m f g a section.Shape 5 6 (omega arith) (λ w.
    subst (λ k. StartChecked (rows_at g 3) (columns_at g 3) k n (at_entry Left section.Shape 5) R') (number_agrees m f g a 9 (omega arith))
    (subst (λ k. StartChecked (rows_at g 3) k (top_at f 3) n (at_entry Left section.Shape 5) R') (number_agrees m f g a 7 (omega arith))
    (subst (λ k. StartChecked k (columns_at f 3) (top_at f 3) n (at_entry Left section.Shape 5) R') (number_agrees m f g a 5 (omega arith))
    (mapped (λ e z. z) (mapped (λ e z. z) rest) w)))))

reading_agrees : {Left : Fault → Type 0} {R R' : Type 0} (m : ℕ) (s : Shape) (f g : List ℕ) → Agree m f g → (q : ℕ) → q + 3 ≤ m → (R → R') → ReadingChecked s f q Left R → ReadingChecked s g q Left R'
reading_agrees {Left} {R} {R'} m s f g a q le rest =
    whole_agrees m f g a section.Readings q 3 le (λ w.
    subst (λ k. EntryChecked 5 entry.Reading (SoundReading s.top (number_at g q) k) (at_entry Left section.Readings q) R') (a.same (q + 2) (omega arith))
    (subst (λ k. EntryChecked 5 entry.Reading (SoundReading s.top k (class_at f q)) (at_entry Left section.Readings q) R') (number_agrees m f g a q (omega arith)) (mapped (λ e z. z) rest w)))

tie_agrees : {Left : Fault → Type 0} {R R' : Type 0} (m : ℕ) (s : Shape) (f g : List ℕ) → Agree m f g → (q u : ℕ) → q + 4 ≤ m → (R → R') → TieChecked s f q u Left R → TieChecked s g q u Left R'
tie_agrees {Left} {R} {R'} m s f g a q u le rest =
    whole_agrees m f g a section.Ties q 4 le (λ w.
    subst (λ k. EntryChecked 6 entry.Tie (SoundTies s u (weights (number_at g q) k)) (at_entry Left section.Ties q) R') (number_agrees m f g a (q + 2) (omega arith))
    (subst (λ k. EntryChecked 6 entry.Tie (SoundTies s u (weights k (number_at f (q + 2)))) (at_entry Left section.Ties q) R') (number_agrees m f g a q (omega arith)) (mapped (λ e z. z) rest w)))

-- the checks of each of the first n cells
each_agrees : (One One' : ℕ → Type 0 → Type 0) (Rest Rest' : Type 0) (n : ℕ) → ((u : ℕ) → u < n → (R R' : Type 0) → (R → R') → One u R → One' u R') → (Rest → Rest') → EachChecked One n Rest → EachChecked One' n Rest'
each_agrees One One' Rest Rest' zero one rest w = rest w
each_agrees One One' Rest Rest' (suc u) one rest w =
    each_agrees One One' (One u Rest) (One' u Rest') u (λ v l. one v (omega arith)) (one u (omega arith) Rest Rest' rest) w

readings_agree : {Left : Fault → Type 0} (R R' : Type 0) (m : ℕ) (s : Shape) (f g : List ℕ) → Agree m f g → (p : ℕ) → reading_place p (cells s) ≤ m → (R → R') → ReadingsChecked s f p Left R → ReadingsChecked s g p Left R'
readings_agree {Left} R R' m s f g a p le rest =
    count_agrees m f g a section.Readings p (cells s) (omega arith)
    (each_agrees (λ u. ReadingChecked s f (reading_place p u) Left) (λ u. ReadingChecked s g (reading_place p u) Left) R R' (cells s) (λ u l _ _. reading_agrees m s f g a (reading_place p u) (omega arith)) rest)

ties_agree : {Left : Fault → Type 0} (R R' : Type 0) (m : ℕ) (s : Shape) (f g : List ℕ) → Agree m f g → (p : ℕ) → ties_place p (cells s) ≤ m → (R → R') → TiesChecked s f p Left R → TiesChecked s g p Left R'
ties_agree {Left} R R' m s f g a p le rest =
    count_agrees m f g a section.Ties p (cells s) (omega arith)
    (each_agrees (λ u. TieChecked s f (ties_place p u) u Left) (λ u. TieChecked s g (ties_place p u) u Left) R R' (cells s) (λ u l _ _. tie_agrees m s f g a (ties_place p u) u (omega arith)) rest)

-- both have bytes behind the last section, so neither is accepted
end_agrees : {Left : Fault → Type 0} {R R' : Type 0} (m : ℕ) (f g : List ℕ) → Agree m f g → (p : ℕ) → p < m → EndChecked f p Left R → EndChecked g p Left R'
end_agrees m f g a p lt (refused _ numbered z) = refused (λ le. omega (arith, a.as_long, le)) numbered z
end_agrees m f g a p lt (passed le _) = absurd (omega (arith, a.long, le))

cells_agree : {Left : Fault → Type 0} (R R' : Type 0) (m : ℕ) (s : Shape) (f g : List ℕ) → Agree m f g → 15 + 7 * cells s < m → CellsChecked s f 11 Left R → CellsChecked s g 11 Left R'
cells_agree R R' m s f g a lt =
    readings_agree _ _ m s f g a 11 (omega arith) (ties_agree _ _ m s f g a (reading_place 11 (cells s)) (omega arith) (end_agrees m f g a (ties_place (reading_place 11 (cells s)) (cells s)) (omega arith)))

-- ---- the whole file

asked_few : (n : ℕ) (f : List ℕ) (s : Shape) → Asked f s → rows_at f 3 * columns_at f 3 ≤ n → cells s ≤ min n 4096
asked_few n f s asked enough =
    let same : cells s ≡ rows_at f 3 * columns_at f 3 = ap₂ (λ (a b : ℕ). a * b) asked.same_rows asked.same_columns in
    let few : cells s ≤ 4096 = few_cells s (omega (arith, asked.same_rows, asked.ranged.few_rows)) in
    omega arith

-- the shape that a file of the same front asks for
asked_agrees : (m : ℕ) (f g : List ℕ) → Agree m f g → 11 ≤ m → (s : Shape) → Asked f s → Asked g s
asked_agrees m f g a le s asked =
    subst (λ k. MadeOf most_rows (rows_at g 3) (columns_at g 3) k s) (number_agrees m f g a 9 (omega arith))
    (subst (λ k. MadeOf most_rows (rows_at g 3) k (top_at f 3) s) (number_agrees m f g a 7 (omega arith))
    (subst (λ k. MadeOf most_rows k (columns_at f 3) (top_at f 3) s) (number_agrees m f g a 5 (omega arith)) asked))

file_agrees : {Left : Fault → Type 0} (Rest Rest' : Shape → Type 0) (m n : ℕ) (f g : List ℕ) → Agree m f g → 15 + 7 * min n 4096 < m → FileChecked f n Left Rest → FileChecked g n Left Rest'
file_agrees {Left} Rest Rest' m n f g a lt = rule_agrees m f g a (omega arith) (λ w. shape_agrees m n f g a (omega arith) (λ z. z) (shape_followed f 3 n (λ e z. z) last w))
  where
    last : rows_at f 3 * columns_at f 3 ≤ n → (s : Shape) × Asked f s × CellsChecked s f 11 Left (Rest s) → (s : Shape) × Asked g s × CellsChecked s g 11 Left (Rest' s)
    last enough (s, asked, w) =
        let few = asked_few n f s asked enough in
        (s, asked_agrees m f g a (omega arith) s asked, cells_agree (Rest s) (Rest' s) m s f g a (omega arith) w)

-- a longer file and its front
front_of : (m : ℕ) (f : List ℕ) → m ≤ length f → Agree m (take m f) f
front_of m f le = record { long = omega (arith, length-take-le m f le); as_long = le; same = λ p l. get_or-take m f p 0 l }

behind_front : (m : ℕ) (f : List ℕ) → m ≤ length f → Agree m f (take m f)
behind_front m f le = record { long = le; as_long = omega (arith, length-take-le m f le); same = λ p l. sym (get_or-take m f p 0 l) }

-- what the checks of the front come to, the checks of the file come to, and the other way round; a file that is accepted is its front
pub front_tells : {Left : Fault → Type 0} (Rest : List ℕ → Shape → Type 0) (m n : ℕ) (f : List ℕ) → 15 + 7 * min n 4096 < m → FileChecked (take m f) n Left (Rest (take m f)) → FileChecked f n Left (Rest f)
front_tells {Left} Rest m n f lt w =
    ⊎_elim
    (λ (l : m < length f). file_agrees (Rest (take m f)) (Rest f) m n (take m f) f (front_of m f (omega arith)) lt w)
    (λ (l : length f ≤ m). subst (λ g. FileChecked g n Left (Rest g)) (take_all m f l) w)
    (cases_lt m (length f))

pub told_by_front : {Left : Fault → Type 0} (Rest : List ℕ → Shape → Type 0) (m n : ℕ) (f : List ℕ) → 15 + 7 * min n 4096 < m → FileChecked f n Left (Rest f) → FileChecked (take m f) n Left (Rest (take m f))
told_by_front {Left} Rest m n f lt w =
    ⊎_elim
    (λ (l : m < length f). file_agrees (Rest f) (Rest (take m f)) m n f (take m f) (behind_front m f (omega arith)) lt w)
    (λ (l : length f ≤ m). subst (λ g. FileChecked g n Left (Rest g)) (sym (take_all m f l)) w)
    (cases_lt m (length f))

-- ---- what the function promises

pub front_suffices : (m n : ℕ) → 15 + 7 * min n 4096 < m → FrontTells m n
front_suffices m n lt f answer = (front_tells (λ g s. IsOkAnd answer (Says s g)) m n f lt, told_by_front (λ g s. IsOkAnd answer (Says s g)) m n f lt)

pub none_longer : (m n : ℕ) → 15 + 7 * min n 4096 ≤ m → NoneLonger m n
none_longer m n le f x w =
    let (s, whole, says) = contents_found f n x w in
    let few : cells s ≤ 4096 = few_cells s (omega (arith, whole.asked.same_rows, whole.asked.ranged.few_rows)) in
    omega (arith, whole.entries.ends, whole.enough)
