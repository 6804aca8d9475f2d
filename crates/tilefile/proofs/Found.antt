-- From what checking a file answers to what reading it does.
use Rattle.std.proofs.Common.{◌≡◌, ℕ, ◌*◌, ◌≤◌, List, length, Result, Ok, Err, refl, sym, ap, ap₂, ◌∙◌, subst, arith}
use Rattle.limits.specs.declared.refusal.Refusal.{Refusal}
use Rattle.limits.proofs.Outcomes.{none_found, surely}
use Rattle.tile.specs.declared.shape.Shape.{Shape}
use Rattle.tile.specs.Shapes.{cells}
use Rattle.tile.specs.Tiles.{Tile, Survey}
use Rattle.passes.specs.Writing.{rewritten}
use Rattle.filter.specs.declared.states.Draft.{Draft}
use Rattle.tilefile.specs.declared.contents.Contents.{Contents}
use Rattle.tilefile.specs.declared.fault.Fault.{Fault}
use Rattle.tilefile.specs.declared.letter.Letter.{Letter}
use Rattle.tilefile.specs.Sections.{rows_at, columns_at}
use Rattle.tilefile.specs.Survey.{entries_survey, cell_record}
use Rattle.tilefile.specs.Files.{CellsChecked, Asked, FileChecked, file_survey, FilledBy, FillDoes, ReadAs, ReadDoes, LedTo}
use Rattle.tilefile.specs.Contents.{Says, CheckDoes, contents_survey}
use Rattle.tilefile.proofs.Entries.{carried}
use Rattle.tilefile.proofs.Sections.{rule_mapped, shape_mapped, shape_followed, cells_mapped}
use Rattle.tilefile.proofs.Wholes.{Whole, file_found}

-- with other outcomes
pub file_mapped : {Left Left' : Fault → Type 0} (Rest Rest' : Shape → Type 0) (f : List ℕ) (n : ℕ) → ((e : Fault) → Left e → Left' e) → ((s : Shape) → Rest s → Rest' s) → FileChecked f n Left Rest → FileChecked f n Left' Rest'
file_mapped Rest Rest' f n left rest = rule_mapped f 0 left (shape_mapped f 3 n left (λ (s, asked, cells). (s, asked, cells_mapped _ _ s f 11 left (rest s) cells)))

pub file_followed : {Left Left' : Fault → Type 0} (Rest Rest' : Shape → Type 0) (f : List ℕ) (n : ℕ) → ((e : Fault) → Left e → Left' e) → ((s : Shape) → cells s ≤ n → Rest s → Rest' s) → FileChecked f n Left Rest → FileChecked f n Left' Rest'
file_followed {Left} {Left'} Rest Rest' f n left rest = rule_mapped f 0 left (shape_followed f 3 n left last)
  where
    last : rows_at f 3 * columns_at f 3 ≤ n → (s : Shape) × Asked f s × CellsChecked s f 11 Left (Rest s) → (s : Shape) × Asked f s × CellsChecked s f 11 Left' (Rest' s)
    last enough (s, asked, w) =
        let same : cells s ≡ rows_at f 3 * columns_at f 3 = ap₂ (λ (a b : ℕ). a * b) asked.same_rows asked.same_columns in
        (s, asked, cells_mapped _ _ s f 11 left (rest s (omega arith)) w)

-- contents say what the file does
pub contents_found : (f : List ℕ) (n : ℕ) (x : Contents) → CheckDoes f n (Ok x) → (s : Shape) × Whole s f n × Says s f x
contents_found f n x w = file_found (λ e. ◌≡◌ {A = Result Contents Fault} (Ok x) (Err e)) (λ e z. none_found e z) f n (λ s. Says s f x) w

-- there are records enough for them
pub contents_enough : (f : List ℕ) (n : ℕ) (x : Contents) → CheckDoes f n (Ok x) → cells x.shape ≤ n
contents_enough f n x w = let (s, whole, says) = contents_found f n x w in subst (λ (y : Shape). cells y ≤ n) (sym says.shape) whole.enough

-- so that filling is accepted
pub fill_accepted : (f : List ℕ) (t : Tile) (x : Contents) (answer : Result Draft Refusal) (t' : Tile) → CheckDoes f (length t) (Ok x) → FillDoes x.shape (contents_survey x) t answer t' → FilledBy x.shape (contents_survey x) t answer t'
fill_accepted f t x answer t' w fill = surely (contents_enough f (length t) x w) fill

-- the draft that it makes has the file's shape
pub read_shape : (f : List ℕ) (t : Tile) (x : Contents) (d : Draft) (t' : Tile) (s : Shape) → CheckDoes f (length t) (Ok x) → FillDoes x.shape (contents_survey x) t (Ok d) t' → Says s f x → d.shape ≡ s
read_shape f t x d t' s w fill says =
    let by = fill_accepted f t x (Ok d) t' w fill in
    let same : by.draft ≡ d = cc by.answers in
    ap (λ (z : Draft). z.shape) (sym same) ∙ by.shape ∙ says.shape

-- the survey that they are is the file's
pub said_filed : (s : Shape) (f : List ℕ) (x : Contents) → Says s f x → contents_survey x ≡ file_survey s f
said_filed s f x says = ap₂ entries_survey says.readings says.ties

-- ---- what read_tile answers

pub read_refused : (f : List ℕ) (t : Tile) (why : Fault) (answer : Result (Draft × Letter) Fault) → answer ≡ Err why → CheckDoes f (length t) (Err why) → ReadDoes f t answer t
read_refused f t why answer same w = file_mapped (λ s. ⊥) (λ s. ReadAs s f t answer t) f (length t) (λ e z. (carried answer why e same z, refl)) (λ s z. absurd z) w

pub read_accepted : (f : List ℕ) (t : Tile) (x : Contents) (d : Draft) (t' : Tile) → CheckDoes f (length t) (Ok x) → FillDoes x.shape (contents_survey x) t (Ok d) t' → ReadDoes f t (Ok (d, x.letter)) t'
read_accepted f t x d t' w fill = file_mapped (λ s. Says s f x) (λ s. ReadAs s f t (Ok (d, x.letter)) t') f (length t) (λ e z. none_found e z) read w
  where
    read : (s : Shape) → Says s f x → ReadAs s f t (Ok (d, x.letter)) t'
    read s says =
        let by = fill_accepted f t x (Ok d) t' w fill in
        record {
          draft = d;
          letter = x.letter;
          answers = refl;
          shape = read_shape f t x d t' s w fill says;
          names = says.names;
          writes = by.writes ∙ ap₂ (λ (z : Shape) (y : Survey). rewritten (cells z) (cell_record z.top y) t) says.shape (said_filed s f x says);
        }

pub read_led : (f : List ℕ) (t : Tile) (x : Contents) (d : Draft) (t' : Tile) → CheckDoes f (length t) (Ok x) → FillDoes x.shape (contents_survey x) t (Ok d) t' → LedTo d (contents_survey x) t' → LedTo d (file_survey d.shape f) t'
read_led f t x d t' w fill led =
    let (s, whole, says) = contents_found f (length t) x w in
    let shape = read_shape f t x d t' s w fill says in
    subst (λ (y : Survey). LedTo d y t') (said_filed s f x says ∙ ap (λ (z : Shape). file_survey z f) (sym shape)) led
