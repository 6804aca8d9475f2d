-- From what checking a file answers to what solving it does.
use Rattle.std.proofs.Common.{◌≡◌, ℕ, ◌≤◌, List, length, Ok, Err, Result, refl, sym, ap, ◌∙◌, subst, arith}
use Rattle.limits.specs.Checking.{passed}
use Rattle.limits.proofs.Outcomes.{mapped, either, none_found}
use Rattle.tile.specs.declared.shape.Shape.{Shape}
use Rattle.tile.specs.Shapes.{cells}
use Rattle.tile.specs.Tiles.{Tile, Survey}
use Rattle.solve.specs.Solving.{PastKept}
use Rattle.tilefile.specs.declared.contents.Contents.{Contents}
use Rattle.tilefile.specs.declared.fault.Fault.{Fault}
use Rattle.tilefile.specs.Letters.{letter_rule}
use Rattle.tilefile.specs.Contents.{Says, CheckDoes, contents_survey}
use Rattle.tilefile.proofs.Found.{file_mapped, said_filed}
use Rattle.report.specs.declared.refusing.FileRefusal.{FileRefusal}
use Rattle.report.specs.declared.refusing.FileRefusal.TheVariants.{File}
use Rattle.report.specs.declared.solving.Solution.{Solution}
use Rattle.report.specs.Solving.{SolvedAs, RecordsSolved, FileSolved, RoomChecked, SolveFileDoes}

-- a check, by what its function answers
pub room : (s : Shape) (n : ℕ) → RoomChecked s n (λ e. ◌≡◌ {A = Result (Unit {0}) FileRefusal} (Ok tt) (Err e)) (◌≡◌ {A = Result (Unit {0}) FileRefusal} (Ok tt) (Ok tt)) → cells s ≤ n
room s n w = either (λ e z. none_found e z) (λ h _. h) w

-- the fault that was found, and the refusal of a check, are what is answered
pub same_fault : {X Y : Type 0} (why e : Fault) (answer : Result Y FileRefusal) → answer ≡ Err (File why) → ◌≡◌ {A = Result X Fault} (Err why) (Err e) → answer ≡ Err (File e)
same_fault why e answer same z = let here : why ≡ e = cc z in same ∙ ap (λ (k : Fault). Err (File k)) here

pub same_case : {X Y : Type 0} (why e : FileRefusal) (answer : Result Y FileRefusal) → answer ≡ Err why → ◌≡◌ {A = Result X FileRefusal} (Err why) (Err e) → answer ≡ Err e
same_case why e answer same z = let here : why ≡ e = cc z in same ∙ ap (λ (k : FileRefusal). Err k) here

-- what a file that was checked comes to
abbrev pub Outcome : (Shape → Tile → Tile → Type 0) → List ℕ → Tile → ℕ → Result Solution FileRefusal → Tile → Shape → Type 0
Outcome leaves f t n answer t' s = RoomChecked s n (λ e. (answer ≡ Err e) × (t' ≡ t)) (FileSolved leaves s f t answer t')

-- a fault
pub file_faulty : (leaves : Shape → Tile → Tile → Type 0) (f : List ℕ) (t : Tile) (n : ℕ) (why : Fault) (answer : Result Solution FileRefusal) → answer ≡ Err (File why) → CheckDoes f (length t) (Err why) → SolveFileDoes leaves f t n answer t
file_faulty leaves f t n why answer same w = file_mapped (λ s. ⊥) (Outcome leaves f t n answer t) f (length t) (λ e z. (same_fault why e answer same z, refl)) (λ s z. absurd z) w

-- too few entries of workspace
pub file_cramped : (leaves : Shape → Tile → Tile → Type 0) (f : List ℕ) (t : Tile) (n : ℕ) (x : Contents) (why : FileRefusal) (answer : Result Solution FileRefusal) → answer ≡ Err why →
    RoomChecked x.shape n (λ e. ◌≡◌ {A = Result (Unit {0}) FileRefusal} (Err why) (Err e)) (◌≡◌ {A = Result (Unit {0}) FileRefusal} (Err why) (Ok tt)) → CheckDoes f (length t) (Ok x) → SolveFileDoes leaves f t n answer t
file_cramped leaves f t n x why answer same room w =
    file_mapped (λ s. Says s f x) (Outcome leaves f t n answer t) f (length t) (λ e z. none_found e z)
    (λ s says. subst (λ (z : Shape). Outcome leaves f t n answer t z) says.shape (mapped (λ e z. (same_case why e answer same z, refl)) (λ z. none_found _ (sym z)) room)) w

-- a solution, for the shape that the file asks for
pub solution_filed : (leaves : Shape → Tile → Tile → Type 0) (f : List ℕ) (t : Tile) (x : Contents) (solution : Solution) (t' : Tile) → SolvedAs (letter_rule x.letter x.shape.top) x.shape (contents_survey x) t' solution →
    RecordsSolved (letter_rule x.letter x.shape.top) leaves x.shape (contents_survey x) solution.rounds t t' → PastKept (cells x.shape) t t' → (s : Shape) → Says s f x → FileSolved leaves s f t (Ok solution) t'
solution_filed leaves f t x solution t' solved records kept s says = record {
  solution = solution;
  answers = refl;
  letter = x.letter;
  names = says.names;
  solved = subst (λ (y : Survey). SolvedAs (letter_rule x.letter s.top) s y t' solution) (said_filed s f x says)
      (subst (λ (z : Shape). SolvedAs (letter_rule x.letter z.top) z (contents_survey x) t' solution) says.shape solved);
  records = subst (λ (y : Survey). RecordsSolved (letter_rule x.letter s.top) leaves s y solution.rounds t t') (said_filed s f x says)
      (subst (λ (z : Shape). RecordsSolved (letter_rule x.letter z.top) leaves z (contents_survey x) solution.rounds t t') says.shape records);
  kept = subst (λ (z : Shape). PastKept (cells z) t t') says.shape kept;
}

pub file_solved : (leaves : Shape → Tile → Tile → Type 0) (f : List ℕ) (t : Tile) (n : ℕ) (x : Contents) (solution : Solution) (t' : Tile) → cells x.shape ≤ n → CheckDoes f (length t) (Ok x) →
    SolvedAs (letter_rule x.letter x.shape.top) x.shape (contents_survey x) t' solution → RecordsSolved (letter_rule x.letter x.shape.top) leaves x.shape (contents_survey x) solution.rounds t t' → PastKept (cells x.shape) t t' →
    SolveFileDoes leaves f t n (Ok solution) t'
file_solved leaves f t n x solution t' room w solved records kept = file_mapped (λ s. Says s f x) (Outcome leaves f t n (Ok solution) t') f (length t) (λ e z. none_found e z) end w
  where
    end : (s : Shape) → Says s f x → Outcome leaves f t n (Ok solution) t' s
    end s says =
        let same : cells x.shape ≡ cells s = ap cells says.shape in
        passed (omega arith) (solution_filed leaves f t x solution t' solved records kept s says)
