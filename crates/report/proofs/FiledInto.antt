-- From what checking a file answers to what solving it into a list of heights does.
use Rattle.std.proofs.Common.{◌≡◌, ℕ, ◌≤◌, List, length, Ok, Err, Result, refl, sym, ap, subst, ◌∙◌, arith}
use Rattle.limits.specs.Checking.{passed}
use Rattle.limits.proofs.Outcomes.{mapped, either, none_found}
use Rattle.tile.specs.declared.shape.Shape.{Shape}
use Rattle.tile.specs.Shapes.{cells}
use Rattle.tile.specs.Tiles.{Tile}
use Rattle.passes.specs.Copying.{copied}
use Rattle.solve.specs.Solving.{PastKept}
use Rattle.tilefile.specs.declared.contents.Contents.{Contents}
use Rattle.tilefile.specs.declared.fault.Fault.{Fault}
use Rattle.tilefile.specs.Letters.{letter_rule}
use Rattle.tilefile.specs.Contents.{Says, CheckDoes, contents_survey}
use Rattle.tilefile.proofs.Found.{file_mapped}
use Rattle.report.specs.declared.refusing.FileRefusal.{FileRefusal}
use Rattle.report.specs.declared.refusing.FileRefusal.TheVariants.{File}
use Rattle.report.specs.declared.solving.Solution.{Solution}
use Rattle.report.specs.Solving.{SolvedAs, RecordsSolved, RoomChecked}
use Rattle.report.specs.Copying.{LeavesBoth, SolvedInto, PlacesChecked, SolveFileIntoDoes}
use Rattle.report.proofs.Filed.{same_fault, same_case, solution_filed}

-- a check of places, by what its function answers
pub placed : (s : Shape) (n : ℕ) → PlacesChecked s n (λ e. ◌≡◌ {A = Result (Unit {0}) FileRefusal} (Ok tt) (Err e)) (◌≡◌ {A = Result (Unit {0}) FileRefusal} (Ok tt) (Ok tt)) → cells s ≤ n
placed s n w = either (λ e z. none_found e z) (λ h _. h) w

-- what a file that was checked comes to
abbrev pub Outcome : (Shape → Tile → Tile → Type 0) → List ℕ → Tile → ℕ → List ℕ → Result Solution FileRefusal → Tile → List ℕ → Shape → Type 0
Outcome leaves f t n hs answer t' hs' s =
    PlacesChecked s (length hs) (LeavesBoth t hs answer t' hs') (RoomChecked s n (LeavesBoth t hs answer t' hs') (SolvedInto leaves s f t hs answer t' hs'))

-- nothing written
both_left : (t : Tile) (hs : List ℕ) (why e : FileRefusal) (answer : Result Solution FileRefusal) → answer ≡ Err why → ◌≡◌ {A = Result (Unit {0}) FileRefusal} (Err why) (Err e) → LeavesBoth t hs answer t hs e
both_left t hs why e answer same z = record { answers = same_case why e answer same z; tile = refl; list = refl }

-- a fault
pub into_faulty : (leaves : Shape → Tile → Tile → Type 0) (f : List ℕ) (t : Tile) (n : ℕ) (hs : List ℕ) (why : Fault) (answer : Result Solution FileRefusal) → answer ≡ Err (File why) → CheckDoes f (length t) (Err why) →
    SolveFileIntoDoes leaves f t n hs answer t hs
into_faulty leaves f t n hs why answer same w = file_mapped (λ s. ⊥) (Outcome leaves f t n hs answer t hs) f (length t) left (λ s z. absurd z) w
  where
    left : (e : Fault) → ◌≡◌ {A = Result Contents Fault} (Err why) (Err e) → LeavesBoth t hs answer t hs (File e)
    left e z = record { answers = same_fault why e answer same z; tile = refl; list = refl }

-- too few places
pub into_unplaced : (leaves : Shape → Tile → Tile → Type 0) (f : List ℕ) (t : Tile) (n : ℕ) (hs : List ℕ) (x : Contents) (why : FileRefusal) (answer : Result Solution FileRefusal) → answer ≡ Err why →
    PlacesChecked x.shape (length hs) (λ e. ◌≡◌ {A = Result (Unit {0}) FileRefusal} (Err why) (Err e)) (◌≡◌ {A = Result (Unit {0}) FileRefusal} (Err why) (Ok tt)) → CheckDoes f (length t) (Ok x) →
    SolveFileIntoDoes leaves f t n hs answer t hs
into_unplaced leaves f t n hs x why answer same places w =
    file_mapped (λ s. Says s f x) (Outcome leaves f t n hs answer t hs) f (length t) (λ e z. none_found e z)
    (λ s says. subst (λ (z : Shape). Outcome leaves f t n hs answer t hs z) says.shape (mapped (λ e z. both_left t hs why e answer same z) (λ z. none_found _ (sym z)) places)) w

-- too few entries of workspace
pub into_cramped : (leaves : Shape → Tile → Tile → Type 0) (f : List ℕ) (t : Tile) (n : ℕ) (hs : List ℕ) (x : Contents) (why : FileRefusal) (answer : Result Solution FileRefusal) → answer ≡ Err why → cells x.shape ≤ length hs →
    RoomChecked x.shape n (λ e. ◌≡◌ {A = Result (Unit {0}) FileRefusal} (Err why) (Err e)) (◌≡◌ {A = Result (Unit {0}) FileRefusal} (Err why) (Ok tt)) → CheckDoes f (length t) (Ok x) → SolveFileIntoDoes leaves f t n hs answer t hs
into_cramped leaves f t n hs x why answer same places room w =
    file_mapped (λ s. Says s f x) (Outcome leaves f t n hs answer t hs) f (length t) (λ e z. none_found e z)
    (λ s says. subst (λ (z : Shape). Outcome leaves f t n hs answer t hs z) says.shape (passed places (mapped (λ e z. both_left t hs why e answer same z) (λ z. none_found _ (sym z)) room))) w

-- a solution
pub into_solved : (leaves : Shape → Tile → Tile → Type 0) (f : List ℕ) (t : Tile) (n : ℕ) (hs : List ℕ) (x : Contents) (solution : Solution) (t' : Tile) (hs' : List ℕ) → cells x.shape ≤ length hs → cells x.shape ≤ n →
    CheckDoes f (length t) (Ok x) → SolvedAs (letter_rule x.letter x.shape.top) x.shape (contents_survey x) t' solution →
    RecordsSolved (letter_rule x.letter x.shape.top) leaves x.shape (contents_survey x) solution.rounds t t' → PastKept (cells x.shape) t t' → hs' ≡ copied (cells x.shape) t' hs →
    SolveFileIntoDoes leaves f t n hs (Ok solution) t' hs'
into_solved leaves f t n hs x solution t' hs' places room w solved records kept writes = file_mapped (λ s. Says s f x) (Outcome leaves f t n hs (Ok solution) t' hs') f (length t) (λ e z. none_found e z) end w
  where
    end : (s : Shape) → Says s f x → Outcome leaves f t n hs (Ok solution) t' hs' s
    end s says =
        let same : cells x.shape ≡ cells s = ap cells says.shape in
        passed (omega arith) (passed (omega arith) (record {
          solved = solution_filed leaves f t x solution t' solved records kept s says;
          writes = writes ∙ ap (λ k. copied k t' hs) same;
        }))
