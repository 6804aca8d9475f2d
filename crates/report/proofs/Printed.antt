-- From what solving a file does to what is printed for it.
use Rattle.std.proofs.Common.{◌≡◌, ℕ, ◌*◌, ◌≤◌, List, ◌++◌, length, Ok, Err, Result, IfOk, sym, ap, ap₂, ◌∙◌, subst, arith}
use Rattle.std.specs.Prelude.{codes}
use Rattle.limits.specs.Checking.{refused, passed}
use Rattle.limits.proofs.Outcomes.{either, none_found}
use Rattle.tile.specs.declared.shape.Shape.{Shape}
use Rattle.tile.specs.Shapes.{cells}
use Rattle.tile.specs.Tiles.{Tile}
use Rattle.tilefile.specs.declared.fault.Fault.{Fault}
use Rattle.tilefile.specs.Faults.{fault_text}
use Rattle.tilefile.specs.Letters.{letter_rule}
use Rattle.tilefile.specs.Files.{file_survey}
use Rattle.tilefile.proofs.Found.{file_followed}
use Rattle.tilefile.proofs.Wholes.{file_found}
use Rattle.report.specs.declared.refusing.FileRefusal.{FileRefusal}
use Rattle.report.specs.declared.refusing.FileRefusal.TheVariants.{File}
use Rattle.report.specs.declared.solving.Solution.{Solution}
use Rattle.report.specs.Refusing.{file_refusal_text}
use Rattle.report.specs.Solving.{SolvedAs, FileSolved, SolveFileDoes}
use Rattle.report.specs.Printing.{solution_text}
use Rattle.report.specs.Answering.{Printed, Answers}
use Rattle.report.proofs.Filed.{Outcome}

-- an answer's promise, for another one
pub ok_mapped : {X E : Type 0} {P Q : X → Type 0} (answer : Result X E) → ((x : X) → P x → Q x) → IfOk answer P → IfOk answer Q
ok_mapped (Ok x) f p = f x p
ok_mapped (Err e) f p = tt

-- a file that was solved
solved_found : (leaves : Shape → Tile → Tile → Type 0) (f : List ℕ) (t : Tile) (n : ℕ) (x : Solution) (t' : Tile) (s : Shape) → Outcome leaves f t n (Ok x) t' s → FileSolved leaves s f t (Ok x) t'
solved_found leaves f t n x t' s check = either (λ e z. none_found _ z.0) (λ _ a. a) check

same_solution : (x y : Solution) → ◌≡◌ {A = Result Solution FileRefusal} (Ok x) (Ok y) → x ≡ y
same_solution x y e = cc

-- has as many records as heights to print
pub solution_fits : (leaves : Shape → Tile → Tile → Type 0) (f : List ℕ) (t : Tile) (n : ℕ) (x : Solution) (t' : Tile) → SolveFileDoes leaves f t n (Ok x) t' → x.rows * x.columns ≤ length t'
solution_fits leaves f t n x t' w =
    let (s, whole, check) = file_found (λ e. (◌≡◌ {A = Result Solution FileRefusal} (Ok x) (Err (File e))) × (t' ≡ t)) (λ e z. none_found _ z.0) f (length t) (Outcome leaves f t n (Ok x) t') w in
    let a = solved_found leaves f t n x t' s check in
    let here = same_solution x a.solution a.answers in
    let same : x.rows * x.columns ≡ cells s = ap (λ (y : Solution). y.rows * y.columns) here ∙ ap₂ (λ (i j : ℕ). i * j) a.solved.rows a.solved.columns in
    omega (arith, whole.enough, a.kept.long)

-- and prints it
pub solution_printed : (leaves : Shape → Tile → Tile → Type 0) (f : List ℕ) (t : Tile) (n : ℕ) (x : Solution) (t' : Tile) (text : List ℕ) → SolveFileDoes leaves f t n (Ok x) t' → text ≡ solution_text x t' → Answers f (length t) text
solution_printed leaves f t n x t' text w same = file_followed (Outcome leaves f t n (Ok x) t') (λ s. Printed s f text) f (length t) (λ e z. none_found _ z.0) printed w
  where
    printed : (s : Shape) → cells s ≤ length t → Outcome leaves f t n (Ok x) t' s → Printed s f text
    printed s enough check =
        let a = solved_found leaves f t n x t' s check in
        record {
          solution = x;
          tile = t';
          whole = omega (arith, a.kept.long);
          letter = a.letter;
          names = a.names;
          solved = subst (λ y. SolvedAs (letter_rule a.letter s.top) s (file_survey s f) t' y) (sym (same_solution x a.solution a.answers)) a.solved;
          prints = same;
        }

-- a file that was refused, with workspace enough for its records, has the fault that is printed
pub refusal_printed : (leaves : Shape → Tile → Tile → Type 0) (f : List ℕ) (t : Tile) (n : ℕ) (why : FileRefusal) (t' : Tile) (text : List ℕ) → length t ≤ n → SolveFileDoes leaves f t n (Err why) t' → text ≡ file_refusal_text why ++ codes "\n" → Answers f (length t) text
refusal_printed leaves f t n why t' text room w same = file_followed (Outcome leaves f t n (Err why) t') (λ s. Printed s f text) f (length t) fault never w
  where
    fault : (e : Fault) → (◌≡◌ {A = Result Solution FileRefusal} (Err why) (Err (File e))) × (t' ≡ t) → text ≡ fault_text e ++ codes "\n"
    fault e z = let here : why ≡ File e = cc z.0 in same ∙ ap (λ k. file_refusal_text k ++ codes "\n") here

    never : (s : Shape) → cells s ≤ length t → Outcome leaves f t n (Err why) t' s → Printed s f text
    never s enough (refused fails _ _) = absurd (fails (omega arith))
    never s enough (passed _ a) = none_found _ (sym a.answers)
