-- What checks come to.
use Rattle.std.proofs.Common.{◌≡◌, ℕ, Ok, Err, Result, IsErrAnd, ap, ◌∙◌, arith}
use Rattle.std.proofs.lemmas.Result.{err_from_is_err_and}
use Rattle.limits.specs.Checking.{CheckedBy, refused, passed}
use Rattle.limits.specs.declared.refusal.Refusal.{Refusal}

-- a check, by its two outcomes
pub either : {E : Type 0} {of : E → ℕ} {n : ℕ} {e : E} {Holds Rest G : Type 0} {Left : E → Type 0} → ((why : E) → Left why → G) → (Holds → Rest → G) → CheckedBy of n e Holds Left Rest → G
either {e = e} refusal rest (refused _ _ z) = refusal e z
either refusal rest (passed h r) = rest h r

-- the same check with other outcomes
pub mapped : {E : Type 0} {of : E → ℕ} {n : ℕ} {e : E} {Holds Rest Rest' : Type 0} {Left Left' : E → Type 0} → ((why : E) → Left why → Left' why) → (Rest → Rest') →
    CheckedBy of n e Holds Left Rest → CheckedBy of n e Holds Left' Rest'
mapped {e = e} left rest (refused fails numbered z) = refused fails numbered (left e z)
mapped left rest (passed h r) = passed h (rest r)

-- the same check with other outcomes; what it is accepted for is at hand
pub followed : {E : Type 0} {of : E → ℕ} {n : ℕ} {e : E} {Holds Rest Rest' : Type 0} {Left Left' : E → Type 0} → ((Holds → ⊥) → (why : E) → Left why → Left' why) → (Holds → Rest → Rest') →
    CheckedBy of n e Holds Left Rest → CheckedBy of n e Holds Left' Rest'
followed {e = e} left rest (refused fails numbered z) = refused fails numbered (left fails e z)
followed left rest (passed h r) = passed h (rest h r)

-- a check that holds comes to the rest
pub surely : {E : Type 0} {of : E → ℕ} {n : ℕ} {e : E} {Holds Rest : Type 0} {Left : E → Type 0} → Holds → CheckedBy of n e Holds Left Rest → Rest
surely h (refused fails _ _) = absurd (fails h)
surely h (passed _ r) = r

-- what the checks of a call come to
abbrev pub Outcome : Type 0
Outcome = Result (Unit {0}) Refusal

-- where they passed, no refusal is left to explain
pub none_found : {G X E : Type 0} {x : X} (why : E) → ◌≡◌ {A = Result X E} (Ok x) (Err why) → G
none_found why e = let z : ◌≡◌ {A = ℕ} 0 1 = cc in absurd (omega arith)

pub unrefused : {E : Type 0} {of : E → ℕ} {n : ℕ} {e : E} {Holds Rest Rest' X : Type 0} {x : X} {Left' : E → Type 0} → (Rest → Rest') →
    CheckedBy of n e Holds (λ why. ◌≡◌ {A = Result X E} (Ok x) (Err why)) Rest → CheckedBy of n e Holds Left' Rest'
unrefused rest = mapped (λ why z. none_found why z) rest

-- what the exit of a `?` returns
pub broke : {X E : Type 0} (answer : Result X E) (why : E) → IsErrAnd answer (λ e. e ≡ why) → answer ≡ Err why
broke answer why b = let p = err_from_is_err_and answer b in p.1 ∙ ap Err p.2

-- the same refusal, of another answer
pub same_refusal : {X Y E : Type 0} (why e : E) → ◌≡◌ {A = Result X E} (Err why) (Err e) → ◌≡◌ {A = Result Y E} (Err why) (Err e)
same_refusal why e z = let same : why ≡ e = cc in ap Err same

-- the cell that they found
pub same_found : {X : Type 0} {x y : X} → ◌≡◌ {A = Result X Refusal} (Ok x) (Ok y) → x ≡ y
same_found e = cc
