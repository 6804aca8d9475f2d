-- The entries of a section, read one after the other.
use Rattle.std.proofs.Common.{◌≡◌, ℕ, ◌+◌, ◌<◌, ◌≤◌, List, length, Result, Ok, Err, IsErrOf, sym, ◌∙◌, subst, arith, below_more}
use Rattle.limits.specs.Checking.{passed, refused}
use Rattle.limits.proofs.Outcomes.{mapped, none_found, unrefused, same_refusal}
use Rattle.limits.proofs.Each.{each_passed, each_refused}
use Rattle.tile.specs.declared.shape.Shape.{Shape}
use Rattle.passes.specs.Soundness.{SoundReading, SoundTies}
use Rattle.tilefile.specs.Bytes.{number_at}
use Rattle.tilefile.specs.declared.fault.Section.{Section}
use Rattle.tilefile.specs.declared.fault.Section.TheVariants as section
use Rattle.tilefile.specs.declared.fault.Flaw.TheVariants.{Entry}
use Rattle.tilefile.specs.declared.fault.Fault.{Fault}
use Rattle.tilefile.specs.Sections.{fault, CountChecked, class_at, reading_place, ReadingChecked, ReadingsChecked, tie_numbers, ties_place, TieChecked, TiesChecked}
use Rattle.tile.specs.Shapes.{cells}

-- the entry at q is there, and a call would accept it
pub record ReadingFits (s : Shape) (f : List ℕ) (q : ℕ) : Type 0 where
  pub whole : q + 3 ≤ length f
  pub sound : SoundReading s.top (number_at f q) (class_at f q)

pub record TieFits (s : Shape) (f : List ℕ) (q u : ℕ) : Type 0 where
  pub whole : q + 4 ≤ length f
  pub sound : SoundTies s u (tie_numbers f q)

-- so are those of the first u cells, and the reader stands behind them
pub record ReadingsFar (s : Shape) (f : List ℕ) (p u place : ℕ) : Type 0 where
  pub here : place ≡ reading_place p u
  pub fit : (v : ℕ) → v < u → ReadingFits s f (reading_place p v)

pub record TiesFar (s : Shape) (f : List ℕ) (p u place : ℕ) : Type 0 where
  pub here : place ≡ ties_place p u
  pub fit : (v : ℕ) → v < u → TieFits s f (ties_place p v) v

-- ---- what the checks of an entry come to

-- a fault that was found is the answer
pub carried : {X Y : Type 0} (answer : Result Y Fault) (why e : Fault) → answer ≡ Err why → ◌≡◌ {A = Result X Fault} (Err why) (Err e) → answer ≡ Err e
carried answer why e same z = same ∙ same_refusal why e z

pub no_rest : {G X : Type 0} {x : X} (why : Fault) → ◌≡◌ {A = Result X Fault} (Err why) (Ok x) → G
no_rest why z = none_found why (sym z)

-- a count was as it has to be
pub counted : {Rest Rest' : Type 0} {Left : Fault → Type 0} (f : List ℕ) (s : Section) (p n : ℕ) → (Rest → Rest') → CountChecked f s p n (λ e. ◌≡◌ {A = Result (Unit {0}) Fault} (Ok tt) (Err e)) Rest → CountChecked f s p n Left Rest'
counted f s p n rest = unrefused (unrefused rest)

-- ---- Readings

reading_passes : (Left : Fault → Type 0) (s : Shape) (f : List ℕ) (q : ℕ) → ReadingFits s f q → (R : Type 0) → R → ReadingChecked s f q Left R
reading_passes Left s f q fits R rest = passed fits.whole (passed fits.sound rest)

-- one entry more
pub reading_more : (s : Shape) (f : List ℕ) (p u place place' : ℕ) → ReadingsFar s f p u place →
    ReadingChecked s f place (λ e. ◌≡◌ {A = Result (Unit {0}) Fault} (Ok tt) (Err e)) (◌≡◌ {A = Result (Unit {0}) Fault} (Ok tt) (Ok tt) × (place' ≡ place + 3)) → ReadingsFar s f p (u + 1) place'
reading_more s f p u place place' far (refused _ _ z) = none_found _ z
reading_more s f p u place place' far (passed whole (refused _ _ z)) = none_found _ z.1
reading_more s f p u place place' far (passed whole (passed sound (_, e))) = record {
  here = omega (arith, far.here);
  fit = below_more (λ v. ReadingFits s f (reading_place p v)) u far.fit (subst (λ q. ReadingFits s f q) far.here (record { whole = whole; sound = sound }));
}

-- the first entry that put would not accept
pub readings_refused : {A Y : Type 0} (Rest : Type 0) (s : Shape) (f : List ℕ) (p u place place' : ℕ) (why : Fault) (answer : Result Y Fault) → answer ≡ Err why → u < cells s →
    CountChecked f section.Readings p (cells s) (λ e. ◌≡◌ {A = Result (Unit {0}) Fault} (Ok tt) (Err e)) A → ReadingsFar s f p u place →
    ReadingChecked s f place (λ e. ◌≡◌ {A = Result (Unit {0}) Fault} (Err why) (Err e)) (◌≡◌ {A = Result (Unit {0}) Fault} (Err why) (Ok tt) × (place' ≡ place + 3)) →
    ReadingsChecked s f p (λ e. IsErrOf answer e) Rest
readings_refused Rest s f p u place place' why answer same lt count far check =
    counted f section.Readings p (cells s)
    (λ _. each_refused (λ v. ReadingChecked s f (reading_place p v) (λ e. IsErrOf answer e)) Rest (cells s) u lt (λ v l. reading_passes (λ e. IsErrOf answer e) s f (reading_place p v) (far.fit v l))
    (λ R. subst (λ q. ReadingChecked s f q (λ e. IsErrOf answer e) R) far.here (mapped (λ e. carried answer why e same) (mapped (λ e z. (z.0, carried answer why (fault section.Readings place (Entry e)) same z.1)) (λ z. no_rest why z.0)) check))) count

-- all entries were accepted
pub readings_passed : {A Y : Type 0} (Rest : Type 0) (s : Shape) (f : List ℕ) (p u place : ℕ) (answer : Result Y Fault) → cells s ≤ u →
    CountChecked f section.Readings p (cells s) (λ e. ◌≡◌ {A = Result (Unit {0}) Fault} (Ok tt) (Err e)) A → ReadingsFar s f p u place → Rest → ReadingsChecked s f p (λ e. IsErrOf answer e) Rest
readings_passed Rest s f p u place answer le count far rest =
    counted f section.Readings p (cells s)
    (λ _. each_passed (λ v. ReadingChecked s f (reading_place p v) (λ e. IsErrOf answer e)) Rest (cells s) (λ v l. reading_passes (λ e. IsErrOf answer e) s f (reading_place p v) (far.fit v (omega arith))) rest) count

-- ---- Ties

tie_passes : (Left : Fault → Type 0) (s : Shape) (f : List ℕ) (q u : ℕ) → TieFits s f q u → (R : Type 0) → R → TieChecked s f q u Left R
tie_passes Left s f q u fits R rest = passed fits.whole (passed fits.sound rest)

-- one entry more
pub tie_more : (s : Shape) (f : List ℕ) (p u place place' : ℕ) → TiesFar s f p u place →
    TieChecked s f place u (λ e. ◌≡◌ {A = Result (Unit {0}) Fault} (Ok tt) (Err e)) (◌≡◌ {A = Result (Unit {0}) Fault} (Ok tt) (Ok tt) × (place' ≡ place + 4)) → TiesFar s f p (u + 1) place'
tie_more s f p u place place' far (refused _ _ z) = none_found _ z
tie_more s f p u place place' far (passed whole (refused _ _ z)) = none_found _ z.1
tie_more s f p u place place' far (passed whole (passed sound (_, e))) = record {
  here = omega (arith, far.here);
  fit = below_more (λ v. TieFits s f (ties_place p v) v) u far.fit (subst (λ q. TieFits s f q u) far.here (record { whole = whole; sound = sound }));
}

-- the first entry that tie would not accept
pub ties_refused : {A Y : Type 0} (Rest : Type 0) (s : Shape) (f : List ℕ) (p u place place' : ℕ) (why : Fault) (answer : Result Y Fault) → answer ≡ Err why → u < cells s →
    CountChecked f section.Ties p (cells s) (λ e. ◌≡◌ {A = Result (Unit {0}) Fault} (Ok tt) (Err e)) A → TiesFar s f p u place →
    TieChecked s f place u (λ e. ◌≡◌ {A = Result (Unit {0}) Fault} (Err why) (Err e)) (◌≡◌ {A = Result (Unit {0}) Fault} (Err why) (Ok tt) × (place' ≡ place + 4)) →
    TiesChecked s f p (λ e. IsErrOf answer e) Rest
ties_refused Rest s f p u place place' why answer same lt count far check =
    counted f section.Ties p (cells s)
    (λ _. each_refused (λ v. TieChecked s f (ties_place p v) v (λ e. IsErrOf answer e)) Rest (cells s) u lt (λ v l. tie_passes (λ e. IsErrOf answer e) s f (ties_place p v) v (far.fit v l))
    (λ R. subst (λ q. TieChecked s f q u (λ e. IsErrOf answer e) R) far.here (mapped (λ e. carried answer why e same) (mapped (λ e z. (z.0, carried answer why (fault section.Ties place (Entry e)) same z.1)) (λ z. no_rest why z.0)) check))) count

-- all entries were accepted
pub ties_passed : {A Y : Type 0} (Rest : Type 0) (s : Shape) (f : List ℕ) (p u place : ℕ) (answer : Result Y Fault) → cells s ≤ u →
    CountChecked f section.Ties p (cells s) (λ e. ◌≡◌ {A = Result (Unit {0}) Fault} (Ok tt) (Err e)) A → TiesFar s f p u place → Rest → TiesChecked s f p (λ e. IsErrOf answer e) Rest
ties_passed Rest s f p u place answer le count far rest =
    counted f section.Ties p (cells s)
    (λ _. each_passed (λ v. TieChecked s f (ties_place p v) v (λ e. IsErrOf answer e)) Rest (cells s) (λ v l. tie_passes (λ e. IsErrOf answer e) s f (ties_place p v) v (far.fit v (omega arith))) rest) count
