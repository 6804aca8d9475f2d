-- Samples that are checked and written into a draft, from the contracts of the calls.
use Rattle.std.proofs.Common.{◌≡◌, ℕ, ◌+◌, ◌*◌, ◌<◌, ◌≤◌, cond, eqb, List, ◌∷◌, length, take, Ok, Err, Result, sym, refl, ap, ◌∙◌, subst, ap₂, ⊎_elim, arith}
use Rattle.std.proofs.lemmas.List.{get_or-take, get_or_past, length-take-le, length-set}
use Rattle.std.proofs.lemmas.Bool.{cond_both, cases_lt, eqb-true, eqb-false}
use Rattle.limits.specs.declared.refusal.Refusal.{Refusal}
use Rattle.limits.specs.Checking.{passed}
use Rattle.limits.proofs.Outcomes.{either, mapped, surely, same_refusal}
use Rattle.limits.proofs.Each.{each_passed, each_refused}
use Rattle.price.specs.Rules.{Lawful}
use Rattle.price.specs.Kinds.{absolute}
use Rattle.price.specs.Kept.{absolute_lawful}
use Rattle.tile.specs.declared.shape.Shape.{Shape}
use Rattle.tile.specs.declared.side.Side.{Side}
use Rattle.tile.specs.declared.side.Side.TheVariants.{Rightward, Downward}
use Rattle.tile.specs.Shapes.{cells}
use Rattle.tile.specs.Tiles.{Tile, Survey}
use Rattle.passes.specs.Soundness.{SoundReading, SoundTies, Sound}
use Rattle.passes.specs.Writing.{weights}
use Rattle.filter.specs.declared.states.Draft.{Draft}
use Rattle.filter.specs.declared.answers.Refused.{Refused}
use Rattle.filter.specs.Checks.{Inside, place}
use Rattle.filter.specs.Calls.{PutDoes, TieDoes}
use Rattle.filter.specs.Runs.{put_at, tied_at, updated, draft, Lent, Run, GoesOn}
use Rattle.filter.proofs.Keeps.{every_run}
use Rattle.filter.proofs.Places.{place_of, inside_of}
use Rattle.filter.proofs.RunsKept.{not_both, sound_slice}
use Rattle.solve.specs.declared.samples.Sample.{Sample}
use Rattle.solve.specs.Surveying.{At, sample, ties, sampled, SampleChecked, SamplesChecked, SoundSample, WrittenTo, SampleReady}
use Rattle.solve.proofs.Steps.{goes}

-- ---- one cell, by its row and column

spot : (s : Shape) (u row column : ℕ) → At s u row column → place s row column ≡ u
spot s u row column at = ap₂ (λ (a b : ℕ). a * s.columns + b) at.row at.column ∙ place_of s u

within : (s : Shape) (u row column : ℕ) → At s u row column → u < cells s → Inside s row column
within s u row column at l = let here = inside_of s u l in (omega (arith, at.row, here.0), omega (arith, at.column, here.1))

-- the records of a run are sound
pub sound_of : (d : Draft) (t : Tile) (y : Survey) → WrittenTo d t y → Sound d.shape 0 t
sound_of d t y w =
    let lawful : Lawful (absolute 1) = absolute_lawful 1 (omega arith, omega arith) in
    let k = w.led (absolute 1) lawful in
    sound_slice every_run (absolute 1) lawful d.shape k.history (draft d) t k.run

module _ (d : Draft) (t : Tile) (y : Survey) (u row column : ℕ) (at : At d.shape u row column) (inside : u < cells d.shape) (w : WrittenTo d t y) (answer : Result Draft (Refused Draft)) (t' : Tile) where
  put_led : (v q : ℕ) → SoundReading d.shape.top v q → PutDoes d t row column v q answer t' → GoesOn (draft d) t draft draft (put_at (place d.shape row column) v q) answer t' →
      (answer ≡ Ok d) × WrittenTo d t' (updated (put_at u v q) y)
  put_led v q ok does on =
      let a = surely ok (surely (within d.shape u row column at inside) (surely (sound_of d t y w) (surely w.whole does))) in (
        a.0,
        record {
          whole = subst (λ (z : Tile). cells d.shape ≤ length z) (sym a.1) (simp length-set w.whole);
          led = λ rule lawful. (let k = w.led rule lawful in record {
            history = put_at u v q ∷ k.history;
            same_survey = ap (λ (z : Survey). updated (put_at u v q) z) k.same_survey;
            run = subst (λ (p : ℕ). Run rule d.shape (put_at p v q ∷ k.history) (draft d) (take (cells d.shape) t')) (spot d.shape u row column at)
                (goes draft draft answer d a.0 (on rule d.shape k.history (take (cells d.shape) t) (take (cells d.shape) t') k.run (Lent.all w.whole)));
          });
        },
      )

  tie_led : (x : Side → ℕ) → SoundTies d.shape u x → TieDoes d t row column x answer t' → GoesOn (draft d) t draft draft (tied_at (place d.shape row column) x) answer t' →
      (answer ≡ Ok d) × WrittenTo d t' (updated (tied_at u x) y)
  tie_led x ok does on =
      let here : SoundTies d.shape (place d.shape row column) x = subst (λ (p : ℕ). SoundTies d.shape p x) (sym (spot d.shape u row column at)) ok in
      let a = surely here (surely (within d.shape u row column at inside) (surely (sound_of d t y w) (surely w.whole does))) in (
        a.0,
        record {
          whole = subst (λ (z : Tile). cells d.shape ≤ length z) (sym a.1) (simp length-set w.whole);
          led = λ rule lawful. (let k = w.led rule lawful in record {
            history = tied_at u x ∷ k.history;
            same_survey = ap (λ (z : Survey). updated (tied_at u x) z) k.same_survey;
            run = subst (λ (p : ℕ). Run rule d.shape (tied_at p x ∷ k.history) (draft d) (take (cells d.shape) t')) (spot d.shape u row column at)
                (goes draft draft answer d a.0 (on rule d.shape k.history (take (cells d.shape) t) (take (cells d.shape) t') k.run (Lent.all w.whole)));
          });
        },
      )

-- ---- the survey that samples are

pub no_ties : (d : Side) → 0 ≡ weights 0 0 d
no_ties Rightward = refl
no_ties Downward = refl

-- one sample more
one_sampled : (f : Sample → ℕ) (xs : List Sample) (i u : ℕ) → i < length xs → cond (eqb i u) (f (sample xs i)) (f (sample (take i xs) u)) ≡ f (sample (take (i + 1) xs) u)
one_sampled f xs i u l =
    cond_both (eqb i u) (f (sample xs i)) (f (sample (take i xs) u)) (λ z. z ≡ f (sample (take (i + 1) xs) u))
    (λ e. subst (λ (v : ℕ). f (sample xs i) ≡ f (sample (take (i + 1) xs) v)) (eqb-true i u e) (ap f (sym (get_or-take (i + 1) xs i _ (omega arith)))))
    (λ e.
    ap f
    (⊎_elim
    (λ (lt : u < i). get_or-take i xs u _ lt ∙ sym (get_or-take (i + 1) xs u _ (omega arith)))
    (λ (le : i ≤ u).
    get_or_past (take i xs) u _ (omega (arith, length-take-le i xs (omega arith))) ∙
    sym (get_or_past (take (i + 1) xs) u _ (omega (arith, length-take-le (i + 1) xs (omega arith), eqb-false i u e))))
    (cases_lt u i)))

more_sampled : (xs : List Sample) (i : ℕ) → i < length xs →
    updated (tied_at i (ties (sample xs i))) (updated (put_at i (sample xs i).reading (sample xs i).class) (sampled (take i xs))) ≡ sampled (take (i + 1) xs)
more_sampled xs i l = λ j. record {
  reading = λ u. one_sampled (λ x. x.reading) xs i u l j;
  class = λ u. one_sampled (λ x. x.class) xs i u l j;
  tie = λ u d. one_sampled (λ x. ties x d) xs i u l j;
}

-- ---- the sample of one cell

module _ (d : Draft) (t : Tile) (xs : List Sample) (u row column : ℕ) (x : Sample) (ready : SampleReady d t xs u) (at : At d.shape u row column) (is : x ≡ sample xs u) (answer : Result Draft (Refused Draft)) (t' : Tile)
    (does : PutDoes d t row column x.reading x.class answer t') (on : GoesOn (draft d) t draft draft (put_at (place d.shape row column) x.reading x.class) answer t') where
  sound_here : SoundSample d.shape u x
  sound_here = subst (λ (z : Sample). SoundSample d.shape u z) (sym is) (ready.all.sound u ready.inside)

  pub put_here : (answer ≡ Ok d) × WrittenTo d t' (updated (put_at u x.reading x.class) (sampled (take u xs)))
  put_here = put_led d t (sampled (take u xs)) u row column at ready.inside ready.before answer t' x.reading x.class sound_here.reading does on

  pub tied_here : (d' : Draft) (tied : Result Draft (Refused Draft)) (t'' : Tile) → answer ≡ Ok d' → TieDoes d' t' row column (ties x) tied t'' →
      GoesOn (draft d') t' draft draft (tied_at (place d'.shape row column) (ties x)) tied t'' → (tied ≡ Ok d) × WrittenTo d t'' (sampled (take (u + 1) xs))
  tied_here d' tied t'' e tie next =
      let same : d' ≡ d = cc (sym e ∙ put_here.0) in
      let y : Survey = updated (put_at u x.reading x.class) (sampled (take u xs)) in
      let k = subst (λ (z : Draft). TieDoes z t' row column (ties x) tied t'' → GoesOn (draft z) t' draft draft (tied_at (place z.shape row column) (ties x)) tied t'' → (tied ≡ Ok d) × WrittenTo d t'' (updated (tied_at u (ties x)) y)) (sym same)
      (tie_led d t' y u row column at ready.inside put_here.1 tied t'' (ties x) sound_here.ties) tie next in
      let more : updated (tied_at u (ties x)) y ≡ sampled (take (u + 1) xs)
      = subst (λ (z : Sample). updated (tied_at u (ties z)) (updated (put_at u z.reading z.class) (sampled (take u xs))) ≡ sampled (take (u + 1) xs)) (sym is) (more_sampled xs u (omega (arith, ready.inside, ready.all.enough))) in
      (k.0, subst (λ (z : Survey). WrittenTo d t'' z) more k.1)

-- ---- the checks of the samples

nothing : {G : Type 0} (e : Refusal) → ◌≡◌ {A = Result (Unit {0}) Refusal} (Ok tt) (Err e) → G
nothing e z = not_both (Ok tt) tt e refl z

pub sample_passed : (s : Shape) (xs : List Sample) (u : ℕ) (x : Sample) → x ≡ sample xs u → SampleChecked s u x (λ e. ◌≡◌ {A = Result (Unit {0}) Refusal} (Ok tt) (Err e)) (◌≡◌ {A = Result (Unit {0}) Refusal} (Ok tt) (Ok tt)) → SoundSample s u (sample xs u)
sample_passed s xs u x is w = subst (λ (z : Sample). SoundSample s u z) is (either nothing (λ reading. either nothing (λ tied _. record { reading = reading; ties = tied })) w)

pub samples_refused : (s : Shape) (xs : List Sample) (n i : ℕ) (x : Sample) (why : Refusal) (answer : Result (Unit {0}) Refusal) → answer ≡ Err why → i < n → ((u : ℕ) → u < i → SoundSample s u (sample xs u)) → x ≡ sample xs i →
    SampleChecked s i x (λ e. ◌≡◌ {A = Result (Unit {0}) Refusal} (Err why) (Err e)) (◌≡◌ {A = Result (Unit {0}) Refusal} (Err why) (Ok tt)) → SamplesChecked s xs n (λ e. answer ≡ Err e) (answer ≡ Ok tt)
samples_refused s xs n i x why answer same l sound is w =
    let left : (e : Refusal) → ◌≡◌ {A = Result (Unit {0}) Refusal} (Err why) (Err e) → answer ≡ Err e = λ e z. same ∙ same_refusal why e z in
    each_refused (λ u. SampleChecked s u (sample xs u) (λ e. answer ≡ Err e)) (answer ≡ Ok tt) n i l (λ u lt R r. passed (sound u lt).reading (passed (sound u lt).ties r))
    (λ R. mapped left (mapped left (λ z. not_both (Err why) tt why z refl))
    (subst (λ (z : Sample). SampleChecked s i z (λ e. ◌≡◌ {A = Result (Unit {0}) Refusal} (Err why) (Err e)) (◌≡◌ {A = Result (Unit {0}) Refusal} (Err why) (Ok tt))) is w))

pub samples_passed : (s : Shape) (xs : List Sample) (n : ℕ) → ((u : ℕ) → u < n → SoundSample s u (sample xs u)) → SamplesChecked s xs n (λ e. ◌≡◌ {A = Result (Unit {0}) Refusal} (Ok tt) (Err e)) (◌≡◌ {A = Result (Unit {0}) Refusal} (Ok tt) (Ok tt))
samples_passed s xs n sound = each_passed (λ u. SampleChecked s u (sample xs u) (λ e. ◌≡◌ {A = Result (Unit {0}) Refusal} (Ok tt) (Err e))) (◌≡◌ {A = Result (Unit {0}) Refusal} (Ok tt) (Ok tt)) n
    (λ u lt R r. passed (sound u lt).reading (passed (sound u lt).ties r)) refl
