-- Samples checked and solved, from what their checks, start, the writing and solve do.
use Rattle.std.proofs.Common.{◌≡◌, ℕ, ◌*◌, ◌<◌, ◌≤◌, List, [], length, take, Ok, Err, Result, IsOkAnd, sym, refl, ap, ◌∙◌, subst, ap₂, arith}
use Rattle.std.proofs.lemmas.List.{get_or-take}
use Rattle.limits.specs.Limits.{most_rows}
use Rattle.limits.specs.declared.refusal.Refusal.{Refusal}
use Rattle.limits.specs.Checking.{CheckedBy, passed, RefusedAs}
use Rattle.limits.proofs.Outcomes.{either, mapped, surely, none_found}
use Rattle.limits.proofs.Each.{each_mapped, each_passed, each_found}
use Rattle.price.specs.Rules.{Rule, Lawful}
use Rattle.tile.specs.declared.shape.Shape.{Shape}
use Rattle.tile.specs.Records.{stored_tie}
use Rattle.tile.specs.Shapes.{cells, Ranged, MadeOf}
use Rattle.tile.specs.Tiles.{Tile, Survey, blank, survey, heights}
use Rattle.passes.specs.Writing.{fresh}
use Rattle.passes.proofs.Rewrites.{rewritten_length}
use Rattle.filter.specs.declared.states.Draft.{Draft}
use Rattle.filter.specs.declared.states.Level.{Level}
use Rattle.filter.specs.Checks.{StartChecked}
use Rattle.filter.specs.Calls.{StartDoes, Started}
use Rattle.filter.specs.Laws.{Recorded}
use Rattle.filter.specs.Runs.{draft, Begins}
use Rattle.filter.proofs.Keeps.{every_run, same_shape}
use Rattle.filter.proofs.Resurveyed.{lowest_resurveyed}
use Rattle.solve.specs.declared.samples.Sample.{Sample}
use Rattle.solve.specs.declared.samples.SamplesRefusal.{SamplesRefusal}
use Rattle.solve.specs.declared.samples.SamplesRefusal.TheVariants.{FewSamples, Call}
use Rattle.solve.specs.Solving.{RoundsChecked, Ready, Solved, EndsRuns}
use Rattle.solve.specs.Surveying.{sample, sampled, samples_refusal_number, SampleChecked, SamplesChecked, SurveyChecked, SoundSample, AllSound, WrittenTo, SampledAndSolved, SamplesDo}
use Rattle.solve.proofs.Written.{sound_of, no_ties}

abbrev Unanswered : Type 0
Unanswered = Result (Unit {0}) SamplesRefusal

-- ---- the checks one after the other

pub same_call : (why e : Refusal) (answer : Unanswered) → answer ≡ Err (Call why) → ◌≡◌ {A = Result (Unit {0}) Refusal} (Err why) (Err e) → answer ≡ Err (Call e)
same_call why e answer same z = let here : why ≡ e = cc z in same ∙ ap (λ (k : Refusal). Err (Call k)) here

-- over the shape that was asked for
pub survey_made : (rows columns top records : ℕ) (xs : List Sample) (n greatest : ℕ) (s : Shape) (answer : Unanswered) → StartChecked rows columns top records (λ e. ◌≡◌ {A = Result Shape Refusal} (Ok s) (Err e)) (MadeOf most_rows rows columns top s) →
    CheckedBy samples_refusal_number 0 FewSamples (cells s ≤ length xs) (λ e. answer ≡ Err e) (SamplesChecked s xs (cells s) (λ e. answer ≡ Err (Call e)) (RoundsChecked s n greatest (λ e. answer ≡ Err (Call e)) (answer ≡ Ok tt))) →
    SurveyChecked rows columns top records xs n greatest (λ e. answer ≡ Err e) (λ _. answer ≡ Ok tt)
survey_made rows columns top records xs n greatest s answer w rest = mapped (λ e z. none_found e z) (mapped (λ e z. none_found e z) (λ made. (s, made, rest))) w

-- from what the check of the samples answers
pub samples_then : (s : Shape) (xs : List Sample) (n greatest : ℕ) (found : Result (Unit {0}) Refusal) (answer : Unanswered) → SamplesChecked s xs (cells s) (λ e. found ≡ Err e) (found ≡ Ok tt) →
    ((e : Refusal) → found ≡ Err e → answer ≡ Err (Call e)) → (found ≡ Ok tt → RoundsChecked s n greatest (λ e. answer ≡ Err (Call e)) (answer ≡ Ok tt)) →
    SamplesChecked s xs (cells s) (λ e. answer ≡ Err (Call e)) (RoundsChecked s n greatest (λ e. answer ≡ Err (Call e)) (answer ≡ Ok tt))
samples_then s xs n greatest found answer w left rest =
    each_mapped (λ u. SampleChecked s u (sample xs u) (λ e. found ≡ Err e)) (λ u. SampleChecked s u (sample xs u) (λ e. answer ≡ Err (Call e))) (found ≡ Ok tt) (RoundsChecked s n greatest (λ e. answer ≡ Err (Call e)) (answer ≡ Ok tt)) (cells s)
    (λ _ _ _ r. mapped left (mapped left r)) rest w

-- and from what the check of entries and rule does
pub rounds_then : (s : Shape) (n greatest : ℕ) (found : Result (Unit {0}) Refusal) (answer : Unanswered) → RoundsChecked s n greatest (λ e. found ≡ Err e) (found ≡ Ok tt) → ((e : Refusal) → found ≡ Err e → answer ≡ Err (Call e)) → (found ≡ Ok tt → answer ≡ Ok tt) →
    RoundsChecked s n greatest (λ e. answer ≡ Err (Call e)) (answer ≡ Ok tt)
rounds_then s n greatest found answer w left rest = mapped left (mapped left rest) w

-- ---- what they come to

pub survey_refused : (rule : Rule) (leaves : Shape → Tile → Tile → Type 0) (rows columns top : ℕ) (xs : List Sample) (t : Tile) (n : ℕ) (why : SamplesRefusal) (answer : Result Level SamplesRefusal) → answer ≡ Err why →
    SurveyChecked rows columns top (length t) xs n rule.greatest (λ e. ◌≡◌ {A = Unanswered} (Err why) (Err e)) (λ _. ◌≡◌ {A = Unanswered} (Err why) (Ok tt)) → SamplesDo rule leaves rows columns top xs t n answer t
survey_refused rule leaves rows columns top xs t n why answer same w = mapped call (mapped call (λ (s, made, v). (
  s,
  made,
  mapped left
      (each_mapped (λ u. SampleChecked s u (sample xs u) (λ e. ◌≡◌ {A = Unanswered} (Err why) (Err (Call e)))) (λ u. SampleChecked s u (sample xs u) (λ e. RefusedAs t answer t (Call e)))
      (RoundsChecked s n rule.greatest (λ e. ◌≡◌ {A = Unanswered} (Err why) (Err (Call e))) (◌≡◌ {A = Unanswered} (Err why) (Ok tt)))
      (RoundsChecked s n rule.greatest (λ e. RefusedAs t answer t (Call e)) (IsOkAnd answer (λ l. SampledAndSolved rule leaves s (sampled (take (cells s) xs)) l t))) (cells s)
      (λ _ _ _ r. mapped call (mapped call r)) (mapped call (mapped call (λ z. none_found why (sym z))))) v,
))) w
  where
    left : (e : SamplesRefusal) → ◌≡◌ {A = Unanswered} (Err why) (Err e) → RefusedAs t answer t e
    left e z = let here : why ≡ e = cc z in (same ∙ ap (λ (k : SamplesRefusal). Err k) here, refl)

    call : (e : Refusal) → ◌≡◌ {A = Unanswered} (Err why) (Err (Call e)) → RefusedAs t answer t (Call e)
    call e z = left (Call e) z

-- every check passed
pub record Passed (rows columns top records : ℕ) (xs : List Sample) (n greatest : ℕ) : Type 0 where
  pub ranged : Ranged most_rows rows columns top
  pub whole : rows * columns ≤ records
  pub shape : Shape
  pub made : MadeOf most_rows rows columns top shape
  pub all : AllSound shape xs
  pub room : cells shape ≤ n
  pub reach : shape.top ≤ greatest

pub survey_passed : (rows columns top records : ℕ) (xs : List Sample) (n greatest : ℕ) → SurveyChecked rows columns top records xs n greatest (λ e. ◌≡◌ {A = Unanswered} (Ok tt) (Err e)) (λ _. ◌≡◌ {A = Unanswered} (Ok tt) (Ok tt)) →
    Passed rows columns top records xs n greatest
survey_passed rows columns top records xs n greatest = either no (λ ranged. either no (λ whole (s, made, v). either (λ e z. none_found e z) (λ enough each.
    let a = each_found (λ u. SampleChecked s u (sample xs u) (λ e. ◌≡◌ {A = Unanswered} (Ok tt) (Err (Call e)))) (λ u. SoundSample s u (sample xs u)) (RoundsChecked s n greatest (λ e. ◌≡◌ {A = Unanswered} (Ok tt) (Err (Call e))) (◌≡◌ {A = Unanswered} (Ok tt) (Ok tt))) (cells s)
    (λ u R. either no (λ reading. either no (λ tied r. (record { reading = reading; ties = tied }, r)))) each in
    either no (λ room. either no (λ reach _. record { ranged = ranged; whole = whole; shape = s; made = made; all = record { enough = enough; sound = a.0 }; room = room; reach = reach })) a.1) v))
  where
    no : {G : Type 0} (e : Refusal) → ◌≡◌ {A = Unanswered} (Ok tt) (Err (Call e)) → G
    no e z = none_found (Call e) z

-- ---- a draft of the samples, solved

module _ (rows columns top : ℕ) (xs : List Sample) (t : Tile) (n greatest : ℕ) (p : Passed rows columns top (length t) xs n greatest) (answer : Result Draft Refusal) (t₁ : Tile) (d : Draft) (start : StartDoes rows columns top t answer t₁) (is : answer ≡ Ok d) where
  started : Started rows columns top t answer t₁
  started = surely p.whole (surely p.ranged start)

  made : MadeOf most_rows rows columns top d.shape
  made = let here : started.draft ≡ d = cc (sym started.answers ∙ is) in subst (λ (z : Draft). MadeOf most_rows rows columns top z.shape) here started.shape

  same : p.shape ≡ d.shape
  same = sym (same_shape p.shape d.shape (record { rows = p.made.same_rows ∙ sym made.same_rows; columns = p.made.same_columns ∙ sym made.same_columns; top = p.made.same_top ∙ sym made.same_top }))

  pub first_written : Begins answer t₁ → WrittenTo d t₁ (sampled [])
  first_written begins =
      let long : length t₁ ≡ length t = ap length started.writes ∙ rewritten_length (λ _. fresh top) t (rows * columns) p.whole in
      let count : cells d.shape ≡ rows * columns = ap₂ (λ (a b : ℕ). a * b) made.same_rows made.same_columns in
      record {
        whole = omega (arith, long, count, p.whole);
        led = λ rule lawful. record { history = []; same_survey = λ j. record { reading = λ u. 0; class = λ u. 0; tie = λ u k. no_ties k j }; run = begins d is rule };
      }

  pub all_sound : AllSound d.shape xs
  all_sound = subst (λ (s : Shape). AllSound s xs) same p.all

  module _ (d₂ : Draft) (t₂ : Tile) (same_d : d₂ ≡ d) (w : WrittenTo d t₂ (sampled (take (cells d.shape) xs))) where
    pub survey_ready : (rule : Rule) → greatest ≡ rule.greatest → Ready rule d₂.shape 0 t₂ n
    survey_ready rule e = subst (λ (z : Draft). Ready rule z.shape 0 t₂ n) (sym same_d) (record {
      fit = record { whole = w.whole; sound = sound_of d t₂ (sampled (take (cells d.shape) xs)) w };
      room = subst (λ (s : Shape). cells s ≤ n) same p.room;
      reach = subst (λ (k : ℕ). d.shape.top ≤ k) e (subst (λ (s : Shape). s.top ≤ greatest) same p.reach);
    })

    pub survey_solved : (rule : Rule) → Lawful rule → greatest ≡ rule.greatest → (leaves : Shape → Tile → Tile → Type 0) (l : Level) (t₃ : Tile) → Solved rule leaves d₂.shape t₂ l t₃ → EndsRuns rule d₂ t₂ l t₃ → SamplesDo rule leaves rows columns top xs t n (Ok l) t₃
    survey_solved rule lawful e leaves l t₃ solved ends =
        let r = subst (λ (z : Draft). Ready rule z.shape 0 t₂ n) same_d (survey_ready rule e) in
        passed p.ranged (passed p.whole (
          d.shape,
          made,
          passed all_sound.enough
              (each_passed (λ u. SampleChecked d.shape u (sample xs u) (λ e. RefusedAs t (Ok l) t₃ (Call e)))
              (RoundsChecked d.shape n rule.greatest (λ e. RefusedAs t (Ok l) t₃ (Call e)) (SampledAndSolved rule leaves d.shape (sampled (take (cells d.shape) xs)) l t₃)) (cells d.shape)
              (λ u lt R k. passed (all_sound.sound u lt).reading (passed (all_sound.sound u lt).ties k)) (passed r.room (passed r.reach end))),
        ))
      where
        y : Survey
        y = sampled (take (cells d.shape) xs)

        own : Solved rule leaves d.shape t₂ l t₃
        own = subst (λ (z : Draft). Solved rule leaves z.shape t₂ l t₃) same_d solved

        recorded : Recorded d.shape y t₂
        recorded =
            let k = w.led rule lawful in
            let held = (every_run rule lawful d.shape k.history (draft d) (take (cells d.shape) t₂) k.run).records_hold_the_survey in
            let at = λ (u : ℕ) (lt : u < cells d.shape). get_or-take (cells d.shape) t₂ u blank lt in
            record {
              reading = λ u lt. ap (λ c. c.reading) (sym (at u lt)) ∙ held.reading u lt ∙ ap (λ (z : Survey). z.reading u) k.same_survey;
              class = λ u lt. ap (λ c. c.class) (sym (at u lt)) ∙ held.class u lt ∙ ap (λ (z : Survey). z.class u) k.same_survey;
              tie = λ u s lt. ap (λ c. stored_tie c s) (sym (at u lt)) ∙ held.tie u s lt ∙ ap (λ (z : Survey). z.tie u s) k.same_survey;
            }

        end : SampledAndSolved rule leaves d.shape y l t₃
        end =
            let k = w.led rule lawful in
            let f = subst (λ (z : Draft). EndsRuns rule z t₂ l t₃) same_d ends k.history k.run in
            record {
              drafted = t₂;
              recorded = recorded;
              undone = sound_of d t₂ y w;
              solved = own;
              lowest_cheapest = lowest_resurveyed rule d.shape (survey t₂) y (heights t₃) (record { reading = recorded.reading; class = recorded.class; tie = recorded.tie }) own.lowest_cheapest;
              run = record { history = f.history; same_survey = f.same_survey ∙ k.same_survey; finished = f.finished; run = f.run };
            }
