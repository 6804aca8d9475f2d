-- The steps of solve, from the contracts of the calls.
use Rattle.std.proofs.Common.{◌≡◌, ℕ, suc, ◌+◌, ◌≤◌, ◌∷◌, ◌++◌, take, IsOk, IfOk, IsOkAnd, Ok, Err, Result, sym, refl, ap, ◌∙◌, subst, add-one}
use Rattle.limits.specs.declared.refusal.Refusal.{Refusal}
use Rattle.limits.specs.Checking.{passed}
use Rattle.limits.proofs.Outcomes.{either, mapped, followed, surely}
use Rattle.price.specs.Rules.{Rule, Lawful}
use Rattle.tile.specs.declared.bracket.Bracket.{Bracket}
use Rattle.tile.specs.declared.shape.Shape.{Shape}
use Rattle.tile.specs.Halving.{RoundsDue}
use Rattle.tile.specs.Shapes.{cells}
use Rattle.tile.specs.Tiles.{Tile, Survey, survey}
use Rattle.flow.specs.Points.{FourPoints}
use Rattle.passes.specs.Soundness.{Sound}
use Rattle.filter.specs.declared.states.Draft.{Draft}
use Rattle.filter.specs.declared.states.Rounding.{Rounding}
use Rattle.filter.specs.declared.states.Level.{Level}
use Rattle.filter.specs.declared.answers.Refused.{Refused}
use Rattle.filter.specs.declared.answers.Rounded.{Rounded}
use Rattle.filter.specs.Checks.{TileChecked}
use Rattle.filter.specs.Calls.{LeavesAll, BeginDoes, Begun, HalvedBy, RoundedBy, RoundDoes, SurveyKept, FinishedBy, FinishDoes}
use Rattle.filter.specs.Runs.{begun, rounded, finished, History, surveyed, State, draft, rounding, level, added, next, Lent, Run, GoesOn, GoesOnUnder}
use Rattle.filter.proofs.Keeps.{every_run}
use Rattle.filter.proofs.Keeping.{Held, draft_held, round_held, ends_at, lowest_held}
use Rattle.filter.proofs.RunsKept.{not_both, run_shape, sound_slice, lent_whole}
use Rattle.solve.specs.Solving.{HalvedTimes, none, more, RoundsChecked, Fit, Ready, Onward, Opened, RoundReady, RoundDone, RoundsReady, RoundsDone, RoundsBehind, Closed, Solved, EndsRuns, FinishedRun, SolveDoes, SolvesRuns}

-- an accepted call goes on as its answer says
pub goes : {S X : Type 0} {rule : Rule} {s : Shape} {h : History} (back : S → State) (on : X → State) {a : _} (answer : Result X (Refused S)) (v : X) {r : Tile} → answer ≡ Ok v →
    Run rule s (added a answer ++ h) (next back on answer) r → Run rule s (a ∷ h) (on v) r
goes {S} {X} {rule} {s} {h} back on {a} answer v {r} e run = subst (λ z. Run rule s (added a z ++ h) (next back on z) r) e run

pub is_ok : {X E : Type 0} (answer : Result X E) (x : X) → answer ≡ Ok x → IsOk answer
is_ok answer x e = subst (λ z. IsOk z) (sym e) refl

-- of an answer that is there, what holds of its value
pub okay : {X E : Type 0} (answer : Result X E) (P Q : X → Type 0) → ((x : X) → answer ≡ Ok x → Q x) → IsOkAnd answer P → IsOkAnd answer Q
okay (Ok x) P Q f p = f x refl
okay (Err e) P Q f p = p

-- ---- begin

pub begun_by : (d : Draft) (t : Tile) (answer : Result Rounding (Refused Draft)) → Fit d.shape 0 t → BeginDoes d t answer → Begun d answer
begun_by d t answer fit does = surely fit.sound (surely fit.whole does)

pub opened : (d : Draft) (t : Tile) (answer : Result Rounding (Refused Draft)) (x : Rounding) → Fit d.shape 0 t → BeginDoes d t answer → GoesOn (draft d) t draft rounding begun answer t → answer ≡ Ok x → Opened d t x
opened d t answer x fit does on e =
    let b = begun_by d t answer fit does in
    let same : b.rounding ≡ x = cc (sym b.answers ∙ e) in
    record {
      shape = subst (λ (v : Rounding). v.shape ≡ d.shape) same b.shape;
      done = subst (λ (v : Rounding). v.done ≡ 0) same b.done;
      onward = λ rule h run. record {
        history = begun ∷ h;
        same_survey = refl;
        run = goes draft rounding answer x e (on rule d.shape h (take (cells d.shape) t) (take (cells d.shape) t) run (Lent.all fit.whole));
      };
    }

-- ---- one round

pub rounded_by : (rule : Rule) (leaves : Shape → Tile → Tile → Type 0) (x : Rounding) (t : Tile) (n : ℕ) (answer : Result Rounded (Refused Rounding)) (t' : Tile) → RoundReady rule x t n →
    RoundDoes rule leaves x t n answer t' → RoundedBy rule leaves x t answer t'
rounded_by rule leaves x t n answer t' r does = surely r.left (surely r.ready.reach (surely r.ready.room (surely r.ready.fit.sound (surely r.ready.fit.whole does))))

pub round_done : (rule : Rule) (leaves : Shape → Tile → Tile → Type 0) (x : Rounding) (t : Tile) (n : ℕ) (answer : Result Rounded (Refused Rounding)) (a : Rounded) (t' : Tile) → RoundReady rule x t n →
    RoundDoes rule leaves x t n answer t' → GoesOnUnder rule (rounding x) t rounding (λ a. rounding a.state) rounded answer t' → IfOk answer (λ a. Sound a.state.shape a.state.done t') → answer ≡ Ok a →
    RoundDone rule leaves x t a.state t'
round_done rule leaves x t n answer a t' r does on sound e =
    let b = rounded_by rule leaves x t n answer t' r does in
    let whole : ◌≡◌ {A = Rounded} (record { state = b.next; done = x.done + 1 }) a = cc (sym b.answers ∙ e) in
    let same : b.next ≡ a.state = ap (λ (z : Rounded). z.state) whole in
    let shape : a.state.shape ≡ x.shape = subst (λ (v : Rounding). v.shape ≡ x.shape) same b.shape in
    let done : a.state.done ≡ x.done + 1 = subst (λ (v : Rounding). v.done ≡ x.done + 1) same b.done in
    record {
      shape = shape;
      done = done;
      halved = b.halved;
      sound = subst (λ (z : Shape). Sound z (x.done + 1) t') shape (subst (λ (k : ℕ). Sound a.state.shape k t') done (subst (λ (z : Result Rounded (Refused Rounding)). IfOk z (λ w. Sound w.state.shape w.state.done t')) e sound));
      onward = λ h run. record {
        history = rounded ∷ h;
        same_survey = refl;
        run = goes rounding (λ (a : Rounded). rounding a.state) answer a e (on x.shape h (take (cells x.shape) t) (take (cells x.shape) t') run (Lent.all r.ready.fit.whole));
      };
    }

-- ---- the loop of rounds

kept_none : (s : Shape) (t : Tile) → SurveyKept s t t
kept_none s t = record { long = refl; same = refl; past = λ _ _. refl }

kept_more : (s : Shape) (t u v : Tile) → SurveyKept s t u → SurveyKept s u v → SurveyKept s t v
kept_more s t u v a b = record { long = b.long ∙ a.long; same = b.same ∙ a.same; past = λ c l. b.past c l ∙ a.past c l }

-- after i rounds
pub record RoundsFar (rule : Rule) (leaves : Shape → Tile → Tile → Type 0) (x : Rounding) (t : Tile) (i : ℕ) (x' : Rounding) (t' : Tile) : Type 0 where
  pub kept : SurveyKept x.shape t t'
  pub does : RoundsDone rule leaves x t i x' t'

pub none_far : (rule : Rule) (leaves : Shape → Tile → Tile → Type 0) (x : Rounding) (t : Tile) (due n : ℕ) → RoundsReady rule x t due n → RoundsFar rule leaves x t 0 x t
none_far rule leaves x t due n r = record {
  kept = kept_none x.shape t;
  does = record { shape = refl; done = r.none_done; halved = none; sound = r.ready.fit.sound; onward = λ h run. record { history = h; same_survey = refl; run = run } };
}

-- and one round more
pub one_far : (rule : Rule) (leaves : Shape → Tile → Tile → Type 0) (x : Rounding) (t : Tile) (i : ℕ) (z : Rounding) (w : Tile) (z' : Rounding) (w' : Tile) → RoundsFar rule leaves x t i z w → SurveyKept z.shape w w' →
    RoundDone rule leaves z w z' w' → RoundsFar rule leaves x t (i + 1) z' w'
one_far rule leaves x t i z w z' w' far kept b =
    let e : z.shape ≡ x.shape = far.does.shape in
    let done : z.done + 1 ≡ i + 1 = ap (λ (k : ℕ). k + 1) far.does.done in
    record {
      kept = kept_more x.shape t w w' far.kept (subst (λ (s : Shape). SurveyKept s w w') e kept);
      does = record {
        shape = b.shape ∙ e;
        done = b.done ∙ done;
        halved = subst (λ (k : ℕ). HalvedTimes rule leaves x.shape k t w') (sym (add-one i)) (more far.does.halved (subst (λ (s : Shape). HalvedBy rule leaves s w w') e b.halved));
        sound = subst (λ (s : Shape). Sound s (i + 1) w') e (subst (λ (k : ℕ). Sound z.shape k w') done b.sound);
        onward = λ h run.
            let a = far.does.onward h run in
            let c = subst (λ (s : Shape). Onward rule s (rounding z) w (rounding z') w') e b.onward a.history a.run in
            record { history = c.history; same_survey = c.same_survey ∙ a.same_survey; run = c.run };
      };
    }

-- ---- finish

pub finished_by : (x : Rounding) (t : Tile) (answer : Result Level (Refused Rounding)) → RoundsBehind x t → FinishDoes x t answer → FinishedBy x answer
finished_by x t answer r does = surely r.over (surely r.fit.sound (surely r.fit.whole does))

pub closed : (x : Rounding) (t : Tile) (answer : Result Level (Refused Rounding)) (l : Level) → RoundsBehind x t → FinishDoes x t answer → GoesOn (rounding x) t rounding level finished answer t → answer ≡ Ok l → Closed x t l
closed x t answer l r does on e =
    let b = finished_by x t answer r does in
    let same : b.level ≡ l = cc (sym b.answers ∙ e) in
    record {
      shape = subst (λ (v : Level). v.shape ≡ x.shape) same b.shape;
      done = subst (λ (v : Level). v.done ≡ x.done) same b.done;
      onward = λ rule h run. record {
        history = finished ∷ h;
        same_survey = refl;
        finished = (h, refl);
        run = goes rounding level answer l e (on rule x.shape h (take (cells x.shape) t) (take (cells x.shape) t) run (Lent.all r.fit.whole));
      };
    }

-- ---- a draft that passed every check

-- what rounds leave of the lowest cheapest grid's brackets, by whatever maker
times_held : (rule : Rule) → Lawful rule → (leaves : Shape → Tile → Tile → Type 0) → ((s : Shape) (before after : Tile) → leaves s before after → FourPoints s before after) → (s : Shape) (y : Survey) → s.top ≤ rule.greatest →
    {n : ℕ} {t t' : Tile} → HalvedTimes rule leaves s n t t' → Held rule s y 0 t → Held rule s y n t'
times_held rule lawful leaves keeps s y reach none held = held
times_held rule lawful leaves keeps s y reach (more {n} {t} {u} {t'} times last) held =
    subst (λ (z : Tile). Held rule s y (suc n) z) (sym last.writes) (round_held rule lawful s y n u last.cut reach (keeps _ _ _ last.left) (times_held rule lawful leaves keeps s y reach times held))

pub solved : (rule : Rule) → Lawful rule → (leaves : Shape → Tile → Tile → Type 0) → ((s : Shape) (before after : Tile) → leaves s before after → FourPoints s before after) → (d : Draft) (t : Tile) (due n : ℕ) (x z : Rounding) (t' : Tile) (l : Level) →
    Ready rule d.shape 0 t n → RoundsDue d.shape.top due → Opened d t x → RoundsDone rule leaves x t due z t' → Closed z t' l → Solved rule leaves d.shape t l t'
solved rule lawful leaves keeps d t due n x z t' l ready is_due o r c =
    let s : Shape = d.shape in
    let sound : Sound s due t' = subst (λ (v : Shape). Sound v due t') o.shape r.sound in
    let times : HalvedTimes rule leaves s due t t' = subst (λ (v : Shape). HalvedTimes rule leaves v due t t') o.shape r.halved in
    let held : Held rule s (survey t) due t' = times_held rule lawful leaves keeps s (survey t) ready.reach times (draft_held rule lawful s t ready.fit.whole ready.fit.sound) in
    let done : l.done ≡ due = c.done ∙ r.done in
    let ends = ends_at rule lawful ready.reach is_due.enough held in
    record {
      shape = c.shape ∙ r.shape ∙ o.shape;
      due = subst (λ (k : ℕ). RoundsDue s.top k) (sym done) is_due;
      rounds = subst (λ (k : ℕ). HalvedTimes rule leaves s k t t') (sym done) times;
      lowest_cheapest = lowest_held rule lawful ready.reach is_due.enough held;
      settled = λ u lt. ap (λ (b : Bracket). b.high) (ends.2 u lt) ∙ sym (ap (λ (b : Bracket). b.low) (ends.2 u lt));
      sound = subst (λ (k : ℕ). Sound s k t') (sym done) sound;
    }

-- ---- solve

-- the checks of solve, and what they come to
abbrev pub Found : Rule → Draft → Tile → ℕ → Result (Unit {0}) Refusal → Type 0
Found rule d t n found = TileChecked d.shape 0 t (λ e. found ≡ Err e) (RoundsChecked d.shape n rule.greatest (λ e. found ≡ Err e) (found ≡ Ok tt))

pub found_ready : (rule : Rule) (d : Draft) (t : Tile) (n : ℕ) → Found rule d t n (Ok tt) → Ready rule d.shape 0 t n
found_ready rule d t n =
    either nothing (λ whole. either nothing (λ sound. either nothing (λ room. either nothing (λ reach _. record { fit = record { whole = whole; sound = sound }; room = room; reach = reach }))))
  where
    nothing : {G : Type 0} (e : Refusal) → ◌≡◌ {A = Result (Unit {0}) Refusal} (Ok tt) (Err e) → G
    nothing e z = not_both (Ok tt) tt e refl z

-- the records of a run are never corrupt
solves_runs : (rule : Rule) → Lawful rule → (leaves : Shape → Tile → Tile → Type 0) (d : Draft) (t : Tile) (n : ℕ) (answer : Result Level (Refused Draft)) (t' : Tile) → SolveDoes rule leaves d t n answer t' →
    ((l : Level) → answer ≡ Ok l → EndsRuns rule d t l t') → SolvesRuns rule d t n answer t'
solves_runs rule lawful leaves d t n answer t' does ends s h r r' run lent =
    let same : d.shape ≡ s = run_shape every_run rule lawful run in
    followed (λ _ _ k. k) (λ whole rest.
    let lends = lent_whole whole lent in
    let first : Run rule s h (draft d) (take (cells s) t) = subst (λ (z : Tile). Run rule s h (draft d) z) lends.0 run in
    let own : Run rule d.shape h (draft d) (take (cells d.shape) t) = subst (λ (z : Shape). Run rule z h (draft d) (take (cells z) t)) (sym same) first in
    let end : (l : Level) → answer ≡ Ok l → FinishedRun rule s (surveyed h) l r' = λ l e.
    subst (λ (z : Tile). FinishedRun rule s (surveyed h) l z) (sym lends.1) (subst (λ (z : Shape). FinishedRun rule z (surveyed h) l (take (cells z) t')) same (ends l e h own)) in
    mapped (λ _ k. k) (mapped (λ _ k. k) (okay answer (λ l. Solved rule leaves s t l t') (λ l. FinishedRun rule s (surveyed h) l r') end))
    (surely (sound_slice every_run rule lawful s h (draft d) t first) rest))
    (subst (λ (z : Shape). TileChecked z 0 t (LeavesAll d t answer t') (RoundsChecked z n rule.greatest (LeavesAll d t answer t') (IsOkAnd answer (λ l. Solved rule leaves z t l t')))) same does)

pub runs_refused : (rule : Rule) → Lawful rule → (leaves : Shape → Tile → Tile → Type 0) (d : Draft) (t : Tile) (n : ℕ) (why : Refusal) → Found rule d t n (Err why) → SolvesRuns rule d t n (Err (record { state = d; why = why })) t
runs_refused rule lawful leaves d t n why found =
    let answer : Result Level (Refused Draft) = Err (record { state = d; why = why }) in
    let left : (e : Refusal) → ◌≡◌ {A = Result (Unit {0}) Refusal} (Err why) (Err e) → LeavesAll d t answer t e = λ e z.
    (let same : why ≡ e = cc z in (ap (λ (k : Refusal). Err (record { state = d; why = k })) same, refl)) in
    solves_runs rule lawful leaves d t n answer t (mapped left (mapped left (mapped left (mapped left (λ z. not_both (Err why) tt why z refl)))) found) (λ l e. not_both answer l (record { state = d; why = why }) e refl)

pub runs_solved : (rule : Rule) → Lawful rule → (leaves : Shape → Tile → Tile → Type 0) (d : Draft) (t : Tile) (n : ℕ) (l : Level) (t' : Tile) → Found rule d t n (Ok tt) → Solved rule leaves d.shape t l t' → EndsRuns rule d t l t' →
    SolvesRuns rule d t n (Ok l) t'
runs_solved rule lawful leaves d t n l t' found a ends =
    let r = found_ready rule d t n found in
    solves_runs rule lawful leaves d t n (Ok l) t' (passed r.fit.whole (passed r.fit.sound (passed r.room (passed r.reach a)))) (λ k e. let same : l ≡ k = cc e in subst (λ (z : Level). EndsRuns rule d t z t') same ends)
