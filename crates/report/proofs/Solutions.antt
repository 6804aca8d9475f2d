-- From the contracts of filling and solving to the solution of a file.
use Rattle.std.proofs.Common.{◌≡◌, ℕ, ◌+◌, ◌^◌, ◌<◌, ◌≤◌, length, take, Ok, Err, Result, IsOk, IsOkAnd, IfOk, refl, sym, ap, ◌∙◌, subst, ⊎_elim, arith}
use Rattle.std.proofs.lemmas.Bool.{cases_lt}
use Rattle.limits.specs.declared.refusal.Refusal.{Refusal}
use Rattle.limits.proofs.Outcomes.{surely}
use Rattle.price.specs.Rules.{Rule, Lawful}
use Rattle.theory.specs.Grids.{energy, LowestCheapestGrid}
use Rattle.tile.specs.declared.shape.Shape.{Shape}
use Rattle.tile.specs.declared.side.Side.{Side}
use Rattle.tile.specs.declared.side.Side.TheVariants.{Rightward, Downward}
use Rattle.tile.specs.Halving.{RoundsOver, RoundsDue}
use Rattle.tile.specs.Records.{stored_tie}
use Rattle.tile.specs.Shapes.{cells}
use Rattle.tile.specs.Tiles.{Tile, Survey, cell, survey, problem, heights}
use Rattle.flow.specs.Points.{FourPoints}
use Rattle.passes.specs.Rounds.{charged}
use Rattle.passes.specs.Soundness.{Sound}
use Rattle.passes.specs.Writing.{rewritten}
use Rattle.passes.proofs.Rewrites.{rewritten_length, cell_rewritten, cell_past}
use Rattle.filter.specs.declared.states.Draft.{Draft}
use Rattle.filter.specs.declared.states.Level.{Level}
use Rattle.filter.specs.declared.answers.Refused.{Refused}
use Rattle.filter.specs.Checks.{TileChecked}
use Rattle.filter.specs.Calls.{LeavesAll, CostDoes, SurveyKept}
use Rattle.filter.specs.Runs.{surveyed, draft, Lent, Run}
use Rattle.filter.proofs.Keeps.{every_run}
use Rattle.filter.proofs.Narrowing.{narrowed_kept}
use Rattle.filter.proofs.Resurveyed.{SameSurvey, energy_resurveyed, lowest_resurveyed}
use Rattle.filter.proofs.Rounds.{made_smallest}
use Rattle.filter.proofs.RunsKept.{sound_slice}
use Rattle.solve.specs.Solving.{PastKept, HalvedTimes, none, more, RoundsChecked, Solved, FinishedRun, SolveDoes, SolvesRuns}
use Rattle.tilefile.specs.Survey.{surveyed_record, cell_record}
use Rattle.tilefile.specs.Files.{survey_calls, FillDoes, LedTo}
use Rattle.report.specs.Solving.{LastRound, RecordsSolved}

-- ---- answers

pub same_ok : {X E : Type 0} (answer : Result X E) (x y : X) → answer ≡ Ok x → answer ≡ Ok y → x ≡ y
same_ok answer x y p q = cc (sym p ∙ q)

pub ok_and : {X E : Type 0} (answer : Result X E) (P : X → Type 0) → IsOkAnd answer P → IsOk answer
ok_and (Ok x) P p = refl
ok_and (Err e) P p = absurd p

pub value : {X E : Type 0} (answer : Result X E) (x : X) (P : X → Type 0) → IsOkAnd answer P → answer ≡ Ok x → P x
value answer x P p e = subst (λ z. IsOkAnd z P) e p

both : {X E : Type 0} (answer : Result X E) (P Q R : X → Type 0) → ((x : X) → P x → Q x → R x) → IsOkAnd answer P → IsOkAnd answer Q → IsOkAnd answer R
both (Ok x) P Q R f p q = f x p q
both (Err e) P Q R f p q = p

-- ---- the draft that was filled

abbrev pub filled : Shape → Survey → Tile → Tile
filled s y t = rewritten (cells s) (cell_record s.top y) t

tied : (top v q : ℕ) (w : Side → ℕ) (d : Side) → stored_tie (surveyed_record top v q w) d ≡ w d
tied top v q w Rightward = refl
tied top v q w Downward = refl

filled_survey : (s : Shape) (y : Survey) (t : Tile) → SameSurvey s (survey (filled s y t)) y
filled_survey s y t =
    let is = λ (u : ℕ) (l : u < cells s). cell_rewritten (cells s) (cell_record s.top y) t u l in
    record {
      reading = λ u l. ap (λ c. c.reading) (is u l);
      class = λ u l. ap (λ c. c.class) (is u l);
      tie = λ u d l. ap (λ c. stored_tie c d) (is u l) ∙ tied s.top (y.reading u) (y.class u) (y.tie u) d;
    }

-- ---- filled, and then solved

pub record SolvedDraft (rule : Rule) (leaves : Shape → Tile → Tile → Type 0) (s : Shape) (y : Survey) (t : Tile) (l : Level) (t' : Tile) : Type 0 where
  pub solved : Solved rule leaves s (filled s y t) l t'
  pub kept : SurveyKept s (filled s y t) t'
  pub run : FinishedRun rule s (surveyed (survey_calls y (cells s))) l (take (cells s) t')

pub solved_after : (rule : Rule) → Lawful rule → (leaves : Shape → Tile → Tile → Type 0) (s : Shape) (y : Survey) (t : Tile) (fill : Result Draft Refusal) (t' : Tile) (d : Draft) (n : ℕ) (answer : Result Level (Refused Draft)) (t'' : Tile) →
    cells s ≤ length t → cells s ≤ n → rule.greatest ≡ s.top → FillDoes s y t fill t' → IfOk fill (λ d. LedTo d y t') → fill ≡ Ok d →
    SurveyKept d.shape t' t'' → SolveDoes rule leaves d t' n answer t'' → SolvesRuns rule d t' n answer t'' → IsOkAnd answer (λ l. SolvedDraft rule leaves s y t l t'')
solved_after rule lawful leaves s y t fill t' d n answer t'' long room reach does led is_d kept solve runs =
    let by = surely long does in
    let here : by.draft ≡ d = cc (sym by.answers ∙ is_d) in
    let shape : d.shape ≡ s = ap (λ (z : Draft). z.shape) (sym here) ∙ by.shape in
    let led_to : LedTo d y t' = subst (λ z. IfOk z (λ (x : Draft). LedTo x y t')) is_d led in
    let run : Run rule s (survey_calls y (cells s)) (draft d) (take (cells s) t') = subst (λ (z : Shape). Run rule z (survey_calls y (cells z)) (draft d) (take (cells z) t')) shape (led_to rule lawful) in
    let whole : cells s ≤ length t' = omega (arith, ap length by.writes, rewritten_length (cell_record s.top y) t (cells s) long) in
    let sound : Sound s 0 t' = sound_slice every_run rule lawful s (survey_calls y (cells s)) (draft d) t' run in
    let own = subst (λ (z : Shape). TileChecked z 0 t' (LeavesAll d t' answer t'') (RoundsChecked z n rule.greatest (LeavesAll d t' answer t'') (IsOkAnd answer (λ l. Solved rule leaves z t' l t'')))) shape solve in
    both answer (λ l. Solved rule leaves s t' l t'') (λ l. FinishedRun rule s (surveyed (survey_calls y (cells s))) l (take (cells s) t'')) (λ l. SolvedDraft rule leaves s y t l t'') (λ l a b. record {
      solved = subst (λ (z : Tile). Solved rule leaves s z l t'') by.writes a;
      kept = subst (λ (z : Tile). SurveyKept s z t'') by.writes (subst (λ (z : Shape). SurveyKept z t' t'') shape kept);
      run = b;
    }) (surely (omega arith) (surely room (surely sound (surely whole own))))
    (surely (omega arith) (surely room (surely whole (runs s (survey_calls y (cells s)) (take (cells s) t') (take (cells s) t'') run (Lent.all whole)))))

-- ---- the last round

due_same : (top a b : ℕ) → RoundsDue top a → RoundsDue top b → a ≡ b
due_same top a b p q = omega (arith, p.least b q.enough, q.least a p.enough)

some_due : (top k : ℕ) → 1 ≤ top → RoundsOver top k → 0 < k
some_due top k high over = ⊎_elim (λ (l : 0 < k). l) (λ (le : k ≤ 0). let zero : k ≡ 0 = omega arith in let none : top + 1 ≤ 2 ^ 0 = subst (λ (m : ℕ). top + 1 ≤ 2 ^ m) zero over in absurd (omega arith)) (cases_lt 0 k)

last_round : (rule : Rule) (leaves : Shape → Tile → Tile → Type 0) → ((s : Shape) (before after : Tile) → leaves s before after → FourPoints s before after) → (s : Shape) {n : ℕ} {t t' : Tile} → HalvedTimes rule leaves s n t t' → 0 < n →
    LastRound rule leaves s n t t'
last_round rule leaves keeps s none l = absurd (omega arith)
last_round rule leaves keeps s (more {n} {t} {u} {t'} times last) l =
    let four : FourPoints s (charged rule s u) last.cut = keeps _ _ _ last.left in
    record {
      earlier = n;
      counted = refl;
      before = u;
      halved_before = times;
      halved = last;
      charges = λ v lv.
          ap (λ (z : Tile). (cell z v).charge) last.writes ∙ narrowed_kept s last.cut (λ c. c.charge) (λ b c. refl) v ∙ ap (λ c. c.charge) (four.kept v lv) ∙ ap (λ c. c.charge) (cell_rewritten (cells s) _ u v lv);
      marks = made_smallest rule leaves keeps s u t' last;
      bits = λ v lv. subst (λ k. k ≤ 1) (sym (ap (λ (z : Tile). (cell z v).mark) last.writes ∙ narrowed_kept s last.cut (λ c. c.mark) (λ b c. refl) v)) (four.bit v lv);
    }

-- ---- what is told of it

module _ (rule : Rule) (leaves : Shape → Tile → Tile → Type 0) (s : Shape) (y : Survey) (t : Tile) (l : Level) (t' : Tile) (long : cells s ≤ length t) (a : SolvedDraft rule leaves s y t l t') where
  -- the records hold the survey
  held : SameSurvey s (survey t') y
  held =
      let first = filled_survey s y t in
      record {
        reading = λ u lt. ap (λ (z : Survey). z.reading u) a.kept.same ∙ first.reading u lt;
        class = λ u lt. ap (λ (z : Survey). z.class u) a.kept.same ∙ first.class u lt;
        tie = λ u d lt. ap (λ (z : Survey). z.tie u d) a.kept.same ∙ first.tie u d lt;
      }

  pub lowest : LowestCheapestGrid (problem rule s y) (heights t')
  lowest = lowest_resurveyed rule s (survey (filled s y t)) y (heights t') (filled_survey s y t) a.solved.lowest_cheapest

  -- the cost is the energy of the heights over that survey
  pub cost_of : (cost : Result ℕ Refusal) → rule.greatest ≡ s.top → CostDoes rule l t' cost → cost ≡ Ok (energy (problem rule s y) (heights t'))
  cost_of cost reach does =
      let plain : cost ≡ Ok (energy (problem rule s (survey t')) (heights t'))
      = surely (omega arith) (surely a.solved.sound (surely (omega (arith, a.kept.long, rewritten_length (cell_record s.top y) t (cells s) long)) (rw a.solved.shape at does))) in
      plain ∙ ap Ok (energy_resurveyed rule s (survey t') y (heights t') held)

  pub records_solved : ((s : Shape) (before after : Tile) → leaves s before after → FourPoints s before after) → (rounds : ℕ) → RoundsDue s.top rounds → RecordsSolved rule leaves s y rounds t t'
  records_solved keeps rounds due = record {
    survey = record { reading = held.reading; class = held.class; tie = held.tie };
    settled = a.solved.settled;
    last_round = last_round rule leaves keeps s (subst (λ (k : ℕ). HalvedTimes rule leaves s k (filled s y t) t') (due_same s.top l.done rounds a.solved.due due) a.solved.rounds) (some_due s.top rounds s.high.0 due.enough);
    run = (l, a.run);
  }

  pub past_kept : PastKept (cells s) t t'
  past_kept =
      let g = cell_record s.top y in
      record {
        long = a.kept.long ∙ rewritten_length g t (cells s) long;
        past = λ u lt. a.kept.past u lt ∙ cell_past (cells s) g t u lt;
      }
