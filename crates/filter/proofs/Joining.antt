-- A call that does what its contract says goes on with every run that led to it.
use Rattle.std.proofs.Common.{◌≡◌, ℕ, Ok, Err, Result, IfOk, sym, refl, subst, arith}
use Rattle.limits.specs.Limits.{most_rows}
use Rattle.limits.specs.declared.refusal.Refusal.{Refusal}
use Rattle.limits.proofs.Outcomes.{mapped, either}
use Rattle.price.specs.Rules.{Rule}
use Rattle.tile.specs.declared.shape.Shape.{Shape}
use Rattle.tile.specs.declared.side.Side.{Side}
use Rattle.tile.specs.Shapes.{MadeOf}
use Rattle.tile.specs.Tiles.{Tile}
use Rattle.flow.specs.Points.{FourPoints}
use Rattle.passes.specs.Soundness.{Sound}
use Rattle.filter.specs.declared.states.Draft.{Draft}
use Rattle.filter.specs.declared.states.Rounding.{Rounding}
use Rattle.filter.specs.declared.states.Level.{Level}
use Rattle.filter.specs.declared.answers.Refused.{Refused}
use Rattle.filter.specs.declared.answers.Rounded.{Rounded}
use Rattle.filter.specs.Checks.{place}
use Rattle.filter.specs.Calls.{RoundedBy, StartDoes, PutDoes, TieDoes, BeginDoes, RoundDoes, FinishDoes, ReopenDoes, MarksSmallest, SurveyKept, KeptIfRefused}
use Rattle.filter.specs.Runs.{Call, Run, Begins, GoesOn, GoesOnUnder, draft, rounding, level, put_at, tied_at, begun, rounded, finished, reopened}
use Rattle.filter.specs.Laws.{EveryRunKeepsTheLaw}
use Rattle.filter.proofs.Keeps.{every_run}

-- a round by a cut maker that keeps the four points is a round of a run
pub any_maker : (rule : Rule) (leaves : Shape → Tile → Tile → Type 0) → ((s : Shape) (before after : Tile) → leaves s before after → FourPoints s before after) →
    (r : Rounding) (t : Tile) (n : ℕ) (answer : Result Rounded (Refused Rounding)) (t' : Tile) → RoundDoes rule leaves r t n answer t' → RoundDoes rule FourPoints r t n answer t'
any_maker rule leaves keeps r t n answer t' = mapped (λ _ z. z) (mapped (λ _ z. z) (mapped (λ _ z. z) (mapped (λ _ z. z) (mapped (λ _ z. z) again))))
  where
    again : RoundedBy rule leaves r t answer t' → RoundedBy rule FourPoints r t answer t'
    again a = record {
      next = a.next;
      answers = a.answers;
      shape = a.shape;
      done = a.done;
      halved = record { cut = a.halved.cut; left = keeps _ _ _ a.halved.left; writes = a.halved.writes };
    }

pub start_met : (rows columns top : ℕ) (t : Tile) (answer : Result Draft Refusal) (t' : Tile) → StartDoes rows columns top t answer t' →
    record { does : StartDoes rows columns top t answer t'; begins : Begins answer t'; law : EveryRunKeepsTheLaw }
start_met rows columns top t answer t' w = record {
  does = w;
  begins = λ d e rule. Run.started d refl (own d (subst (λ z. StartDoes rows columns top t z t') e w));
  law = every_run;
}
  where
    -- the start of a draft, by the draft's own shape
    made : (d : Draft) → StartDoes rows columns top t (Ok d) t' → MadeOf most_rows rows columns top d.shape
    made d o =
        let nothing = λ (e : Refusal) (z : (Ok d ≡ Err e) × (t' ≡ t)). (let n : ◌≡◌ {A = ℕ} 0 1 = cc z.0 in absurd (omega arith)) in
        either nothing (λ _. either nothing (λ _ a. let same : a.draft ≡ d = cc a.answers in subst (λ (x : Draft). MadeOf most_rows rows columns top x.shape) same a.shape)) o

    own : (d : Draft) → StartDoes rows columns top t (Ok d) t' → StartDoes d.shape.rows d.shape.columns d.shape.top t (Ok d) t'
    own d o =
        let m = made d o in
        subst (λ (n : ℕ). StartDoes n d.shape.columns d.shape.top t (Ok d) t') (sym m.same_rows)
        (subst (λ (n : ℕ). StartDoes rows n d.shape.top t (Ok d) t') (sym m.same_columns) (subst (λ (n : ℕ). StartDoes rows columns n t (Ok d) t') (sym m.same_top) o))

pub put_met : (d : Draft) (t : Tile) (row column v q : ℕ) (answer : Result Draft (Refused Draft)) (t' : Tile) → PutDoes d t row column v q answer t' →
    record { does : PutDoes d t row column v q answer t'; goes_on : GoesOn (draft d) t draft draft (put_at (place d.shape row column) v q) answer t'; law : EveryRunKeepsTheLaw }
put_met d t row column v q answer t' w = record { does = w; goes_on = λ rule s h r r' run lent. Run.then run lent (Call.put d row column v q answer w); law = every_run }

pub tie_met : (d : Draft) (t : Tile) (row column : ℕ) (k : Side → ℕ) (answer : Result Draft (Refused Draft)) (t' : Tile) → TieDoes d t row column k answer t' →
    record { does : TieDoes d t row column k answer t'; goes_on : GoesOn (draft d) t draft draft (tied_at (place d.shape row column) k) answer t'; law : EveryRunKeepsTheLaw }
tie_met d t row column k answer t' w = record { does = w; goes_on = λ rule s h r r' run lent. Run.then run lent (Call.tie d row column k answer w); law = every_run }

pub begin_met : (d : Draft) (t : Tile) (answer : Result Rounding (Refused Draft)) → BeginDoes d t answer →
    record { does : BeginDoes d t answer; goes_on : GoesOn (draft d) t draft rounding begun answer t; law : EveryRunKeepsTheLaw }
begin_met d t answer w = record { does = w; goes_on = λ rule s h r r' run lent. Run.then run lent (Call.begin d answer w); law = every_run }

pub round_met : {W : Type 0} (before after : W) (rule : Rule) (leaves : Shape → Tile → Tile → Type 0) → ((s : Shape) (before after : Tile) → leaves s before after → FourPoints s before after) →
    (r : Rounding) (t : Tile) (n : ℕ) (answer : Result Rounded (Refused Rounding)) (t' : Tile) → RoundDoes rule leaves r t n answer t' → MarksSmallest rule r.shape t answer t' →
    SurveyKept r.shape t t' → IfOk answer (λ a. Sound a.state.shape a.state.done t') → KeptIfRefused answer before after →
    record { does : RoundDoes rule leaves r t n answer t'; smallest : MarksSmallest rule r.shape t answer t'; kept : SurveyKept r.shape t t'; sound : IfOk answer (λ a. Sound a.state.shape a.state.done t'); workspace : KeptIfRefused answer before after; goes_on : GoesOnUnder rule (rounding r) t rounding (λ a. rounding a.state) rounded answer t'; law : EveryRunKeepsTheLaw }
round_met before after rule leaves keeps r t n answer t' w small kept sound free = record {
  does = w;
  smallest = small;
  kept = kept;
  sound = sound;
  workspace = free;
  goes_on = λ s h o o' run lent. Run.then run lent (Call.round r n answer (any_maker rule leaves keeps r t n answer t' w));
  law = every_run;
}

pub finish_met : (r : Rounding) (t : Tile) (answer : Result Level (Refused Rounding)) → FinishDoes r t answer →
    record { does : FinishDoes r t answer; goes_on : GoesOn (rounding r) t rounding level finished answer t; law : EveryRunKeepsTheLaw }
finish_met r t answer w = record { does = w; goes_on = λ rule s h o o' run lent. Run.then run lent (Call.finish r answer w); law = every_run }

pub reopen_rounding_met : (r : Rounding) (t : Tile) (answer : Result Draft (Refused Rounding)) (t' : Tile) → ReopenDoes r r.shape r.done t answer t' →
    record { does : ReopenDoes r r.shape r.done t answer t'; goes_on : GoesOn (rounding r) t rounding draft reopened answer t'; law : EveryRunKeepsTheLaw }
reopen_rounding_met r t answer t' w = record { does = w; goes_on = λ rule s h o o' run lent. Run.then run lent (Call.reopen_rounding r answer w); law = every_run }

pub reopen_level_met : (l : Level) (t : Tile) (answer : Result Draft (Refused Level)) (t' : Tile) → ReopenDoes l l.shape l.done t answer t' →
    record { does : ReopenDoes l l.shape l.done t answer t'; goes_on : GoesOn (level l) t level draft reopened answer t'; law : EveryRunKeepsTheLaw }
reopen_level_met l t answer t' w = record { does = w; goes_on = λ rule s h o o' run lent. Run.then run lent (Call.reopen_level l answer w); law = every_run }
