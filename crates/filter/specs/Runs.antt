-- Runs of calls over one tile's records.
use Rattle.std.specs.Prelude.{◌≡◌, ℕ, ◌<◌, ◌≤◌, cond, List, [], ◌∷◌, ◌++◌, length, take, Ok, Err, Result, ◌==◌}
use Rattle.price.specs.Rules.{Rule}
use Rattle.tile.specs.declared.shape.Shape.{Shape}
use Rattle.tile.specs.declared.side.Side.{Side}
use Rattle.tile.specs.Shapes.{cells}
use Rattle.tile.specs.Tiles.{Tile, Survey}
use Rattle.flow.specs.Points.{FourPoints}
use Rattle.filter.specs.declared.states.Draft.{Draft}
use Rattle.filter.specs.declared.states.Rounding.{Rounding}
use Rattle.filter.specs.declared.states.Level.{Level}
use Rattle.filter.specs.declared.answers.Refused.{Refused}
use Rattle.filter.specs.declared.answers.Rounded.{Rounded}
use Rattle.filter.specs.Checks.{place}
use Rattle.filter.specs.Calls.{StartDoes, PutDoes, TieDoes, BeginDoes, RoundDoes, FinishDoes, ReopenDoes}

-- ---- the history of a run, and what it surveyed

-- a call that was accepted, with what it wrote
pub data Accepted : Type 0 where
  put_at : (u reading class : ℕ) → Accepted
  tied_at : (u : ℕ) → (Side → ℕ) → Accepted
  begun : Accepted
  rounded : Accepted
  finished : Accepted
  reopened : Accepted

-- the calls that were accepted after start, the latest first
abbrev pub History : Type 0
History = List Accepted

-- finish was the last call accepted
abbrev pub Finished : History → Type 0
Finished h = (k : History) × (h ≡ finished ∷ k)

-- a survey after one more accepted call
abbrev pub updated : Accepted → Survey → Survey
updated (put_at p v q) y = record { reading = λ u. cond (p == u) v (y.reading u); class = λ u. cond (p == u) q (y.class u); tie = y.tie }
updated (tied_at p w) y = record { reading = y.reading; class = y.class; tie = λ u d. cond (p == u) (w d) (y.tie u d) }
updated begun y = y
updated rounded y = y
updated finished y = y
updated reopened y = y

-- The readings and classes of the last accepted put to each cell, and the ties of the last accepted tie there; 0 where there was none.
abbrev pub surveyed : History → Survey
surveyed [] = record { reading = λ _. 0; class = λ _. 0; tie = λ _ _. 0 }
surveyed (a ∷ h) = updated a (surveyed h)

-- ---- one call

-- a state of any of the three kinds
pub data State : Type 0 where
  draft : Draft → State
  rounding : Rounding → State
  level : Level → State

-- the shape of its tile
abbrev pub shape_of : State → Shape
shape_of (draft d) = d.shape
shape_of (rounding r) = r.shape
shape_of (level l) = l.shape

-- the rounds done
abbrev pub done_of : State → ℕ
done_of (draft d) = 0
done_of (rounding r) = r.done
done_of (level l) = l.done

-- what a call adds to the history: nothing where it is refused
abbrev pub added : {X E : Type 0} → Accepted → Result X E → History
added a (Ok x) = a ∷ []
added a (Err e) = []

-- the state after a call: the new one, or the one given back
abbrev pub next : {S X : Type 0} → (S → State) → (X → State) → Result X (Refused S) → State
next back on (Ok x) = on x
next back on (Err e) = back e.state

-- One call, by what its own contract says: the state and the records that it is lent, the records as it leaves them, the state
-- after it, and what it adds to the history. A round may be cut by any maker: all that is known of it are the four points.
pub data Call (rule : Rule) : State → Tile → Tile → State → History → Type 0 where
  put : {t t' : Tile} (d : Draft) (row column v q : ℕ) (answer : Result Draft (Refused Draft)) → PutDoes d t row column v q answer t' →
      Call rule (draft d) t t' (next draft draft answer) (added (put_at (place d.shape row column) v q) answer)
  tie : {t t' : Tile} (d : Draft) (row column : ℕ) (w : Side → ℕ) (answer : Result Draft (Refused Draft)) → TieDoes d t row column w answer t' →
      Call rule (draft d) t t' (next draft draft answer) (added (tied_at (place d.shape row column) w) answer)
  begin : {t : Tile} (d : Draft) (answer : Result Rounding (Refused Draft)) → BeginDoes d t answer →
      Call rule (draft d) t t (next draft rounding answer) (added begun answer)
  round : {t t' : Tile} (r : Rounding) (entries : ℕ) (answer : Result Rounded (Refused Rounding)) → RoundDoes rule FourPoints r t entries answer t' →
      Call rule (rounding r) t t' (next rounding (λ a. rounding a.state) answer) (added rounded answer)
  finish : {t : Tile} (r : Rounding) (answer : Result Level (Refused Rounding)) → FinishDoes r t answer →
      Call rule (rounding r) t t (next rounding level answer) (added finished answer)
  reopen_rounding : {t t' : Tile} (r : Rounding) (answer : Result Draft (Refused Rounding)) → ReopenDoes r r.shape r.done t answer t' →
      Call rule (rounding r) t t' (next rounding draft answer) (added reopened answer)
  reopen_level : {t t' : Tile} (l : Level) (answer : Result Draft (Refused Level)) → ReopenDoes l l.shape l.done t answer t' →
      Call rule (level l) t t' (next level draft answer) (added reopened answer)

-- What a call is lent in a run with n records: a slice that begins with them, or one that is too short, whatever it holds; then the
-- run's records stay as they were. The indices are the run's records, the slice as lent, the slice as left, and the run's records then.
pub data Lent (n : ℕ) : Tile → Tile → Tile → Tile → Type 0 where
  all : {t t' : Tile} → n ≤ length t → Lent n (take n t) t t' (take n t')
  part : {r t t' : Tile} → length t < n → Lent n r t t' r

-- ---- runs

-- A run under one price rule over a tile of the shape s: its history, its state and its records at the end. It begins with an
-- accepted start over records that held anything; each call takes the state that the one before gave back, and the same records.
pub data Run (rule : Rule) (s : Shape) : History → State → Tile → Type 0 where
  started : {t t' : Tile} (d : Draft) → d.shape ≡ s → StartDoes s.rows s.columns s.top t (Ok d) t' → Run rule s [] (draft d) (take (cells s) t')
  then : {h new : History} {x x' : State} {r t t' r' : Tile} →
      Run rule s h x r → Lent (cells s) r t t' r' → Call rule x t t' x' new → Run rule s (new ++ h) x' r'

-- ---- how calls and runs go together

-- an accepted start begins a run under every rule
abbrev pub Begins : {E : Type 0} → Result Draft E → Tile → Type 0
Begins answer t' = (d : Draft) → answer ≡ Ok d → (rule : Rule) → Run rule d.shape [] (draft d) (take (cells d.shape) t')

-- every run under this rule that led to this state, and lends its records to this call, goes on with the call
abbrev pub GoesOnUnder : {S X : Type 0} → Rule → State → Tile → (S → State) → (X → State) → Accepted → Result X (Refused S) → Tile → Type 0
GoesOnUnder rule x t back on a answer t' = (s : Shape) (h : History) (r r' : Tile) → Run rule s h x r → Lent (cells s) r t t' r' →
    Run rule s (added a answer ++ h) (next back on answer) r'

-- the same whatever the rule
abbrev pub GoesOn : {S X : Type 0} → State → Tile → (S → State) → (X → State) → Accepted → Result X (Refused S) → Tile → Type 0
GoesOn x t back on a answer t' = (rule : Rule) → GoesOnUnder rule x t back on a answer t'
