-- What each call answers and leaves, refusals too.
use Rattle.std.specs.Prelude.{◌≡◌, ℕ, ◌+◌, ◌*◌, ◌≤◌, length, Ok, Err, Result, slice_set}
use Rattle.limits.specs.Checking.{RefusedAs}
use Rattle.limits.specs.Limits.{most_rows}
use Rattle.limits.specs.declared.refusal.Refusal.{Refusal}
use Rattle.price.specs.Rules.{Rule}
use Rattle.theory.specs.Grids.{energy}
use Rattle.theory.specs.Sets.{SmallestCheapestSet}
use Rattle.tile.specs.declared.shape.Shape.{Shape}
use Rattle.tile.specs.declared.side.Side.{Side}
use Rattle.tile.specs.Shapes.{cells, MadeOf}
use Rattle.tile.specs.Tiles.{Tile, cell, survey, heights, problem}
use Rattle.flow.specs.Networks.{network, marks}
use Rattle.passes.specs.Writing.{with_reading, with_ties, fresh, reset, rewritten}
use Rattle.passes.specs.Rounds.{charge_in, charged, narrowed}
use Rattle.filter.specs.declared.states.Draft.{Draft}
use Rattle.filter.specs.declared.states.Rounding.{Rounding}
use Rattle.filter.specs.declared.states.Level.{Level}
use Rattle.filter.specs.declared.answers.Refused.{Refused}
use Rattle.filter.specs.declared.answers.Rounded.{Rounded}
use Rattle.filter.specs.Checks.{StartChecked, TileChecked, place, PutChecked, TieChecked, RoundChecked, FinishChecked, HeightChecked, CostChecked}

-- a refused call gives back the state that it took
abbrev pub GivesBack : {S X : Type 0} → S → Result X (Refused S) → Refusal → Type 0
GivesBack state answer e = answer ≡ Err (record { state = state; why = e })

-- and leaves the tile as it was
abbrev pub LeavesAll : {S X : Type 0} → S → Tile → Result X (Refused S) → Tile → Refusal → Type 0
LeavesAll state t answer t' e = GivesBack state answer e × (t' ≡ t)

-- ---- start

-- a draft of the shape asked for; every bracket 0..top and all else 0
pub record Started (rows columns top : ℕ) (t : Tile) (answer : Result Draft Refusal) (t' : Tile) : Type 0 where
  pub draft : Draft
  pub answers : answer ≡ Ok draft
  pub shape : MadeOf most_rows rows columns top draft.shape
  pub writes : t' ≡ rewritten (rows * columns) (λ _. fresh top) t

-- start: a draft, and cleared records; or the refusal, and the tile as it was
abbrev pub StartDoes : (rows columns top : ℕ) → Tile → Result Draft Refusal → Tile → Type 0
StartDoes rows columns top t answer t' = StartChecked rows columns top (length t) (RefusedAs t answer t') (Started rows columns top t answer t')

-- ---- put and tie

-- put: one cell's reading v and class q
abbrev pub PutDoes : Draft → Tile → (row column v q : ℕ) → Result Draft (Refused Draft) → Tile → Type 0
PutDoes d t row column v q answer t' =
    let u : ℕ = place d.shape row column in
    PutChecked d.shape t row column v q (LeavesAll d t answer t') ((answer ≡ Ok d) × (t' ≡ slice_set t u (with_reading v q (cell t u))))

-- tie: one cell's ties, with a weight w for each side
abbrev pub TieDoes : Draft → Tile → (row column : ℕ) → (Side → ℕ) → Result Draft (Refused Draft) → Tile → Type 0
TieDoes d t row column w answer t' =
    let u : ℕ = place d.shape row column in
    TieChecked d.shape t row column w (LeavesAll d t answer t') ((answer ≡ Ok d) × (t' ≡ slice_set t u (with_ties w (cell t u))))

-- ---- begin

-- the same shape, and no round done
pub record Begun (d : Draft) (answer : Result Rounding (Refused Draft)) : Type 0 where
  pub rounding : Rounding
  pub answers : answer ≡ Ok rounding
  pub shape : rounding.shape ≡ d.shape
  pub done : rounding.done ≡ 0

-- begin: a rounding with no round done; or the refusal, with the draft given back
abbrev pub BeginDoes : Draft → Tile → Result Rounding (Refused Draft) → Type 0
BeginDoes d t answer = TileChecked d.shape 0 t (GivesBack d answer) (Begun d answer)

-- ---- round

-- What a round does to the tile, under a rule and by a cut maker that may leave of a tile what `leaves` says: it is charged, cut
-- to some tile that the maker may leave of the charged one, and narrowed. Flows and ranks are free within what the maker may leave.
pub record HalvedBy (rule : Rule) (leaves : Shape → Tile → Tile → Type 0) (s : Shape) (t t' : Tile) : Type 0 where
  pub cut : Tile
  pub left : leaves s (charged rule s t) cut
  pub writes : t' ≡ narrowed s cut

-- one round more is done, and its number answered
pub record RoundedBy (rule : Rule) (leaves : Shape → Tile → Tile → Type 0) (r : Rounding) (t : Tile) (answer : Result Rounded (Refused Rounding)) (t' : Tile) : Type 0 where
  pub next : Rounding
  pub answers : answer ≡ Ok (record { state = next; done = r.done + 1 })
  pub shape : next.shape ≡ r.shape
  pub done : next.done ≡ r.done + 1
  pub halved : HalvedBy rule leaves r.shape t t'

-- round: one round done; or the refusal, with the state given back and the tile as it was
abbrev pub RoundDoes : Rule → (Shape → Tile → Tile → Type 0) → Rounding → Tile → (entries : ℕ) → Result Rounded (Refused Rounding) → Tile → Type 0
RoundDoes rule leaves r t entries answer t' = RoundChecked r.shape r.done t entries rule.greatest (LeavesAll r t answer t') (RoundedBy rule leaves r t answer t')

-- where the round was accepted, its marks are the smallest cheapest set of its charges and live ties
abbrev pub MarksSmallest : {X E : Type 0} → Rule → Shape → Tile → Result X E → Tile → Type 0
MarksSmallest rule s t (Ok _) t' = SmallestCheapestSet (network s t) (charge_in rule s t) (marks t')
MarksSmallest rule s t (Err _) t' = Unit {0}

-- refused or not, a round leaves every reading, class and tie, and the records past the cells, as they were
pub record SurveyKept (s : Shape) (t t' : Tile) : Type 0 where
  pub long : length t' ≡ length t
  pub same : survey t' ≡ survey t
  pub past : (u : ℕ) → cells s ≤ u → cell t' u ≡ cell t u

-- the workspace is as it was where the call was refused; where it was accepted it is free
abbrev pub KeptIfRefused : {X E W : Type 0} → Result X E → W → W → Type 0
KeptIfRefused (Ok _) before after = Unit {0}
KeptIfRefused (Err _) before after = after ≡ before

-- ---- finish

-- the same shape and rounds done
pub record FinishedBy (r : Rounding) (answer : Result Level (Refused Rounding)) : Type 0 where
  pub level : Level
  pub answers : answer ≡ Ok level
  pub shape : level.shape ≡ r.shape
  pub done : level.done ≡ r.done

-- finish: a level; or the refusal, with the state given back
abbrev pub FinishDoes : Rounding → Tile → Result Level (Refused Rounding) → Type 0
FinishDoes r t answer = FinishChecked r.shape r.done t (GivesBack r answer) (FinishedBy r answer)

-- ---- reopen

-- a draft of the same shape; readings, classes and ties are kept, and all else is as start leaves it
pub record Reopened {S : Type 0} (s : Shape) (t : Tile) (answer : Result Draft (Refused S)) (t' : Tile) : Type 0 where
  pub draft : Draft
  pub answers : answer ≡ Ok draft
  pub shape : draft.shape ≡ s
  pub writes : t' ≡ rewritten (cells s) (λ u. reset s.top (cell t u)) t

-- from a state of the shape s with so many rounds done
abbrev pub ReopenDoes : {S : Type 0} → S → Shape → ℕ → Tile → Result Draft (Refused S) → Tile → Type 0
ReopenDoes state s done t answer t' = TileChecked s done t (LeavesAll state t answer t') (Reopened s t answer t')

-- ---- height and cost

-- height: that of one cell
abbrev pub HeightDoes : Level → Tile → (row column : ℕ) → Result ℕ Refusal → Type 0
HeightDoes l t row column answer = HeightChecked l.shape l.done t row column (λ e. answer ≡ Err e) (answer ≡ Ok (heights t (place l.shape row column)))

-- cost: the energy of the heights
abbrev pub CostDoes : Rule → Level → Tile → Result ℕ Refusal → Type 0
CostDoes rule l t answer = CostChecked l.shape l.done t rule.greatest (λ e. answer ≡ Err e) (answer ≡ Ok (energy (problem rule l.shape (survey t)) (heights t)))
