-- What a refused call leaves of a run.
use Rattle.std.proofs.Common.{◌≡◌, ℕ, ◌<◌, ◌≤◌, [], length, Option, Some, None, Ok, Err, Result, refl, sym, ap, ◌∙◌, subst, arith}
use Rattle.limits.specs.declared.refusal.Refusal.{Refusal}
use Rattle.limits.proofs.Outcomes.{Outcome, either, none_found, unrefused}
use Rattle.price.specs.Rules.{Rule}
use Rattle.theory.specs.Grids.{energy}
use Rattle.tile.specs.declared.shape.Shape.{Shape}
use Rattle.tile.specs.Rating.{Rated}
use Rattle.tile.specs.Shapes.{cells}
use Rattle.tile.specs.Tiles.{Tile, survey, heights, problem}
use Rattle.filter.specs.declared.states.Level.{Level}
use Rattle.filter.specs.declared.answers.Refused.{Refused}
use Rattle.filter.specs.Checks.{CostChecked}
use Rattle.filter.specs.Calls.{GivesBack, LeavesAll, CostDoes}
use Rattle.filter.specs.Runs.{Accepted, begun, rounded, finished, reopened, History, State, draft, rounding, level, shape_of, added, next, Call}

-- what a refused call leaves: state, tile and history as they were
pub record Unchanged (x x' : State) (t t' : Tile) (new : History) : Type 0 where
  pub state : x' ≡ x
  pub tile : t' ≡ t
  pub none : new ≡ []

pub back_again : {S X : Type 0} (back : S → State) (on : X → State) (a : Accepted) (state : S) (t : Tile) (answer : Result X (Refused S)) (e : Refusal) →
    GivesBack state answer e → Unchanged (back state) (next back on answer) t t (added a answer)
back_again back on a state t answer e z = record { state = ap (next back on) z; tile = refl; none = ap (added a) z }

pub all_again : {S X : Type 0} (back : S → State) (on : X → State) (a : Accepted) (state : S) (t t' : Tile) (answer : Result X (Refused S)) (e : Refusal) →
    LeavesAll state t answer t' e → Unchanged (back state) (next back on answer) t t' (added a answer)
all_again back on a state t t' answer e z = record { state = ap (next back on) z.0; tile = z.1; none = ap (added a) z.0 }

-- lent too few records, every call is refused
pub short_call : {rule : Rule} {x x' : State} {t t' : Tile} {new : History} → length t < cells (shape_of x) → Call rule x t t' x' new → Unchanged x x' t t' new
short_call lt (Call.put {t} {t'} d row column v q answer w) = either (all_again draft draft _ d t t' answer) (λ whole _. absurd (omega arith)) w
short_call lt (Call.tie {t} {t'} d row column k answer w) = either (all_again draft draft _ d t t' answer) (λ whole _. absurd (omega arith)) w
short_call lt (Call.begin {t} d answer w) = either (back_again draft rounding begun d t answer) (λ whole _. absurd (omega arith)) w
short_call lt (Call.round {t} {t'} r n answer w) = either (all_again rounding (λ a. rounding a.state) rounded r t t' answer) (λ whole _. absurd (omega arith)) w
short_call lt (Call.finish {t} r answer w) = either (back_again rounding level finished r t answer) (λ whole _. absurd (omega arith)) w
short_call lt (Call.reopen_rounding {t} {t'} r answer w) = either (all_again rounding draft reopened r t t' answer) (λ whole _. absurd (omega arith)) w
short_call lt (Call.reopen_level {t} {t'} l answer w) = either (all_again level draft reopened l t t' answer) (λ whole _. absurd (omega arith)) w

-- ---- cost, by the energy that was answered

-- where there is a record for each cell there is one
pub rated : (rule : Rule) (s : Shape) (t : Tile) (answer : Option ℕ) → cells s ≤ length t → Rated rule s t answer → answer ≡ Some (energy (problem rule s (survey t)) (heights t))
rated rule s t (Some n) whole k = ap Some k.value
rated rule s t None whole k = absurd (omega (arith, k))

pub found_whole : (s : Shape) (done : ℕ) (t : Tile) (greatest : ℕ) → CostChecked s done t greatest (λ e. ◌≡◌ {A = Outcome} (Ok tt) (Err e)) (◌≡◌ {A = Outcome} (Ok tt) (Ok tt)) → cells s ≤ length t
found_whole s done t greatest = either (λ why z. none_found why z) (λ whole _. whole)

pub cost_made : (rule : Rule) (l : Level) (t : Tile) (greatest : ℕ) (answer : Option ℕ) (n : ℕ) → greatest ≡ rule.greatest →
    CostChecked l.shape l.done t greatest (λ e. ◌≡◌ {A = Outcome} (Ok tt) (Err e)) (◌≡◌ {A = Outcome} (Ok tt) (Ok tt)) → Rated rule l.shape t answer → answer ≡ Some n → CostDoes rule l t (Ok n)
cost_made rule l t greatest answer n e w found is =
    let whole = found_whole l.shape l.done t greatest w in
    let here : n ≡ energy (problem rule l.shape (survey t)) (heights t) = cc (sym is ∙ rated rule l.shape t answer whole found) in
    unrefused (unrefused (unrefused (λ _. ap Ok here))) (subst (λ (k : ℕ). CostChecked l.shape l.done t k (λ e. ◌≡◌ {A = Outcome} (Ok tt) (Err e)) (◌≡◌ {A = Outcome} (Ok tt) (Ok tt))) e w)
