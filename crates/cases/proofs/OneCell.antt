-- One cell, from start to level.
use Rattle.std.proofs.Common.{◌≡◌, ℕ, ◌*◌, ◌≤◌, [], length, take, IsOk, IsOkAnd, Ok, Err, Result, sym, refl, ap, ◌∙◌, subst, ap₂, arith}
use Rattle.limits.specs.Limits.{most_rows}
use Rattle.limits.specs.declared.refusal.Refusal.{Refusal}
use Rattle.limits.proofs.Outcomes.{surely}
use Rattle.price.specs.Rules.{Rule, Lawful}
use Rattle.tile.specs.declared.shape.Shape.{Shape}
use Rattle.tile.specs.Shapes.{cells, Ranged, MadeOf}
use Rattle.tile.specs.Tiles.{Tile, cell}
use Rattle.passes.specs.Writing.{fresh}
use Rattle.passes.proofs.Rewrites.{rewritten_length, cell_past}
use Rattle.filter.specs.declared.states.Draft.{Draft}
use Rattle.filter.specs.declared.states.Level.{Level}
use Rattle.filter.specs.declared.answers.Refused.{Refused}
use Rattle.filter.specs.Calls.{Started, StartDoes, SurveyKept}
use Rattle.filter.specs.Runs.{surveyed, Begins, Lent, Run, draft}
use Rattle.filter.proofs.Keeps.{every_run}
use Rattle.filter.proofs.RunsKept.{sound_slice}
use Rattle.solve.specs.Solving.{PastKept, HalvedTimes, Solved, FinishedRun, SolveDoes, SolvesRuns}
use Rattle.cases.specs.OneCell.{OneCellStarted, OneCellSolved}

-- such a tile has one cell
one : (s : Shape) → MadeOf most_rows 1 1 1 s → cells s ≡ 1
one s made = ap₂ (λ (x y : ℕ). x * y) made.same_rows made.same_columns

-- ---- start

ranged : Ranged most_rows 1 1 1
ranged = record { some_rows = omega arith; few_rows = omega arith; some_columns = omega arith; few_columns = omega arith; some_top = omega arith; low_top = omega arith }

pub begun : (t : Tile) (answer : Result Draft Refusal) (t' : Tile) → 1 ≤ length t → StartDoes 1 1 1 t answer t' → Started 1 1 1 t answer t'
begun t answer t' whole does = surely whole (surely ranged does)

pub begun_past : (t : Tile) (answer : Result Draft Refusal) (t' : Tile) → 1 ≤ length t → Started 1 1 1 t answer t' → PastKept 1 t t'
begun_past t answer t' whole s = record {
  long = ap length s.writes ∙ rewritten_length (λ _. fresh 1) t 1 whole;
  past = λ u l. ap (λ (z : Tile). cell z u) s.writes ∙ cell_past 1 (λ _. fresh 1) t u l;
}

pub one_started : (t : Tile) (answer : Result Draft Refusal) (t' : Tile) (d : Draft) → 1 ≤ length t → Started 1 1 1 t answer t' → Begins answer t' → answer ≡ Ok d → OneCellStarted d t'
one_started t answer t' d whole s begins e =
    let same : s.draft ≡ d = cc (sym s.answers ∙ e) in
    let made : MadeOf most_rows 1 1 1 d.shape = subst (λ (x : Draft). MadeOf most_rows 1 1 1 x.shape) same s.shape in
    record {
      made = made;
      whole = omega (arith, (begun_past t answer t' whole s).long);
      run = λ rule. subst (λ (k : ℕ). Run rule d.shape [] (draft d) (take k t')) (one d.shape made) (begins d e rule);
    }

-- a run of one cell, by all the cells of its shape
by_cells : (d : Draft) (t : Tile) (rule : Rule) → OneCellStarted d t → Run rule d.shape [] (draft d) (take (cells d.shape) t)
by_cells d t rule s = subst (λ (k : ℕ). Run rule d.shape [] (draft d) (take k t)) (sym (one d.shape s.made)) (s.run rule)

-- ---- solve

pub one_ends : (rule : Rule) → Lawful rule → (d : Draft) (t : Tile) (n : ℕ) (answer : Result Level (Refused Draft)) (t' : Tile) → OneCellStarted d t → 1 ≤ n → SolvesRuns rule d t n answer t' →
    IsOkAnd answer (λ l. FinishedRun rule d.shape (surveyed []) l (take (cells d.shape) t'))
one_ends rule lawful d t n answer t' s room solves =
    let e : cells d.shape ≡ 1 = one d.shape s.made in
    surely (omega (arith, s.made.same_top, lawful.level_least))
    (surely (omega (arith, e)) (surely (omega (arith, e, s.whole)) (solves d.shape [] (take (cells d.shape) t) (take (cells d.shape) t') (by_cells d t rule s) (Lent.all (omega (arith, e, s.whole))))))

pub ends_ok : {E : Type 0} (answer : Result Level E) (P : Level → Type 0) → IsOkAnd answer P → IsOk answer
ends_ok (Ok l) P p = refl
ends_ok (Err e) P p = absurd p

-- the rounds are those of the maker
one_rounds : (rule : Rule) → Lawful rule → (leaves : Shape → Tile → Tile → Type 0) (d : Draft) (t : Tile) (n : ℕ) (answer : Result Level (Refused Draft)) (t' : Tile) (l : Level) → OneCellStarted d t → 1 ≤ n →
    SolveDoes rule leaves d t n answer t' → answer ≡ Ok l → HalvedTimes rule leaves d.shape l.done t t'
one_rounds rule lawful leaves d t n answer t' l s room does answers =
    let e : cells d.shape ≡ 1 = one d.shape s.made in
    let solved : IsOkAnd answer (λ m. Solved rule leaves d.shape t m t') =
    surely (omega (arith, s.made.same_top, lawful.level_least))
    (surely (omega (arith, e)) (surely (sound_slice every_run rule lawful d.shape [] (draft d) t (by_cells d t rule s)) (surely (omega (arith, e, s.whole)) does))) in
    let there : Solved rule leaves d.shape t l t' = subst (λ (z : Result Level (Refused Draft)). IsOkAnd z (λ m. Solved rule leaves d.shape t m t')) answers solved in
    there.rounds

pub one_solved : (rule : Rule) → Lawful rule → (leaves : Shape → Tile → Tile → Type 0) (d : Draft) (t : Tile) (n : ℕ) (answer : Result Level (Refused Draft)) (t' : Tile) (l : Level) → OneCellStarted d t → 1 ≤ n →
    SolveDoes rule leaves d t n answer t' → IsOkAnd answer (λ l. FinishedRun rule d.shape (surveyed []) l (take (cells d.shape) t')) → answer ≡ Ok l → OneCellSolved rule leaves t l t'
one_solved rule lawful leaves d t n answer t' l s room does ends e = record {
  shape = d.shape;
  made = s.made;
  rounds = one_rounds rule lawful leaves d t n answer t' l s room does e;
  finished_run =
      subst (λ (k : ℕ). FinishedRun rule d.shape (surveyed []) l (take k t')) (one d.shape s.made)
      (subst (λ (z : Result Level (Refused Draft)). IsOkAnd z (λ m. FinishedRun rule d.shape (surveyed []) m (take (cells d.shape) t'))) e ends);
}

-- what solve keeps has no less
pub kept_past : (d : Draft) (t t' : Tile) → OneCellStarted d t → SurveyKept d.shape t t' → PastKept 1 t t'
kept_past d t t' s k = record { long = k.long; past = λ u l. k.past u (omega (arith, one d.shape s.made)) }
