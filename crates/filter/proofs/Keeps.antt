-- Every run keeps the law: induction over the run.
use Rattle.std.proofs.Common.{◌≡◌, ℕ, ◌+◌, ◌^◌, ◌<◌, ◌≤◌, [], ◌∷◌, ◌++◌, length, take, Ok, Err, Result, sym, refl, subst, inl, inr, arith}
use native.Mathlib.Bridge.{le_prop}
use Rattle.std.proofs.lemmas.Nat.{mul-add-lt}
use Rattle.std.proofs.lemmas.List.{get_or-take, length-take-le}
use Rattle.std.proofs.lemmas.Bool.{cases_lt}
use Rattle.limits.specs.Limits.{most_strip_rows, most_columns, most_top}
use Rattle.limits.specs.declared.refusal.Refusal.{Refusal}
use Rattle.limits.proofs.Outcomes.{either}
use Rattle.price.specs.Rules.{Rule, Lawful}
use Rattle.tile.specs.declared.bracket.Bracket.{Bracket}
use Rattle.tile.specs.declared.shape.Shape.{Shape}
use Rattle.tile.specs.Halving.{Holds}
use Rattle.tile.specs.Shapes.{cells}
use Rattle.tile.specs.Tiles.{Tile, cell, blank, heights}
use Rattle.tile.proofs.Halves.{halving_holds}
use Rattle.filter.specs.declared.answers.Refused.{Refused}
use Rattle.filter.specs.Checks.{Inside, place}
use Rattle.filter.specs.Calls.{GivesBack, LeavesAll}
use Rattle.filter.specs.Runs.{Accepted, put_at, tied_at, begun, rounded, finished, reopened, History, surveyed, State, draft, rounding, level, shape_of, done_of, added, next, Call, Lent, Run}
use Rattle.filter.specs.Laws.{SameShape, EveryRunKeepsTheLaw}
use Rattle.filter.proofs.Grids.{exists, compare}
use Rattle.filter.proofs.Outcomes.{Unchanged, back_again, all_again, short_call}
use Rattle.filter.proofs.Keeping.{Inv, on_slice, drafted, start_inv, put_inv, tie_inv, begin_inv, round_inv, finish_inv, reopen_inv, lowest_held, stays_sound}

-- the place of a row and a column of the shape is a cell
pub place_inside : (s : Shape) (row column : ℕ) → Inside s row column → place s row column < cells s
place_inside s row column i = omega (arith, mul-add-lt row s.columns column s.rows i.0 i.1)

module _ (rule : Rule) (law : Lawful rule) where
  -- a refused call keeps what holds
  keep : {s : Shape} {h new : History} {x x' : State} {t t' : Tile} → Unchanged x x' t t' new → Inv rule s h x t → Inv rule s (new ++ h) x' t'
  keep {s} {h} {new} {x} {x'} {t} {t'} u inv =
      subst (λ n. Inv rule s (n ++ h) x' t') (sym u.none) (subst (λ y. Inv rule s h y t') (sym u.state) (subst (λ z. Inv rule s h x z) (sym u.tile) inv))

  -- an accepted one goes on as its answer says
  took : {S X : Type 0} {s : Shape} {h : History} (back : S → State) (on : X → State) (a : Accepted) (answer : Result X (Refused S)) (v : X) (t' T : Tile) →
      answer ≡ Ok v → t' ≡ T → Inv rule s (a ∷ h) (on v) T → Inv rule s (added a answer ++ h) (next back on answer) t'
  took {S} {X} {s} {h} back on a answer v t' T e et inv =
      subst (λ z. Inv rule s (added a z ++ h) (next back on z) t') (sym e) (subst (λ z. Inv rule s (a ∷ h) (on v) z) (sym et) inv)

  -- one call on a slice that holds a record for each cell
  step_here : {x x' : State} {t t' : Tile} {new : History} (h : History) → Inv rule (shape_of x) h x t → Call rule x t t' x' new → Inv rule (shape_of x) (new ++ h) x' t'
  step_here h inv (Call.put {t} {t'} d row column v q answer w) =
      let no_change = λ (e : Refusal) (z : LeavesAll d t answer t' e). keep (all_again draft draft (put_at (place d.shape row column) v q) d t t' answer e z) inv in
      either no_change (λ _. either no_change (λ _. either no_change (λ inside. either no_change (λ ok a.
      took draft draft (put_at (place d.shape row column) v q) answer d t' _ a.0 a.1 (put_inv rule law h d t (place d.shape row column) v q (place_inside d.shape row column inside) ok inv))))) w
  step_here h inv (Call.tie {t} {t'} d row column k answer w) =
      let no_change = λ (e : Refusal) (z : LeavesAll d t answer t' e). keep (all_again draft draft (tied_at (place d.shape row column) k) d t t' answer e z) inv in
      either no_change (λ _. either no_change (λ _. either no_change (λ inside. either no_change (λ ok a.
      took draft draft (tied_at (place d.shape row column) k) answer d t' _ a.0 a.1 (tie_inv rule law h d t (place d.shape row column) k (place_inside d.shape row column inside) ok inv))))) w
  step_here h inv (Call.begin {t} d answer w) =
      let no_change = λ (e : Refusal) (z : GivesBack d answer e). keep (back_again draft rounding begun d t answer e z) inv in
      either no_change (λ _. either no_change (λ _ a. took draft rounding begun answer a.rounding t t a.answers refl (begin_inv rule law h d a.rounding t a.shape a.done inv))) w
  step_here h inv (Call.round {t} {t'} r n answer w) =
      let no_change = λ (e : Refusal) (z : LeavesAll r t answer t' e). keep (all_again rounding (λ a. rounding a.state) rounded r t t' answer e z) inv in
      either no_change (λ _. either no_change (λ _. either no_change (λ _. either no_change (λ reach. either no_change (λ _ a.
      took rounding (λ a. rounding a.state) rounded answer _ t' _ a.answers a.halved.writes (round_inv rule law h r a.next t a.halved.cut a.shape a.done reach a.halved.left inv)))))) w
  step_here h inv (Call.finish {t} r answer w) =
      let no_change = λ (e : Refusal) (z : GivesBack r answer e). keep (back_again rounding level finished r t answer e z) inv in
      either no_change (λ _. either no_change (λ _. either no_change (λ over a.
      took rounding level finished answer a.level t t a.answers refl (finish_inv rule law h r a.level t a.shape a.done over inv)))) w
  step_here h inv (Call.reopen_rounding {t} {t'} r answer w) =
      let no_change = λ (e : Refusal) (z : LeavesAll r t answer t' e). keep (all_again rounding draft reopened r t t' answer e z) inv in
      either no_change (λ _. either no_change (λ _ a. took rounding draft reopened answer a.draft t' _ a.answers a.writes (reopen_inv rule law r.shape h (rounding r) a.draft t a.shape inv))) w
  step_here h inv (Call.reopen_level {t} {t'} l answer w) =
      let no_change = λ (e : Refusal) (z : LeavesAll l t answer t' e). keep (all_again level draft reopened l t t' answer e z) inv in
      either no_change (λ _. either no_change (λ _ a. took level draft reopened answer a.draft t' _ a.answers a.writes (reopen_inv rule law l.shape h (level l) a.draft t a.shape inv))) w

  -- the first n records of a slice
  front_cell : (n : ℕ) (t : Tile) (u : ℕ) → u < n → cell (take n t) u ≡ cell t u
  front_cell n t u l = get_or-take n t u blank l

  -- one call, whatever it is lent of the run's records
  step : {s : Shape} {h new : History} {x x' : State} {r t t' r' : Tile} → Inv rule s h x r → Lent (cells s) r t t' r' → Call rule x t t' x' new → Inv rule s (new ++ h) x' r'
  step {s} {h} {new} {x} {x'} inv (Lent.all {t} {t'} whole) call =
      let slice : Inv rule s h x t = on_slice (take (cells s) t) t whole (λ u l. sym (front_cell (cells s) t u l)) inv in
      let after : Inv rule s (new ++ h) x' t' =
      subst (λ z. Inv rule z (new ++ h) x' t') inv.shaped (step_here h (subst (λ z. Inv rule z h x t) (sym inv.shaped) slice) call) in
      on_slice t' (take (cells s) t') (omega (arith, length-take-le (cells s) t' after.held.long)) (front_cell (cells s) t') after
  step {s} inv (Lent.part {r} {t} lt) call =
      let u = short_call (subst (λ z. length t < cells z) (sym inv.shaped) lt) call in
      keep (record { state = u.state; tile = refl; none = u.none }) inv

  invariant : {s : Shape} {h : History} {x : State} {t : Tile} → Run rule s h x t → Inv rule s h x t
  invariant {s} (Run.started {t} {t'} d es w) =
      let nothing = λ (e : Refusal) (z : (Ok d ≡ Err e) × (t' ≡ t)). (let n : ◌≡◌ {A = ℕ} 0 1 = cc z.0 in absurd (omega arith)) in
      either nothing (λ _. either nothing (λ whole a.
      let here : Inv rule s [] (draft d) t' = subst (λ z. Inv rule s [] (draft d) z) (sym a.writes) (start_inv rule law s d t es whole) in
      on_slice t' (take (cells s) t') (omega (arith, length-take-le (cells s) t' here.held.long)) (front_cell (cells s) t') here)) w
  invariant (Run.then run lent call) = step (invariant run) lent call

  -- where finish was the last call accepted the rule reaches top, since a round was done
  reaches : {s : Shape} {h k : History} {x : State} {t : Tile} → Inv rule s h x t → h ≡ finished ∷ k → s.top ≤ rule.greatest
  reaches {s} {h} {k} {x} inv e =
      elim (cases_lt rule.greatest s.top) [
        | inl lt ↦
            let few : s.top + 1 ≤ 2 ^ 0 = subst (λ (n : ℕ). s.top + 1 ≤ 2 ^ n) (inv.held.idle lt) (inv.ended k e) in
            absurd (omega (arith, s.high.0))
        | inr le ↦ le
      ]

-- ---- shapes with the same numbers are the same

abbrev Tall : ℕ → Type 0
Tall n = (1 ≤ n) × (n ≤ most_strip_rows)

abbrev Wide : ℕ → Type 0
Wide n = (1 ≤ n) × (n ≤ most_columns)

abbrev High : ℕ → Type 0
High n = (1 ≤ n) × (n ≤ most_top)

abbrev shape : (rows columns top : ℕ) → Tall rows → Wide columns → High top → Shape
shape rows columns top a b c = record { rows = rows; columns = columns; top = top; tall = a; wide = b; high = c }

alike : (rows columns top : ℕ) (a a' : Tall rows) (b b' : Wide columns) (c c' : High top) → shape rows columns top a b c ≡ shape rows columns top a' b' c'
alike rows columns top a a' b b' c c' =
    λ i. shape rows columns top (le_prop a.0 a'.0 i, le_prop a.1 a'.1 i) (le_prop b.0 b'.0 i, le_prop b.1 b'.1 i) (le_prop c.0 c'.0 i, le_prop c.1 c'.1 i)

pub same_shape : (s s' : Shape) → SameShape s s' → s' ≡ s
same_shape s s' k =
    sym
    (subst (λ (x : ℕ). (a : Tall x) → s ≡ shape x s'.columns s'.top a s'.wide s'.high) k.rows (λ a.
    subst (λ (y : ℕ). (b : Wide y) → s ≡ shape s.rows y s'.top a b s'.high) k.columns (λ b.
    subst (λ (z : ℕ). (c : High z) → s ≡ shape s.rows s.columns z a b c) k.top (λ c.
    alike s.rows s.columns s.top s.tall a s.wide b s.high c) s'.high) s'.wide) s'.tall)

-- ---- the law

pub every_run : EveryRunKeepsTheLaw
every_run rule law s h x t run =
    let inv : Inv rule s h x t = invariant rule law run in
    record {
      finished_grid_is_lowest_cheapest = λ f. lowest_held rule law (reaches rule law inv f.1) (inv.ended f.0 f.1) inv.held;
      finished_rule_reaches_top = λ f. reaches rule law inv f.1;
      lowest_cheapest_grid_exists = λ le. exists rule law s le (surveyed h) inv.held.sound;
      brackets_contain_it = λ le g low u l.
          subst (λ (b : Bracket). Holds b (g u)) (sym (inv.held.halved g (λ _. low) u l)) (halving_holds (done_of x) s.top (g u) (low.least.grid u l));
      brackets_stay_whole = λ lt. drafted rule law s (surveyed h) (done_of x) t inv.held (inv.held.idle lt);
      raised_readings_lower_no_height = λ f s' k y w same run' f' up u l.
          let inv' : Inv rule s k y w = invariant rule law (subst (λ (z : Shape). Run rule z k y w) (same_shape s s' same) run') in
          let reach = reaches rule law inv f.1 in
          compare rule law s reach (surveyed h) (surveyed k) (heights t) (heights w) inv.held.sound inv'.held.sound up
          (lowest_held rule law reach (inv.ended f.0 f.1) inv.held) (lowest_held rule law reach (inv'.ended f'.0 f'.1) inv'.held) u l;
      shape_stays = inv.shaped;
      records_hold_the_survey = inv.held.recorded;
      records_stay_sound = stays_sound rule law inv.held;
    }
