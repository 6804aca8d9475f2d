-- The examples in numbers, computed.
use Rattle.std.specs.Prelude.{unsigned_abs}
use Rattle.std.proofs.Common.{◌≡◌, ℕ, false, zero, suc, ◌<◌, ◌≤◌, [], ◌∷◌, ℤ, pos, neg_ℤ, ◌<ℤ◌, Ok, Err, Result, length, refl, ap, subst, lit≤, arith}
use Rattle.std.proofs.lemmas.Int.{ints}
use Rattle.std.specs.List.{ContainsAt as Has}
use Rattle.limits.specs.Limits.{most_rows}
use Rattle.limits.specs.Refusals.{number}
use Rattle.limits.specs.declared.refusal.Refusal.{Refusal}
use Rattle.limits.specs.declared.refusal.Refusal.TheVariants.{FewRecords, Outside, Reading, Ceiling}
use Rattle.limits.specs.Checking.{Checked, refused, passed}
use Rattle.limits.proofs.Outcomes.{surely}
use Rattle.price.specs.Kinds.{absolute}
use Rattle.price.specs.Kept.{absolute_lawful}
use Rattle.theory.specs.Flows.{remainder, Surplus, forth, back, Reached, deficit, onward}
use Rattle.theory.specs.Grids.{energy, LowestCheapestGrid}
use Rattle.tile.specs.declared.bracket.Bracket.{Bracket}
use Rattle.tile.specs.declared.cell.Cell.{Cell}
use Rattle.tile.specs.declared.shape.Shape.{Shape}
use Rattle.tile.specs.declared.side.Side.{Side}
use Rattle.tile.specs.declared.side.Side.TheVariants.{Rightward, Downward}
use Rattle.tile.specs.Records.{stored_tie, stored_flow, stored_bracket}
use Rattle.tile.specs.Ties.{Tie}
use Rattle.tile.specs.Shapes.{cells, Ranged}
use Rattle.tile.specs.Tiles.{Tile, cell, blank, problem, heights}
use Rattle.flow.specs.Networks.{network, charges, flow_on, is_live}
use Rattle.flow.specs.Sides.{uncut}
use Rattle.flow.specs.Points.{FlowsFit, FourPoints}
use Rattle.passes.specs.Soundness.{SoundReading, SoundTies, SoundBracket, SoundCell, Sound}
use Rattle.passes.specs.Writing.{with_reading, fresh, weights}
use Rattle.filter.specs.declared.states.Draft.{Draft}
use Rattle.filter.specs.declared.states.Rounding.{Rounding}
use Rattle.filter.specs.declared.answers.Refused.{Refused}
use Rattle.filter.specs.Checks.{Inside}
use Rattle.filter.specs.Calls.{LeavesAll, StartDoes, PutDoes, BeginDoes, RoundDoes, FinishDoes}
use Rattle.filter.specs.Runs.{History, surveyed, tied_at, finished, begun, rounded, reopened, put_at, put, begin, round, finish, draft, rounding, level, Run, started, then, Lent}
use Rattle.filter.specs.Examples.{HistoriesAreRead, LendingIsRead, RunsCanBeMet, StartsAreRead, DraftCallsAreRead, RoundCallsAreRead, LevelCallsAreRead, one_cell, tall_cell, drafted, no_round_done, one_round_done, levelled, tall_rounding, put_in, ended, calls, given_back}
use Rattle.filter.proofs.Keeps.{every_run}
use Rattle.filter.proofs.RunsKept.{lent_whole}

-- ---- what tells two answers apart

-- the number of a refusal, and 0 where there is none
refused_with : {X : Type 0} → Result X Refusal → ℕ
refused_with (Ok _) = 0
refused_with (Err e) = number e

given_back_with : {S X : Type 0} → Result X (Refused S) → ℕ
given_back_with (Ok _) = 0
given_back_with (Err e) = number e.why

rounds_in : {E : Type 0} → Result Rounding E → ℕ
rounds_in (Ok r) = r.done
rounds_in (Err _) = 0

number_in : {E : Type 0} → Result ℕ E → ℕ
number_in (Ok n) = n
number_in (Err _) = 0

-- ---- histories

-- 1 where finish is the latest call
ends : History → ℕ
ends [] = 0
ends (put_at _ _ _ ∷ _) = 0
ends (tied_at _ _ ∷ _) = 0
ends (begun ∷ _) = 0
ends (rounded ∷ _) = 0
ends (finished ∷ _) = 1
ends (reopened ∷ _) = 0

pub histories : HistoriesAreRead
unfolding ends
histories = record {
  last_put_of_a_cell = refl;
  class_of_the_last_put = refl;
  cell_without_a_put = refl;
  tie_to_the_right = refl;
  tie_downward = refl;
  cell_without_a_tie = refl;
  finished_after_finish = (rounded ∷ [], refl);
  not_finished_at_first = λ f. omega (arith, ap length f.1);
  not_finished_after_reopen = λ f. omega (arith, ap ends f.1);
  accepted_calls_are_added = refl;
  refused_calls_are_not = refl;
}

-- the high end of the first bracket
high_of : Tile → ℕ
high_of t = (cell t 0).high

pub lending : LendingIsRead
unfolding high_of
lending = record {
  a_longer_slice = Lent.all {t = fresh 1 ∷ blank ∷ []} {t' = fresh 2 ∷ blank ∷ []} (omega arith);
  too_short_a_part = Lent.part {r = fresh 1 ∷ []} {t = []} {t' = []} (omega arith);
  too_short_whatever_it_holds = Lent.part {r = fresh 1 ∷ fresh 1 ∷ []} {t = blank ∷ []} {t' = blank ∷ []} (omega arith);
  another_record = λ l. omega (arith, ap high_of (lent_whole (omega arith) l).0);
}

-- ---- sound records of one cell

-- what holds of the one cell holds of every cell
alone : (P : ℕ → Type 0) → P 0 → (u : ℕ) → u < 1 → P u
alone P a u l = subst P (omega arith) a

-- a cell with no ties
no_ties : (s : Shape) (c : Cell) → c.right ≡ 0 → c.down ≡ 0 → SoundTies s 0 (stored_tie c)
no_ties s c right down Rightward = record { few = omega arith; edge = λ e. right }
no_ties s c right down Downward = record { few = omega arith; edge = λ e. down }

one_sound : (s : Shape) → cells s ≡ 1 → (done : ℕ) (c : Cell) → SoundReading s.top c.reading c.class → c.right ≡ 0 → c.down ≡ 0 → SoundBracket s.top done (stored_bracket c) → Sound s done (c ∷ [])
one_sound s one done c reading right down bracket u l =
    alone (λ v. SoundCell s done v (cell (c ∷ []) v)) (record { reading = reading; ties = no_ties s c right down; bracket = bracket }) u (omega (arith, one))

fresh_sound : Sound one_cell 0 (fresh 1 ∷ [])
fresh_sound = one_sound one_cell refl 0 (fresh 1) (record { reading = omega arith; class = omega arith }) refl refl (record { height = omega arith; halved = refl })

tall_sound : Sound tall_cell 0 (fresh 2 ∷ [])
tall_sound = one_sound tall_cell refl 0 (fresh 2) (record { reading = omega arith; class = omega arith }) refl refl (record { height = omega arith; halved = refl })

pub put_sound : (v : ℕ) → v ≤ 1 → Sound one_cell 0 (put_in v)
put_sound v l = one_sound one_cell refl 0 (with_reading v 1 (fresh 1)) (record { reading = l; class = omega arith }) refl refl (record { height = omega arith; halved = refl })

-- a record of the end
ended_sound : (c : Cell) → c.reading ≤ 1 → c.class ≡ 1 → c.right ≡ 0 → c.down ≡ 0 → SoundBracket 1 1 (stored_bracket c) → Sound one_cell 1 (c ∷ [])
ended_sound c l q right down bracket = one_sound one_cell refl 1 c (record { reading = l; class = omega arith }) right down bracket

sound_at_0 : (z : ℤ) → Sound one_cell 1 (ended 0 z)
sound_at_0 z = ended_sound _ (omega arith) refl refl refl (record { height = omega arith; halved = refl })

pub sound_at_1 : (z : ℤ) → Sound one_cell 1 (ended 1 z)
sound_at_1 z = ended_sound _ (omega arith) refl refl refl (record { height = omega arith; halved = refl })

-- ---- one cut of one cell: it is marked exactly where its charge is below 0

abbrev cut : ℕ → ℤ → ℕ → Tile
cut v z m = record { reading = v; class = 1; right = 0; down = 0; right_flow = pos 0; down_flow = pos 0; low = 0; high = 1; charge = z; mark = m; rank = 0 } ∷ []

untied : (x : Tie) → Has [] x → ⊥
untied x (i, l, at) = omega arith

module _ (v : ℕ) (z : ℤ) (m : ℕ) where
  reached_below_0 : {u : ℕ} → Reached (network one_cell (cut v z m)) (charges (cut v z m)) (flow_on (cut v z m)) u → z <ℤ pos 0
  reached_below_0 {u} (deficit l h) =
      let first : u ≡ 0 = omega arith in
      let here : remainder (network one_cell (cut v z m)) (charges (cut v z m)) (flow_on (cut v z m)) 0 <ℤ pos 0
      = subst (λ w. remainder (network one_cell (cut v z m)) (charges (cut v z m)) (flow_on (cut v z m)) w <ℤ pos 0) first h in
      omega (arith, ints, here)
  reached_below_0 (onward r (forth x i near far w)) = absurd (untied x i)
  reached_below_0 (onward r (back x i far near w)) = absurd (untied x i)

  nothing_flows : FlowsFit one_cell (cut v z m)
  nothing_flows = record { bounded = bounded; idle = idle }
    where
      bounded : (u : ℕ) (d : Side) → u < 1 → unsigned_abs (stored_flow (cell (cut v z m) u) d) ≤ stored_tie (cell (cut v z m) u) d
      bounded u Rightward = alone (λ w. unsigned_abs (cell (cut v z m) w).right_flow ≤ (cell (cut v z m) w).right) (omega arith) u
      bounded u Downward = alone (λ w. unsigned_abs (cell (cut v z m) w).down_flow ≤ (cell (cut v z m) w).down) (omega arith) u

      idle : (u : ℕ) (d : Side) → u < 1 → is_live one_cell (cut v z m) u d ≡ false → stored_flow (cell (cut v z m) u) d ≡ pos 0
      idle u Rightward l _ = alone (λ w. (cell (cut v z m) w).right_flow ≡ pos 0) refl u l
      idle u Downward l _ = alone (λ w. (cell (cut v z m) w).down_flow ≡ pos 0) refl u l

  points : m ≤ 1 → (m ≡ 1 → z <ℤ pos 0) → (z <ℤ pos 0 → m ≡ 1) → FourPoints one_cell (cut v z 0) (cut v z m)
  points few below above = record {
    long = refl;
    past = past;
    kept = alone (λ u. uncut (cell (cut v z m) u) ≡ uncut (cell (cut v z 0) u)) refl;
    flows = nothing_flows;
    bit = alone (λ u. (cell (cut v z m) u).mark ≤ 1) few;
    marked = λ u l r. alone (λ w. (cell (cut v z m) w).mark ≡ 1) (above (reached_below_0 r)) u l;
    reached = alone (λ u. (cell (cut v z m) u).mark ≡ 1 → Reached (network one_cell (cut v z m)) (charges (cut v z m)) (flow_on (cut v z m)) u)
        (λ e. deficit (omega arith) (omega (arith, ints, below e)));
    no_surplus = alone (λ u. (cell (cut v z m) u).mark ≡ 1 → Surplus (network one_cell (cut v z m)) (charges (cut v z m)) (flow_on (cut v z m)) u → ⊥)
        (λ e more. omega (arith, ints, below e, more));
  }
    where
      past : (u : ℕ) → 1 ≤ u → cell (cut v z m) u ≡ cell (cut v z 0) u
      past zero l = absurd (omega arith)
      past (suc u) l = refl

-- ---- what the calls answer

ranged : Ranged most_rows 1 1 1
ranged = record { some_rows = omega arith; few_rows = omega arith; some_columns = omega arith; few_columns = omega arith; some_top = omega arith; low_top = omega arith }

range_first : StartDoes 0 1 1 [] (Err FewRecords) [] → ⊥
unfolding refused_with
range_first (refused _ _ z) = omega (arith, ap refused_with z.0)
range_first (passed r _) = omega (arith, r.some_rows)

start_done : StartDoes 1 1 1 (blank ∷ []) (Ok drafted) (fresh 1 ∷ [])
start_done = passed ranged (passed (omega arith) (record { draft = drafted; answers = refl; shape = record { ranged = ranged; same_rows = refl; same_columns = refl; same_top = refl }; writes = refl }))

pub starts : StartsAreRead
starts = record {
  started = passed ranged (passed (omega arith) (record { draft = drafted; answers = refl; shape = record { ranged = ranged; same_rows = refl; same_columns = refl; same_top = refl }; writes = refl }));
  no_rows = refused (λ r. omega (arith, r.some_rows)) refl (refl, refl);
  no_record = passed ranged (refused (λ l. omega (arith, l)) refl (refl, refl));
  range_comes_first = range_first;
}

row_first : {Rest : Type 0} → Checked 4 Outside (Inside one_cell 1 0) (LeavesAll {X = Draft} drafted (fresh 1 ∷ []) (given_back drafted Reading) (fresh 1 ∷ [])) Rest → ⊥
unfolding given_back_with
row_first (refused _ _ z) = omega (arith, ap given_back_with z.0)
row_first (passed inside _) = omega (arith, inside.0)

weightless : SoundTies one_cell 0 (weights 0 0)
weightless Rightward = record { few = omega arith; edge = λ e. refl }
weightless Downward = record { few = omega arith; edge = λ e. refl }

put_done : (v : ℕ) → v ≤ 1 → PutDoes drafted (fresh 1 ∷ []) 0 0 v 1 (Ok drafted) (put_in v)
put_done v l = passed (omega arith) (passed fresh_sound (passed (omega arith, omega arith) (passed (record { reading = l; class = omega arith }) (refl, refl))))

begin_done : (v : ℕ) → v ≤ 1 → BeginDoes drafted (put_in v) (Ok no_round_done)
begin_done v l = passed (omega arith) (passed (put_sound v l) (record { rounding = no_round_done; answers = refl; shape = refl; done = refl }))

pub draft_calls : DraftCallsAreRead
unfolding rounds_in
draft_calls = record {
  reading_put = put_done 1 (omega arith);
  no_record = refused (λ l. omega (arith, l)) refl (refl, refl);
  corrupt_record = passed (omega arith) (refused (λ s. omega (arith, ap (λ (b : Bracket). b.high) (s 0 (omega arith)).bracket.halved)) refl (refl, refl));
  row_outside = passed (omega arith) (passed fresh_sound (refused (λ i. omega (arith, i.0)) refl (refl, refl)));
  reading_above_top = passed (omega arith) (passed fresh_sound (passed (omega arith, omega arith) (refused (λ r. omega (arith, r.reading)) refl (refl, refl))));
  row_comes_first = λ k. row_first (surely fresh_sound (surely (omega arith) k));
  tie_off_the_edge = passed (omega arith) (passed fresh_sound (passed (omega arith, omega arith) (refused (λ ties. omega (arith, (ties Rightward).edge refl)) refl (refl, refl))));
  no_tie = passed (omega arith) (passed (put_sound 1 (omega arith)) (passed (omega arith, omega arith) (passed weightless (refl, refl))));
  begins = begin_done 1 (omega arith);
  begins_with_no_round_done = λ k. (let b = surely (put_sound 1 (omega arith)) (surely (omega arith) k) in omega (arith, ap rounds_in b.answers, b.done));
}

round_done_0 : RoundDoes (absolute 1) FourPoints no_round_done (put_in 0) 1 (Ok (record { state = one_round_done; done = 1 })) (ended 0 (pos 1))
round_done_0 = passed (omega arith) (passed (put_sound 0 (omega arith)) (passed (omega arith) (passed (omega arith) (passed (omega arith)
    (record { next = one_round_done; answers = refl; shape = refl; done = refl; halved = record { cut = cut 0 (pos 1) 0; left = points 0 (pos 1) 0 (omega arith) (λ e. absurd (omega (arith, e))) (λ e. absurd (omega (arith, ints, e))); writes = refl } })))))

round_done_1 : RoundDoes (absolute 1) FourPoints no_round_done (put_in 1) 1 (Ok (record { state = one_round_done; done = 1 })) (ended 1 (neg_ℤ (pos 1)))
round_done_1 = passed (omega arith) (passed (put_sound 1 (omega arith)) (passed (omega arith) (passed (omega arith) (passed (omega arith)
    (record { next = one_round_done; answers = refl; shape = refl; done = refl; halved = record { cut = cut 1 (neg_ℤ (pos 1)) 1; left = points 1 (neg_ℤ (pos 1)) 1 (omega arith) (λ e. omega (arith, ints)) (λ e. refl); writes = refl } })))))

ceiling : RoundDoes (absolute 1) FourPoints tall_rounding (fresh 2 ∷ []) 1 (given_back tall_rounding Ceiling) (fresh 2 ∷ [])
ceiling = passed (omega arith) (passed tall_sound (passed (omega arith) (refused (λ l. omega (arith, l)) refl (refl, refl))))

finish_done : (t : Tile) → length t ≡ 1 → Sound one_cell 1 t → FinishDoes one_round_done t (Ok levelled)
finish_done t long sound = passed (omega (arith, long)) (passed sound (passed (omega arith) (record { level = levelled; answers = refl; shape = refl; done = refl })))

pub round_calls : RoundCallsAreRead
round_calls = record {
  marked_round = round_done_1;
  unmarked_round = round_done_0;
  no_entry = passed (omega arith) (passed (put_sound 1 (omega arith)) (refused (λ l. omega (arith, l)) refl (refl, refl)));
  no_round_left = passed (omega arith) (passed (sound_at_0 (pos 1)) (passed (omega arith) (passed (omega arith) (refused (λ l. omega (arith, l)) refl (refl, refl)))));
  rule_below_top = ceiling;
  a_round_is_left = passed (omega arith) (passed (put_sound 1 (omega arith)) (refused (λ l. omega (arith, l)) refl refl));
  none_is_left = finish_done (ended 0 (pos 1)) refl (sound_at_0 (pos 1));
}

pub level_calls : LevelCallsAreRead
unfolding energy number_in
level_calls = record {
  height_of_the_cell = passed (omega arith) (passed (sound_at_1 (pos 0)) (passed (omega arith, omega arith) refl));
  column_outside = passed (omega arith) (passed (sound_at_1 (pos 0)) (refused (λ i. omega (arith, i.1)) refl refl));
  cost_of_the_reading = passed (omega arith) (passed (sound_at_1 (pos 0)) (passed (omega arith) refl));
  cost_of_no_more = λ k. omega (arith, ap number_in (surely (omega arith) (surely (sound_at_1 (pos 0)) (surely (omega arith) k))));
  reopened_tile = passed (omega arith) (passed (sound_at_1 (pos 0)) (record { draft = drafted; answers = refl; shape = refl; writes = refl }));
}

-- ---- whole runs

begun_run : (v : ℕ) → v ≤ 1 → Run (absolute 1) one_cell (begun ∷ put_at 0 v 1 ∷ []) (rounding no_round_done) (put_in v)
begun_run v l = then put_run (Lent.all {t = put_in v} {t' = put_in v} (omega arith)) (begin drafted (Ok no_round_done) (begin_done v l))
  where
    started_run : Run (absolute 1) one_cell [] (draft drafted) (fresh 1 ∷ [])
    started_run = started {t = blank ∷ []} {t' = fresh 1 ∷ []} drafted refl start_done

    put_run : Run (absolute 1) one_cell (put_at 0 v 1 ∷ []) (draft drafted) (put_in v)
    put_run = then started_run (Lent.all {t = fresh 1 ∷ []} {t' = put_in v} (omega arith)) (put drafted 0 0 v 1 (Ok drafted) (put_done v l))

pub runs : RunsCanBeMet
unfolding energy
runs = record {
  run_of_the_reading_0 = ended_run 0 (pos 1) (omega arith) round_done_0 (sound_at_0 (pos 1));
  run_of_the_reading_1 = run_of_1;
  both_are_finished = λ v. (rounded ∷ begun ∷ put_at 0 v 1 ∷ [], refl);
  height_1_is_lowest_cheapest = lowest;
  height_0_is_not = λ k. omega (arith, k.least.cheapest (heights (ended 1 (neg_ℤ (pos 1)))) lowest.least.grid);
  of_the_same_shape = record { rows = refl; columns = refl; top = refl };
  raised_from_0_to_1 = record { class = λ u l. refl; tie = λ u d l. refl; reading = alone (λ u. (surveyed (calls 0)).reading u ≤ (surveyed (calls 1)).reading u) (omega arith) };
  not_from_1_to_0 = λ r. omega (arith, r.reading 0 (omega arith));
  top_in_reach_of_the_rule = omega arith;
  run_below_top = then begun_tall (Lent.all {t = fresh 2 ∷ []} {t' = fresh 2 ∷ []} (omega arith)) (round tall_rounding 1 (given_back tall_rounding Ceiling) ceiling);
  no_run_below_top_is_finished = λ h x t run f.
      let reach = (every_run (absolute 1) (absolute_lawful 1 (omega arith, omega arith)) tall_cell h x t run).finished_rule_reaches_top f in
      omega (arith, reach);
  top_out_of_reach = omega arith;
}
  where
    ended_run : (v : ℕ) (z : ℤ) → v ≤ 1 → RoundDoes (absolute 1) FourPoints no_round_done (put_in v) 1 (Ok (record { state = one_round_done; done = 1 })) (ended v z) → Sound one_cell 1 (ended v z) →
        Run (absolute 1) one_cell (calls v) (level levelled) (ended v z)
    ended_run v z l does sound = then rounded_run (Lent.all {t = ended v z} {t' = ended v z} (omega arith)) (finish one_round_done (Ok levelled) (finish_done (ended v z) refl sound))
      where
        rounded_run : Run (absolute 1) one_cell (rounded ∷ begun ∷ put_at 0 v 1 ∷ []) (rounding one_round_done) (ended v z)
        rounded_run = then (begun_run v l) (Lent.all {t = put_in v} {t' = ended v z} (omega arith)) (round no_round_done 1 (Ok (record { state = one_round_done; done = 1 })) does)

    tall_draft : Draft
    tall_draft = record { shape = tall_cell; tall = lit≤ tt }

    begun_tall : Run (absolute 1) tall_cell (begun ∷ []) (rounding tall_rounding) (fresh 2 ∷ [])
    begun_tall = then (started {t = blank ∷ []} {t' = fresh 2 ∷ []} tall_draft refl (passed tall_range (passed (omega arith) (record { draft = tall_draft; answers = refl; shape = record { ranged = tall_range; same_rows = refl; same_columns = refl; same_top = refl }; writes = refl }))))
        (Lent.all {t = fresh 2 ∷ []} {t' = fresh 2 ∷ []} (omega arith))
        (begin tall_draft (Ok tall_rounding) (passed (omega arith) (passed tall_sound (record { rounding = tall_rounding; answers = refl; shape = refl; done = refl }))))
      where
        tall_range : Ranged most_rows 1 1 2
        tall_range = record { some_rows = omega arith; few_rows = omega arith; some_columns = omega arith; few_columns = omega arith; some_top = omega arith; low_top = omega arith }

    run_of_1 : Run (absolute 1) one_cell (calls 1) (level levelled) (ended 1 (neg_ℤ (pos 1)))
    run_of_1 = ended_run 1 (neg_ℤ (pos 1)) (omega arith) round_done_1 (sound_at_1 (neg_ℤ (pos 1)))

    -- by the law of runs
    lowest : LowestCheapestGrid (problem (absolute 1) one_cell (surveyed (calls 1))) (heights (ended 1 (neg_ℤ (pos 1))))
    lowest = (every_run (absolute 1) (absolute_lawful 1 (omega arith, omega arith)) one_cell (calls 1) (level levelled) (ended 1 (neg_ℤ (pos 1))) run_of_1).finished_grid_is_lowest_cheapest (rounded ∷ begun ∷ put_at 0 1 1 ∷ [], refl)
