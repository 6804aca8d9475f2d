-- Examples in numbers, which pin the definitions: whole runs on a tile of one cell, and what its calls answer.
use Rattle.std.specs.Prelude.{◌≡◌, ℕ, ◌<◌, ◌≤◌, [], ◌∷◌, Ok, Err, Result, ℤ, pos, neg_ℤ}
use Rattle.std.proofs.Common.{lit≤}
use Rattle.limits.specs.declared.refusal.Refusal.{Refusal}
use Rattle.limits.specs.declared.refusal.Refusal.TheVariants.{Range, FewRecords, Corrupt, Outside, Reading, Tie, FewEntries, Ceiling, NoRoundLeft, RoundsLeft}
use Rattle.price.specs.Kinds.{absolute}
use Rattle.theory.specs.Grids.{LowestCheapestGrid}
use Rattle.tile.specs.declared.shape.Shape.{Shape}
use Rattle.tile.specs.declared.side.Side.TheVariants.{Rightward, Downward}
use Rattle.tile.specs.Tiles.{Tile, blank, problem, heights}
use Rattle.flow.specs.Points.{FourPoints}
use Rattle.passes.specs.Writing.{with_reading, weights, fresh}
use Rattle.filter.specs.declared.states.Draft.{Draft}
use Rattle.filter.specs.declared.states.Rounding.{Rounding}
use Rattle.filter.specs.declared.states.Level.{Level}
use Rattle.filter.specs.declared.answers.Refused.{Refused}
use Rattle.filter.specs.Calls.{StartDoes, PutDoes, TieDoes, BeginDoes, RoundDoes, FinishDoes, ReopenDoes, HeightDoes, CostDoes}
use Rattle.filter.specs.Runs.{put_at, tied_at, begun, rounded, finished, reopened, History, Finished, surveyed, State, rounding, level, added, Lent, Run}
use Rattle.filter.specs.Laws.{SameShape, Raised}

-- ---- what a history surveyed

-- two puts to cell 0 and a tie there, the latest first
abbrev pub puts : History
puts = begun ∷ put_at 0 7 2 ∷ tied_at 0 (weights 6 8) ∷ put_at 0 5 1 ∷ []

pub record HistoriesAreRead : Type 0 where
  pub last_put_of_a_cell : (surveyed puts).reading 0 ≡ 7
  pub class_of_the_last_put : (surveyed puts).class 0 ≡ 2
  pub cell_without_a_put : (surveyed puts).reading 1 ≡ 0
  pub tie_to_the_right : (surveyed puts).tie 0 Rightward ≡ 6
  pub tie_downward : (surveyed puts).tie 0 Downward ≡ 8
  pub cell_without_a_tie : (surveyed puts).tie 1 Rightward ≡ 0
  pub finished_after_finish : Finished (finished ∷ rounded ∷ [])
  pub not_finished_at_first : Finished [] → ⊥
  pub not_finished_after_reopen : Finished (reopened ∷ finished ∷ rounded ∷ []) → ⊥
  pub accepted_calls_are_added : added {X = ℕ} {E = ℕ} finished (Ok 0) ≡ finished ∷ []
  pub refused_calls_are_not : added {X = ℕ} {E = ℕ} finished (Err 0) ≡ []

-- what a call may be lent of a run's records: a slice that begins with them, or one that is too short, but no other records
pub record LendingIsRead : Type 0 where
  pub a_longer_slice : Lent 1 (fresh 1 ∷ []) (fresh 1 ∷ blank ∷ []) (fresh 2 ∷ blank ∷ []) (fresh 2 ∷ [])
  pub too_short_a_part : Lent 1 (fresh 1 ∷ []) [] [] (fresh 1 ∷ [])
  pub too_short_whatever_it_holds : Lent 2 (fresh 1 ∷ fresh 1 ∷ []) (blank ∷ []) (blank ∷ []) (fresh 1 ∷ fresh 1 ∷ [])
  pub another_record : Lent 1 (fresh 1 ∷ []) (blank ∷ []) (blank ∷ []) (blank ∷ []) → ⊥

-- ---- a tile of one cell, with heights 0 and 1

abbrev pub one_cell : Shape
one_cell = record { rows = 1; columns = 1; top = 1; tall = (lit≤ tt, lit≤ tt); wide = (lit≤ tt, lit≤ tt); high = (lit≤ tt, lit≤ tt) }

abbrev pub drafted : Draft
drafted = record { shape = one_cell; tall = lit≤ tt }

abbrev pub no_round_done : Rounding
no_round_done = record { shape = one_cell; done = 0; tall = lit≤ tt; few = lit≤ tt }

abbrev pub one_round_done : Rounding
one_round_done = record { shape = one_cell; done = 1; tall = lit≤ tt; few = lit≤ tt }

abbrev pub levelled : Level
levelled = record { shape = one_cell; done = 1; tall = lit≤ tt; few = lit≤ tt; over = lit≤ tt }

-- its record once the reading v is put, with class 1
abbrev pub put_in : ℕ → Tile
put_in v = with_reading v 1 (fresh 1) ∷ []

-- and at the end, where it had the charge z: the height, and the mark, are the reading
abbrev pub ended : ℕ → ℤ → Tile
ended v z = record { reading = v; class = 1; right = 0; down = 0; right_flow = pos 0; down_flow = pos 0; low = v; high = v; charge = z; mark = v; rank = 0 } ∷ []

-- start, put, begin, a round and finish
abbrev pub calls : ℕ → History
calls v = finished ∷ rounded ∷ begun ∷ put_at 0 v 1 ∷ []

-- the same cell with heights up to 2, more than the rule for levels up to 1 reaches
abbrev pub tall_cell : Shape
tall_cell = record { rows = 1; columns = 1; top = 2; tall = (lit≤ tt, lit≤ tt); wide = (lit≤ tt, lit≤ tt); high = (lit≤ tt, lit≤ tt) }

abbrev pub tall_rounding : Rounding
tall_rounding = record { shape = tall_cell; done = 0; tall = lit≤ tt; few = lit≤ tt }

-- What the law of runs asks for. The reading 0 makes the height 0, and the reading 1 the height 1.
pub record RunsCanBeMet : Type 0 where
  pub run_of_the_reading_0 : Run (absolute 1) one_cell (calls 0) (level levelled) (ended 0 (pos 1))
  pub run_of_the_reading_1 : Run (absolute 1) one_cell (calls 1) (level levelled) (ended 1 (neg_ℤ (pos 1)))
  pub both_are_finished : (v : ℕ) → Finished (calls v)
  pub height_1_is_lowest_cheapest : LowestCheapestGrid (problem (absolute 1) one_cell (surveyed (calls 1))) (heights (ended 1 (neg_ℤ (pos 1))))
  pub height_0_is_not : LowestCheapestGrid (problem (absolute 1) one_cell (surveyed (calls 1))) (heights (ended 0 (pos 1))) → ⊥
  pub of_the_same_shape : SameShape one_cell one_cell
  pub raised_from_0_to_1 : Raised one_cell (surveyed (calls 0)) (surveyed (calls 1))
  pub not_from_1_to_0 : Raised one_cell (surveyed (calls 1)) (surveyed (calls 0)) → ⊥
  pub top_in_reach_of_the_rule : one_cell.top ≤ (absolute 1).greatest
  -- its last call is a round that is refused
  pub run_below_top : Run (absolute 1) tall_cell (begun ∷ []) (rounding tall_rounding) (fresh 2 ∷ [])
  -- and none of them is ever finished
  pub no_run_below_top_is_finished : (h : History) (x : State) (t : Tile) → Run (absolute 1) tall_cell h x t → Finished h → ⊥
  pub top_out_of_reach : (absolute 1).greatest < tall_cell.top

-- ---- what each call of such a run answers

-- a refusal that gives back its state
abbrev pub given_back : {S X : Type 0} → S → Refusal → Result X (Refused S)
given_back state why = Err (record { state = state; why = why })

pub record StartsAreRead : Type 0 where
  pub started : StartDoes 1 1 1 (blank ∷ blank ∷ []) (Ok drafted) (fresh 1 ∷ blank ∷ [])
  pub no_rows : StartDoes 0 1 1 (blank ∷ []) (Err Range) (blank ∷ [])
  pub no_record : StartDoes 1 1 1 [] (Err FewRecords) []
  pub range_comes_first : StartDoes 0 1 1 [] (Err FewRecords) [] → ⊥

pub record DraftCallsAreRead : Type 0 where
  pub reading_put : PutDoes drafted (fresh 1 ∷ []) 0 0 1 1 (Ok drafted) (put_in 1)
  pub no_record : PutDoes drafted [] 0 0 1 1 (given_back drafted FewRecords) []
  pub corrupt_record : PutDoes drafted (blank ∷ []) 0 0 1 1 (given_back drafted Corrupt) (blank ∷ [])
  pub row_outside : PutDoes drafted (fresh 1 ∷ []) 1 0 1 1 (given_back drafted Outside) (fresh 1 ∷ [])
  pub reading_above_top : PutDoes drafted (fresh 1 ∷ []) 0 0 2 1 (given_back drafted Reading) (fresh 1 ∷ [])
  pub row_comes_first : PutDoes drafted (fresh 1 ∷ []) 1 0 2 1 (given_back drafted Reading) (fresh 1 ∷ []) → ⊥
  pub tie_off_the_edge : TieDoes drafted (fresh 1 ∷ []) 0 0 (weights 6 0) (given_back drafted Tie) (fresh 1 ∷ [])
  pub no_tie : TieDoes drafted (put_in 1) 0 0 (weights 0 0) (Ok drafted) (put_in 1)
  pub begins : BeginDoes drafted (put_in 1) (Ok no_round_done)
  pub begins_with_no_round_done : BeginDoes drafted (put_in 1) (Ok one_round_done) → ⊥

pub record RoundCallsAreRead : Type 0 where
  pub marked_round : RoundDoes (absolute 1) FourPoints no_round_done (put_in 1) 1 (Ok (record { state = one_round_done; done = 1 })) (ended 1 (neg_ℤ (pos 1)))
  pub unmarked_round : RoundDoes (absolute 1) FourPoints no_round_done (put_in 0) 1 (Ok (record { state = one_round_done; done = 1 })) (ended 0 (pos 1))
  pub no_entry : RoundDoes (absolute 1) FourPoints no_round_done (put_in 1) 0 (given_back no_round_done FewEntries) (put_in 1)
  pub no_round_left : RoundDoes (absolute 1) FourPoints one_round_done (ended 0 (pos 1)) 1 (given_back one_round_done NoRoundLeft) (ended 0 (pos 1))
  pub rule_below_top : RoundDoes (absolute 1) FourPoints tall_rounding (fresh 2 ∷ []) 1 (given_back tall_rounding Ceiling) (fresh 2 ∷ [])
  pub a_round_is_left : FinishDoes no_round_done (put_in 1) (given_back no_round_done RoundsLeft)
  pub none_is_left : FinishDoes one_round_done (ended 0 (pos 1)) (Ok levelled)

pub record LevelCallsAreRead : Type 0 where
  pub height_of_the_cell : HeightDoes levelled (ended 1 (pos 0)) 0 0 (Ok 1)
  pub column_outside : HeightDoes levelled (ended 1 (pos 0)) 0 1 (Err Outside)
  pub cost_of_the_reading : CostDoes (absolute 1) levelled (ended 1 (pos 0)) (Ok 0)
  pub cost_of_no_more : CostDoes (absolute 1) levelled (ended 1 (pos 0)) (Ok 1) → ⊥
  pub reopened_tile : ReopenDoes levelled one_cell 1 (ended 1 (pos 0)) (Ok drafted) (put_in 1)
