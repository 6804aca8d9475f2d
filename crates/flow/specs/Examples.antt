-- Examples in numbers, which pin the definitions: the first cut of readings 0 and 10 over a tie of weight 6, with charges 11 and −9.
use Rattle.std.specs.Prelude.{◌≡◌, ℕ, false, true, [], ◌∷◌, pos, neg_ℤ}
use Rattle.theory.specs.Sets.{SmallestCheapestSet}
use Rattle.theory.specs.Flows.{remainder}
use Rattle.tile.specs.declared.cell.Cell.{Cell}
use Rattle.tile.specs.declared.side.Side.TheVariants.{Rightward}
use Rattle.tile.specs.Ties.{Tie}
use Rattle.tile.specs.Tiles.{Tile}
use Rattle.tile.specs.Examples.{two_in_a_row, first, second, settled_at_seven, pair}
use Rattle.flow.specs.Sides.{uncut}
use Rattle.flow.specs.Networks.{charges, flow_on, network, is_live, marks}
use Rattle.flow.specs.Points.{Cuttable, FourPoints}

-- the tie between the two
abbrev pub between : Tie
between = record { cell = 0; side = Rightward }

-- the two records before the cut, with flows and marks at 0; `pair` are the two after it, with 6 running back and the marks 0 and 1
abbrev pub before : Tile
before = uncut first ∷ uncut second ∷ []

pub record NetworksAreRead : Type 0 where
  pub one_live_tie : (network two_in_a_row pair).ties ≡ between ∷ []
  pub none_to_a_settled_cell : (network two_in_a_row (first ∷ settled_at_seven ∷ [])).ties ≡ []
  pub live_to_the_right : is_live two_in_a_row pair 0 Rightward ≡ true
  pub none_off_the_edge : is_live two_in_a_row pair 1 Rightward ≡ false
  pub flow_of_the_tie : flow_on pair between ≡ neg_ℤ (pos 6)
  pub charge_of_the_second_cell : charges pair 1 ≡ neg_ℤ (pos 9)
  pub first_is_not_marked : marks pair 0 ≡ false
  pub second_is_marked : marks pair 1 ≡ true
  pub remainder_of_the_first_cell : remainder (network two_in_a_row pair) (charges pair) (flow_on pair) 0 ≡ pos 5
  pub remainder_of_the_second_cell : remainder (network two_in_a_row pair) (charges pair) (flow_on pair) 1 ≡ neg_ℤ (pos 3)
  pub uncut_leaves_no_mark : (uncut second).mark ≡ 0

-- ---- what a cut maker may be given

-- the first record, with one more flowing back than the tie weighs
abbrev pub overfull : Cell
overfull = record { reading = 0; class = 1; right = 6; down = 0; right_flow = neg_ℤ (pos 7); down_flow = pos 0; low = 0; high = 10; charge = pos 11; mark = 0; rank = 0 }

pub record TilesToCut : Type 0 where
  pub before_the_cut : Cuttable two_in_a_row before
  pub after_it : Cuttable two_in_a_row pair
  pub one_record_is_too_few : Cuttable two_in_a_row (first ∷ []) → ⊥
  pub a_flow_on_a_tie_that_is_not_live : Cuttable two_in_a_row (first ∷ settled_at_seven ∷ []) → ⊥
  pub a_flow_past_the_weight : Cuttable two_in_a_row (overfull ∷ second ∷ []) → ⊥
  pub a_tie_off_the_edge : Cuttable two_in_a_row (uncut first ∷ uncut first ∷ []) → ⊥

-- ---- what it leaves

-- a record with another mark
abbrev pub marked : ℕ → Cell → Cell
marked m c = record { reading = c.reading; class = c.class; right = c.right; down = c.down; right_flow = c.right_flow; down_flow = c.down_flow; low = c.low; high = c.high; charge = c.charge; mark = m; rank = c.rank }

-- Where nothing flows, the second cell is in deficit and the first is reached from it and is in surplus, so no marks will do. Where
-- 6 flow back, only the second cell is reached.
pub record PointsOfCuts : Type 0 where
  pub six_back_keep_the_four_points : FourPoints two_in_a_row before pair
  pub the_marks_are_the_smallest_cheapest_set : SmallestCheapestSet (network two_in_a_row before) (charges before) (marks pair)
  pub flat_flows_break_point_4 : FourPoints two_in_a_row before (marked 1 (uncut first) ∷ marked 1 (uncut second) ∷ []) → ⊥
  pub flat_flows_and_one_mark_break_point_3 : FourPoints two_in_a_row before (uncut first ∷ marked 1 (uncut second) ∷ []) → ⊥
  pub both_marks_break_point_3 : FourPoints two_in_a_row before (marked 1 first ∷ second ∷ []) → ⊥
  pub a_mark_of_2_breaks_point_3 : FourPoints two_in_a_row before (first ∷ marked 2 second ∷ []) → ⊥
  pub seven_back_break_point_2 : FourPoints two_in_a_row before (overfull ∷ second ∷ []) → ⊥
  pub another_charge_breaks_point_1 : FourPoints two_in_a_row before (first ∷ settled_at_seven ∷ []) → ⊥
  pub another_record_past_the_cells_breaks_point_1 : FourPoints two_in_a_row (uncut first ∷ uncut second ∷ first ∷ []) (first ∷ second ∷ second ∷ []) → ⊥
