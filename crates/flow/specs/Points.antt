-- What a cut maker is given, and the four points that its cut keeps.
use Rattle.std.specs.Prelude.{◌≡◌, ℕ, ◌<◌, ◌≤◌, false, length, pos, unsigned_abs}
use Rattle.limits.specs.Limits.{most_charge, most_tie}
use Rattle.theory.specs.Sets.{SmallestCheapestSet}
use Rattle.theory.specs.Flows.{Surplus, Reached}
use Rattle.tile.specs.declared.shape.Shape.{Shape}
use Rattle.tile.specs.declared.side.Side.{Side}
use Rattle.tile.specs.Records.{stored_tie, stored_flow}
use Rattle.tile.specs.Shapes.{cells}
use Rattle.tile.specs.Ties.{has_neighbour}
use Rattle.tile.specs.Tiles.{Tile, cell}
use Rattle.flow.specs.Sides.{uncut}
use Rattle.flow.specs.Networks.{network, charges, flow_on, is_live, marks}

-- Each flow lies from minus its tie's weight to its weight, and is 0 where there is no live tie.
pub record FlowsFit (s : Shape) (t : Tile) : Type 0 where
  pub bounded : (u : ℕ) (d : Side) → u < cells s → unsigned_abs (stored_flow (cell t u) d) ≤ stored_tie (cell t u) d
  pub idle : (u : ℕ) (d : Side) → u < cells s → is_live s t u d ≡ false → stored_flow (cell t u) d ≡ pos 0

-- What a cut maker is given: a record for each cell, charges and ties within their bounds, no tie off the edge of the
-- shape, and flows that fit. The shape itself has 1 to 256 rows and 1 to 64 columns.
pub record Cuttable (s : Shape) (t : Tile) : Type 0 where
  pub whole : cells s ≤ length t
  pub charges : (u : ℕ) → u < cells s → unsigned_abs (cell t u).charge ≤ most_charge
  pub ties : (u : ℕ) (d : Side) → u < cells s → stored_tie (cell t u) d ≤ most_tie
  pub edges : (u : ℕ) (d : Side) → u < cells s → has_neighbour s u d ≡ false → stored_tie (cell t u) d ≡ 0
  pub flows : FlowsFit s t

-- The four points that a cut keeps. Remainders and residual arcs are those of the network, which has the live ties
-- alone; every other flow is 0.
pub record FourPoints (s : Shape) (before after : Tile) : Type 0 where
  -- 1. nothing but the flows, marks and ranks of the cells has changed; records past the cells have not changed at all
  pub long : length after ≡ length before
  pub past : (u : ℕ) → cells s ≤ u → cell after u ≡ cell before u
  pub kept : (u : ℕ) → u < cells s → uncut (cell after u) ≡ uncut (cell before u)
  -- 2. the flows fit
  pub flows : FlowsFit s after
  -- 3. the mark is 1 at the cells that are in deficit or that residual arcs reach from one, and 0 at all others
  pub bit : (u : ℕ) → u < cells s → (cell after u).mark ≤ 1
  pub marked : (u : ℕ) → u < cells s → Reached (network s after) (charges after) (flow_on after) u → (cell after u).mark ≡ 1
  pub reached : (u : ℕ) → u < cells s → (cell after u).mark ≡ 1 → Reached (network s after) (charges after) (flow_on after) u
  -- 4. no marked cell is in surplus
  pub no_surplus : (u : ℕ) → u < cells s → (cell after u).mark ≡ 1 → Surplus (network s after) (charges after) (flow_on after) u → ⊥

-- ---- theorem

-- The marks are the smallest cheapest set of the tile that was handed over, where a set costs its charges plus the
-- weights of the live ties with one end in it.
abbrev pub CutMarksAreTheSmallestCheapestSet : Type 0
CutMarksAreTheSmallestCheapestSet = (s : Shape) (before after : Tile) → FourPoints s before after →
    SmallestCheapestSet (network s before) (charges before) (marks after)
