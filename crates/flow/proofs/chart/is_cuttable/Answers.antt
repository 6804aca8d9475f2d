use Rattle.std.proofs.Common.{ℕ, ◌<◌, ◌≤◌, length, arith}
use Rattle.tile.specs.declared.shape.Shape.{Shape}
use Rattle.tile.specs.declared.side.Side.{Side}
use Rattle.tile.specs.declared.side.Side.TheVariants.{Rightward, Downward}
use Rattle.tile.specs.Shapes.{cells}
use Rattle.tile.specs.Tiles.{Tile}
use Rattle.flow.specs.Points.{Cuttable}
use Rattle.flow.specs.Charts.{SideFits, CellFits, AllFit}
use Rattle.flow.proofs.chart.is_cuttable.Goals as goal

side_of : (s : Shape) (t : Tile) (u : ℕ) (d : Side) → u < cells s → Cuttable s t → SideFits s t u d
side_of s t u d l k = record { tie = k.ties u d l; edge = k.edges u d l; bounded = k.flows.bounded u d l; idle = k.flows.idle u d l }

side_fits : (s : Shape) (t : Tile) (u : ℕ) (d : Side) → CellFits s t u → SideFits s t u d
side_fits s t u Rightward k = k.right
side_fits s t u Downward k = k.down

-- a tile may be cut where every cell fits
cuttable_fits : (s : Shape) (t : Tile) → cells s ≤ length t → AllFit s t → Cuttable s t
cuttable_fits s t whole all = record {
  whole = whole;
  charges = λ u l. (all u l).charge;
  ties = λ u d l. (side_fits s t u d (all u l)).tie;
  edges = λ u d l. (side_fits s t u d (all u l)).edge;
  flows = record { bounded = λ u d l. (side_fits s t u d (all u l)).bounded; idle = λ u d l. (side_fits s t u d (all u l)).idle };
}

fits_cuttable : (s : Shape) (t : Tile) → Cuttable s t → AllFit s t
fits_cuttable s t k u l = record { charge = k.charges u l; right = side_of s t u Rightward l k; down = side_of s t u Downward l k }

pub returns-then-tile-cells : goal.returns-then-tile-cells
returns-then-tile-cells c =
    (λ e. cuttable_fits c.args.shape c.args.tile.now (omega arith) (c.fits.ensures.0 e), λ k. c.fits.ensures.1 (fits_cuttable c.args.shape c.args.tile.now k))
