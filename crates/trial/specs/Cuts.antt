-- Which tiles are cut, and why another is not.
use Rattle.std.specs.Prelude.{ℕ, ◌<◌, ◌≤◌}
use Rattle.tile.specs.declared.shape.Shape.{Shape}
use Rattle.tile.specs.Shapes.{cells}
use Rattle.tile.specs.Tiles.{Tile}
use Rattle.flow.specs.Points.{Cuttable}
use Rattle.trial.specs.declared.uncut.Uncut.{Uncut}
use Rattle.trial.specs.declared.uncut.Uncut.TheVariants.{Unfit, FewEntries}

-- with so many entries of workspace: a tile as a cut maker wants it, and an entry for each cell
abbrev pub MayBeCut : Shape → Tile → (entries : ℕ) → Type 0
MayBeCut s t entries = Cuttable s t × (cells s ≤ entries)

abbrev pub LeftUncut : Shape → Tile → (entries : ℕ) → Uncut → Type 0
LeftUncut s t entries Unfit = Cuttable s t → ⊥
LeftUncut s t entries FewEntries = Cuttable s t × (entries < cells s)
