-- Which surveys and which records are sound.
use Rattle.std.specs.Prelude.{◌≡◌, ℕ, ◌+◌, ◌*◌, ◌<◌, ◌≤◌, Bool, false}
use Rattle.limits.specs.Limits.{most_class, most_tie}
use Rattle.tile.specs.declared.bracket.Bracket.{Bracket}
use Rattle.tile.specs.declared.cell.Cell.{Cell}
use Rattle.tile.specs.declared.shape.Shape.{Shape}
use Rattle.tile.specs.declared.side.Side.{Side}
use Rattle.tile.specs.declared.side.Side.TheVariants.{Rightward, Downward}
use Rattle.tile.specs.Halving.{halving}
use Rattle.tile.specs.Records.{stored_tie, stored_bracket}
use Rattle.tile.specs.Shapes.{cells}
use Rattle.tile.specs.Ties.{has_neighbour}
use Rattle.tile.specs.Tiles.{Tile, Survey, cell}

-- a reading and a class that a cell may have
pub record SoundReading (top v q : ℕ) : Type 0 where
  pub reading : v ≤ top
  pub class : q ≤ most_class

-- a weight that a tie may have: 0 where the cell has no neighbour
pub record SoundWeight (has : Bool) (w : ℕ) : Type 0 where
  pub few : w ≤ most_tie
  pub edge : has ≡ false → w ≡ 0

-- a weight that the tie on a side of the cell u may have
abbrev pub SoundTie : Shape → ℕ → Side → ℕ → Type 0
SoundTie s u d w = SoundWeight (has_neighbour s u d) w

-- the same on every side, with a weight for each
abbrev pub SoundTies : Shape → ℕ → (Side → ℕ) → Type 0
SoundTies s u w = (d : Side) → SoundTie s u d (w d)

-- a survey whose readings, classes and ties are all of these
pub record SoundSurvey (s : Shape) (y : Survey) : Type 0 where
  pub readings : (u : ℕ) → u < cells s → SoundReading s.top (y.reading u) (y.class u)
  pub ties : (u : ℕ) → u < cells s → SoundTies s u (y.tie u)

-- a bracket that so many halvings of 0..top leave: its low end is a height of 0..top, and it is the halving that holds this height
pub record SoundBracket (top done : ℕ) (b : Bracket) : Type 0 where
  pub height : b.low ≤ top
  pub halved : b ≡ halving done top b.low

-- the record of a cell after so many rounds, by the sides on which the cell has a neighbour
pub record SoundRecord (top done : ℕ) (has : Side → Bool) (c : Cell) : Type 0 where
  pub reading : SoundReading top c.reading c.class
  pub ties : (d : Side) → SoundWeight (has d) (stored_tie c d)
  pub bracket : SoundBracket top done (stored_bracket c)

-- the record of the cell u after so many rounds
abbrev pub SoundCell : Shape → ℕ → ℕ → Cell → Type 0
SoundCell s done u c = SoundRecord s.top done (has_neighbour s u) c

-- every cell's record is sound; a tile that is not is corrupt
abbrev pub Sound : Shape → ℕ → Tile → Type 0
Sound s done t = (u : ℕ) → u < cells s → SoundCell s done u (cell t u)

-- ---- steps of the proof: row by row

-- the records of the row r
abbrev pub SoundRow : Shape → ℕ → Tile → ℕ → Type 0
SoundRow s done t r = (c : ℕ) → c < s.columns → SoundCell s done (r * s.columns + c) (cell t (r * s.columns + c))

-- has the cell a neighbour on the side? By what it has on the right and below
abbrev pub by_side : Bool → Bool → Side → Bool
by_side right below Rightward = right
by_side right below Downward = below
