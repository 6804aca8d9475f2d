-- What the sections Readings and Ties say, and the records that say the same.
use Rattle.std.specs.Prelude.{◌≡◌, ℕ, ◌≤◌, List, length}
use Rattle.limits.specs.Limits.{most_rows}
use Rattle.tile.specs.declared.cell.Cell.{Cell}
use Rattle.tile.specs.declared.shape.Shape.{Shape}
use Rattle.tile.specs.declared.side.Side.{Side}
use Rattle.tile.specs.Shapes.{cells}
use Rattle.tile.specs.Tiles.{Survey}
use Rattle.passes.specs.Soundness.{SoundSurvey}
use Rattle.passes.specs.Writing.{with_reading, with_ties, fresh}
use Rattle.tilefile.specs.Bytes.{number_at}
use Rattle.tilefile.specs.Sections.{reading_place, class_at, ties_place, tie_numbers}

-- the sections have their counts and an entry for each cell; what follows the entries is no part of them
pub record Holds (s : Shape) (readings ties : List ℕ) : Type 0 where
  pub readings_count : number_at readings 0 ≡ cells s
  pub each_reading : reading_place 0 (cells s) ≤ length readings
  pub ties_count : number_at ties 0 ≡ cells s
  pub each_tie : ties_place 0 (cells s) ≤ length ties

-- the survey that the entries are; each section is given by the bytes from its count on
abbrev pub entries_survey : List ℕ → List ℕ → Survey
entries_survey readings ties = record {
  reading = λ u. number_at readings (reading_place 0 u);
  class = λ u. class_at readings (reading_place 0 u);
  tie = λ u. tie_numbers ties (ties_place 0 u);
}

-- what a file may say: the shape of a tile, and for each cell what put and tie accept
pub record Writable (s : Shape) (y : Survey) : Type 0 where
  pub few_rows : s.rows ≤ most_rows
  pub sound : SoundSurvey s y

-- the record of a cell as start, a put and a tie of its survey leave it
abbrev pub surveyed_record : (top reading class : ℕ) → (Side → ℕ) → Cell
surveyed_record top v q w = with_ties w (with_reading v q (fresh top))

abbrev pub cell_record : ℕ → Survey → ℕ → Cell
cell_record top y u = surveyed_record top (y.reading u) (y.class u) (y.tie u)
