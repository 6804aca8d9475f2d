-- What is printed for a file.
use Rattle.std.specs.Prelude.{◌≡◌, ℕ, ◌≤◌, List, ◌++◌, length, codes}
use Rattle.tile.specs.declared.shape.Shape.{Shape}
use Rattle.tile.specs.Shapes.{cells}
use Rattle.tile.specs.Tiles.{Tile}
use Rattle.tilefile.specs.declared.letter.Letter.{Letter}
use Rattle.tilefile.specs.Bytes.{byte_at}
use Rattle.tilefile.specs.Faults.{fault_text}
use Rattle.tilefile.specs.Letters.{letter_byte, letter_rule}
use Rattle.tilefile.specs.Files.{FileChecked, file_survey}
use Rattle.report.specs.declared.solving.Solution.{Solution}
use Rattle.report.specs.Solving.{SolvedAs}
use Rattle.report.specs.Printing.{solution_text}

-- The text of a solution of the file f of the shape s: the grid that it prints, with a height for each cell, is the lowest cheapest one.
pub record Printed (s : Shape) (f : List ℕ) (text : List ℕ) : Type 0 where
  pub solution : Solution
  pub tile : Tile
  pub whole : cells s ≤ length tile
  pub letter : Letter
  pub names : byte_at f 2 ≡ letter_byte letter
  pub solved : SolvedAs (letter_rule letter s.top) s (file_survey s f) tile solution
  pub prints : text ≡ solution_text solution tile

-- with so many records: a line about the first fault, or the text of a solution
abbrev pub Answers : List ℕ → (records : ℕ) → List ℕ → Type 0
Answers f records text = FileChecked f records (λ e. text ≡ fault_text e ++ codes "\n") (λ s. Printed s f text)
