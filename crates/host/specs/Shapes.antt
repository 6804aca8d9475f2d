-- What C gets of the shape that a tile file asks for.
use Rattle.std.specs.Prelude.{◌≡◌, ℕ, ℤ, List, Ok, Err, Result}
use Rattle.tile.specs.declared.shape.Shape.{Shape}
use Rattle.tilefile.specs.Files.{FileChecked}
use Rattle.report.specs.declared.refusing.FileRefusal.{FileRefusal}
use Rattle.report.specs.declared.refusing.FileRefusal.TheVariants.{File}
use Rattle.host.specs.declared.fault.FaultNumbers.{FaultNumbers}
use Rattle.host.specs.declared.shapes.ShapeNumbers.{ShapeNumbers}
use Rattle.host.specs.Files.{most_cells, answer_code, written, faulted}

abbrev pub shape_numbers : Shape → ShapeNumbers
shape_numbers s = record { rows = s.rows; columns = s.columns; top = s.top }

-- the first fault of the file f, for as many records as any tile has; without one, the shape that the file asks for
abbrev pub ShapeAnswered : List ℕ → Result ShapeNumbers FileRefusal → Type 0
ShapeAnswered f answer = FileChecked f most_cells (λ e. answer ≡ Err (File e)) (λ s. answer ≡ Ok (shape_numbers s))

-- that answer, told by its number; the shape is written over x, and the numbers of a fault over y
pub record ShapeTold (f : List ℕ) (x : ShapeNumbers) (y : FaultNumbers) (code : ℤ) (x' : ShapeNumbers) (y' : FaultNumbers) : Type 0 where
  pub answer : Result ShapeNumbers FileRefusal
  pub answers : ShapeAnswered f answer
  pub told : code ≡ answer_code answer
  pub shape : x' ≡ written answer x
  pub fault : y' ≡ faulted answer y
