-- From what checking a file answers to what C gets of its shape.
use Rattle.std.proofs.Common.{◌≡◌, Ok, Err, Result, List, ℕ, ap, ◌∙◌}
use Rattle.limits.proofs.Outcomes.{none_found}
use Rattle.tile.specs.declared.shape.Shape.{Shape}
use Rattle.tilefile.specs.declared.contents.Contents.{Contents}
use Rattle.tilefile.specs.declared.fault.Fault.{Fault}
use Rattle.tilefile.specs.Contents.{Says, CheckDoes}
use Rattle.tilefile.proofs.Found.{file_mapped}
use Rattle.report.specs.declared.refusing.FileRefusal.{FileRefusal}
use Rattle.report.specs.declared.refusing.FileRefusal.TheVariants.{File}
use Rattle.host.specs.declared.shapes.ShapeNumbers.{ShapeNumbers}
use Rattle.host.specs.Files.{most_cells}
use Rattle.host.specs.Shapes.{shape_numbers, ShapeAnswered}

pub shape_faulty : (f : List ℕ) (why : Fault) (answer : Result ShapeNumbers FileRefusal) → answer ≡ Err (File why) → CheckDoes f most_cells (Err why) → ShapeAnswered f answer
shape_faulty f why answer same w = file_mapped (λ s. ⊥) (λ s. answer ≡ Ok (shape_numbers s)) f most_cells (λ e z. left e z) (λ s z. absurd z) w
  where
    left : (e : Fault) → ◌≡◌ {A = Result Contents Fault} (Err why) (Err e) → answer ≡ Err (File e)
    left e z = let equal : why ≡ e = cc z in same ∙ ap (λ (x : Fault). Err (File x)) equal

pub shape_found : (f : List ℕ) (x : Contents) → CheckDoes f most_cells (Ok x) → ShapeAnswered f (Ok (shape_numbers x.shape))
shape_found f x w = file_mapped (λ s. Says s f x) (λ s. ◌≡◌ {A = Result ShapeNumbers FileRefusal} (Ok (shape_numbers x.shape)) (Ok (shape_numbers s))) f most_cells (λ e z. none_found e z)
    (λ s says. ap (λ (y : Shape). Ok (shape_numbers y)) says.shape) w
