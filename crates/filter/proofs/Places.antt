-- A cell's row and column, by its number.
use Rattle.std.proofs.Common.{◌≡◌, ℕ, ◌/◌, ◌%◌, ◌<◌, arith}
use Rattle.std.proofs.lemmas.Nat.{div-add-mod', div_below, mod_below}
use Rattle.tile.specs.declared.shape.Shape.{Shape}
use Rattle.tile.specs.Shapes.{cells}
use Rattle.filter.specs.Checks.{Inside, place}

pub place_of : (s : Shape) (u : ℕ) → place s (u / s.columns) (u % s.columns) ≡ u
place_of s u = div-add-mod' u s.columns

pub inside_of : (s : Shape) (u : ℕ) → u < cells s → Inside s (u / s.columns) (u % s.columns)
inside_of s u l =
    let some : 0 < s.columns = omega (arith, s.wide.0) in
    (div_below u s.columns s.rows some l, mod_below u s.columns some)
