-- Ties join cells.
use Rattle.std.proofs.Common.{◌≡◌, ℕ, zero, suc, ◌+◌, ◌*◌, ◌/◌, ◌%◌, ◌<◌, ◌≤◌, true, List, [], ◌∷◌, Some, inl, inr, arith}
use Rattle.std.specs.List.{flat_map, AllByRecursion as All}
use Rattle.std.proofs.lemmas.Nat.{mul-add-lt, div_below, div-add-mod'}
use Rattle.std.proofs.ByRecursion.{all-has, All-append}
use Rattle.std.proofs.lemmas.Bool.{ltb-true, lt-ltb, cases_Bool, cond_both}
use Rattle.tile.specs.declared.shape.Shape.{Shape}
use Rattle.tile.specs.declared.side.Side.{Side}
use Rattle.tile.specs.declared.side.Side.TheVariants.{Rightward, Downward}
use Rattle.tile.specs.Shapes.{cells}
use Rattle.tile.specs.Ties.{Tie, sides, has_neighbour, neighbour, neighbour_within, tie_on, ties_of, ties_below, ties, TiesJoinCells}

-- a cell that is not the last of its row has the next cell in its row
next_in_row : (rows columns u : ℕ) → 1 ≤ columns → u < rows * columns → u % columns + 1 < columns → u + 1 < rows * columns
next_in_row rows columns u some l right =
    let q : u / columns < rows = div_below u columns rows some l in
    let place : u / columns * columns + (u % columns + 1) < columns * rows = mul-add-lt (u / columns) columns (u % columns + 1) rows q right in
    omega (arith, div-add-mod' u columns)

-- the neighbour of a cell is a cell
pub neighbour_inside : (s : Shape) (u : ℕ) (d : Side) → u < cells s → has_neighbour s u d ≡ true → neighbour s u d < cells s
neighbour_inside s u Rightward l e = next_in_row s.rows s.columns u s.wide.0 l (ltb-true (u % s.columns + 1) s.columns e)
neighbour_inside s u Downward l e = ltb-true (u + s.columns) (cells s) e

-- the neighbour that is found is a cell
pub found_inside : (s : Shape) (u : ℕ) (d : Side) (v : ℕ) → u < cells s → Some v ≡ neighbour_within s u d → v < cells s
found_inside s u d v l e =
    elim (cases_Bool (has_neighbour s u d)) [
      | inl y ↦ let same : v ≡ neighbour s u d = (let q = rw (lt-ltb u (cells s) l, y) at e in cc) in rw same (neighbour_inside s u d l y)
      | inr n ↦ let z : ◌≡◌ {A = ℕ} 0 1 = (let q = rw (lt-ltb u (cells s) l, n) at e in cc) in absurd (omega arith)
    ]

-- a tie of the shape: its cell, and that it has a neighbour there
abbrev pub Stored : Shape → Tie → Type 0
Stored s x = (x.cell < cells s) × (has_neighbour s x.cell x.side ≡ true)

on_stored : (s : Shape) (u : ℕ) (d : Side) → u < cells s → All (Stored s) (tie_on s u d)
on_stored s u d l = cond_both (has_neighbour s u d) (record { cell = u; side = d } ∷ []) [] (All (Stored s)) (λ e. ((l, e), tt)) (λ e. tt)

sides_stored : (s : Shape) (u : ℕ) (ds : List Side) → u < cells s → All (Stored s) (flat_map (tie_on s u) ds)
sides_stored s u [] l = tt
sides_stored s u (d ∷ ds) l = All-append (Stored s) (tie_on s u d) (flat_map (tie_on s u) ds) (on_stored s u d l) (sides_stored s u ds l)

below_stored : (s : Shape) (n : ℕ) → n ≤ cells s → All (Stored s) (ties_below s n)
below_stored s zero l = tt
below_stored s (suc u) l = All-append (Stored s) (ties_below s u) (ties_of s u) (below_stored s u (omega arith)) (sides_stored s u sides (omega arith))

pub ties_stored : (s : Shape) → All (Stored s) (ties s)
ties_stored s = below_stored s (cells s) (omega arith)

pub ties_join_cells : TiesJoinCells
ties_join_cells s w x h = let p = all-has (Stored s) (ties s) x (ties_stored s) h in (p.0, neighbour_inside s x.cell x.side p.0 p.1)
