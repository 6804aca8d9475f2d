-- What a refused call in between leaves.
use Rattle.std.specs.Prelude.{ℕ, ◌≤◌, Err}
use Rattle.limits.specs.declared.refusal.Refusal.{Refusal}
use Rattle.price.specs.Rules.{Rule}
use Rattle.tile.specs.declared.shape.Shape.{Shape}
use Rattle.tile.specs.Shapes.{cells}
use Rattle.tile.specs.Tiles.{Tile}
use Rattle.filter.specs.declared.states.Draft.{Draft}
use Rattle.filter.specs.Calls.{PutDoes}
use Rattle.filter.specs.Runs.{History, draft, Lent, Run}

-- a put of the reading 0 and the class 0, into a row that the tile does not have, was refused; it gave back d' and left t'
pub record RefusedPut (d : Draft) (t : Tile) (d' : Draft) (t' : Tile) : Type 0 where
  pub row : ℕ
  pub outside : d.shape.rows ≤ row
  pub why : Refusal
  pub put : PutDoes d t row 0 0 0 (Err (record { state = d'; why = why })) t'

-- every run that led to the draft d, and lends its records, goes on to the draft d' with the same history
abbrev pub SameHistory : Draft → Tile → Draft → Tile → Type 0
SameHistory d t d' t' = (rule : Rule) (s : Shape) (h : History) (r r' : Tile) → Run rule s h (draft d) r → Lent (cells s) r t t' r' → Run rule s h (draft d') r'
