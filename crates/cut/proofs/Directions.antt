-- The four directions, one after the other.
use Rattle.std.proofs.Common.{ℕ, ◌<◌, ◌≤◌, List, [], ◌∷◌, get_or, arith}
use Rattle.flow.specs.declared.direction.Direction.{Direction}
use Rattle.flow.specs.declared.direction.Direction.TheVariants.{Right, Down, Left, Up}

-- in the order in which a loop goes over them
abbrev pub ways : List Direction
ways = Right ∷ Down ∷ Left ∷ Up ∷ []

-- what holds of each that a loop has passed holds of every direction
pub every_way : (P : Direction → Type 0) (n : ℕ) → 4 ≤ n → ((k : ℕ) → k < n → P (get_or ways k Right)) → (h : Direction) → P h
every_way P n l a Right = a 0 (omega arith)
every_way P n l a Down = a 1 (omega arith)
every_way P n l a Left = a 2 (omega arith)
every_way P n l a Up = a 3 (omega arith)
