-- A table of the brackets that a number of rounds leaves.
use Rattle.std.specs.Prelude.{◌≡◌, ℕ, zero, suc, ◌<◌, ◌≤◌, ◌==◌, cond, List, length, slice_index}
use Rattle.tile.specs.declared.bracket.Bracket.{Bracket}
use Rattle.tile.specs.Halving.{half_toward, halving, Holds}

-- what stands beside the height h: the high end of its bracket where h is the low end, else n
abbrev pub beside : Bracket → ℕ → ℕ → ℕ
beside b h n = cond (b.low == h) b.high n

-- the table has the brackets that so many halvings of 0..top leave: beside each low end its high end, 0 beside the other heights
pub record HasBrackets (top done : ℕ) (highs : List ℕ) : Type 0 where
  pub room : top < length highs
  pub entries : (h : ℕ) → h ≤ top → slice_index highs h ≡ beside (halving done top h) h 0

-- the bracket that holds the height h after so many halvings of b
abbrev pub halved : ℕ → Bracket → ℕ → Bracket
halved zero b h = b
halved (suc r) b h = halved r (half_toward b h) h

-- the brackets that so many halvings of b leave are written, and all else is as it was
pub record Written (r : ℕ) (b : Bracket) (old new : List ℕ) : Type 0 where
  pub inside : (h : ℕ) → Holds b h → slice_index new h ≡ beside (halved r b h) h (slice_index old h)
  pub below : (h : ℕ) → h < b.low → slice_index new h ≡ slice_index old h
  pub above : (h : ℕ) → b.high < h → slice_index new h ≡ slice_index old h
