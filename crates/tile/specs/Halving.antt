-- The halving of brackets, round by round.
use Rattle.std.specs.Prelude.{◌≡◌, ℕ, zero, suc, ◌+◌, ◌^◌, ◌<◌, ◌≤◌, cond, ◌⊎◌, nat_le}
use Rattle.theory.specs.Brackets.{middle}
use Rattle.tile.specs.declared.bracket.Bracket.{Bracket}

-- the bracket low..high
abbrev pub from_to : ℕ → ℕ → Bracket
from_to low high = record { low = low; high = high }

-- the lower half of a bracket: low..middle
abbrev pub half_below : Bracket → Bracket
half_below b = from_to b.low (middle b.low b.high)

-- the upper half: middle + 1..high
abbrev pub half_above : Bracket → Bracket
half_above b = from_to (middle b.low b.high + 1) b.high

-- the half that the height h belongs to: low..middle for a height up to the middle, else middle + 1..high
abbrev pub half_toward : Bracket → ℕ → Bracket
half_toward b h = cond (nat_le h (middle b.low b.high)) (half_below b) (half_above b)

-- the bracket that holds the height h after so many halvings of 0..top
abbrev pub halving : ℕ → ℕ → ℕ → Bracket
halving zero top h = from_to 0 top
halving (suc r) top h = half_toward (halving r top h) h

-- so many rounds leave one height of 0..top
abbrev pub RoundsOver : ℕ → ℕ → Type 0
RoundsOver top done = top + 1 ≤ 2 ^ done

-- they do not: a round is left
abbrev pub RoundLeft : ℕ → ℕ → Type 0
RoundLeft top done = 2 ^ done < top + 1

-- r is the smallest number of rounds that leaves one height of 0..top: the smallest with 2 ^ r ≥ top + 1
pub record RoundsDue (top r : ℕ) : Type 0 where
  pub enough : top + 1 ≤ 2 ^ r
  pub least : (k : ℕ) → top + 1 ≤ 2 ^ k → r ≤ k

-- the height h lies in the bracket
abbrev pub Holds : Bracket → ℕ → Type 0
Holds b h = (b.low ≤ h) × (h ≤ b.high)

-- the brackets have no height in common: one lies below the other
abbrev pub Disjoint : Bracket → Bracket → Type 0
Disjoint a b = (a.high < b.low) ⊎ (b.high < a.low)

-- ---- theorems, for the heights of 0..top

abbrev pub HalvingHoldsItsHeight : Type 0
HalvingHoldsItsHeight = (r top h : ℕ) → h ≤ top → Holds (halving r top h) h

abbrev pub HalvingStaysBelowTop : Type 0
HalvingStaysBelowTop = (r top h : ℕ) → h ≤ top → (halving r top h).high ≤ top

-- after the same number of rounds
abbrev pub HalvingsAreEqualOrDisjoint : Type 0
HalvingsAreEqualOrDisjoint = (r top h k : ℕ) → h ≤ top → k ≤ top → (halving r top h ≡ halving r top k) ⊎ Disjoint (halving r top h) (halving r top k)

-- after the rounds due one height is left
abbrev pub HalvingEndsAtItsHeight : Type 0
HalvingEndsAtItsHeight = (r top h : ℕ) → h ≤ top → RoundsDue top r → halving r top h ≡ from_to h h
