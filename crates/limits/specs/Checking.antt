-- The checks of any call, in their order, and what they come to.
use Rattle.std.specs.Prelude.{◌≡◌, ℕ, zero, suc, Err, Result}
use Rattle.limits.specs.Refusals.{number}
use Rattle.limits.specs.declared.refusal.Refusal.{Refusal}

-- One check. Where its condition does not hold, the call is refused with e, whose number is n, and `Left e` says what the refusal
-- leaves; where it holds, the call comes to the rest.
pub data CheckedBy {E : Type 0} (number_of : E → ℕ) (n : ℕ) (e : E) (Holds : Type 0) (Left : E → Type 0) (Rest : Type 0) : Type 0 where
  refused : (Holds → ⊥) → number_of e ≡ n → Left e → CheckedBy number_of n e Holds Left Rest
  passed : Holds → Rest → CheckedBy number_of n e Holds Left Rest

-- one check of a call on a tile
abbrev pub Checked : ℕ → Refusal → Type 0 → (Refusal → Type 0) → Type 0 → Type 0
Checked = CheckedBy number

-- what a refusal leaves: its case is answered, and what the call was lent is as it was
abbrev pub RefusedAs : {L X E : Type 0} → L → Result X E → L → E → Type 0
RefusedAs before answer after e = (answer ≡ Err e) × (after ≡ before)

-- the checks of the first n cells, cell by cell; One u has those of the cell u
abbrev pub EachChecked : (One : ℕ → Type 0 → Type 0) → ℕ → Type 0 → Type 0
EachChecked One zero Rest = Rest
EachChecked One (suc u) Rest = EachChecked One u (One u Rest)
