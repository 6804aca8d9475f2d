-- Sums over the numbers below a number, and over a list; of natural and of signed numbers.
use Rattle.std.specs.Prelude.{ℕ, zero, suc, ◌+◌, List, [], ◌∷◌, ℤ, pos, ◌+ℤ◌}

-- f 0 + .. + f (n − 1)
abbrev pub sum_below : ℕ → (ℕ → ℕ) → ℕ
sum_below zero f = 0
sum_below (suc n) f = sum_below n f + f n

-- the same of signed numbers
abbrev pub sumℤ : ℕ → (ℕ → ℤ) → ℤ
sumℤ zero f = pos 0
sumℤ (suc n) f = sumℤ n f +ℤ f n

-- f x for each x of the list, added up
abbrev pub total : {X : Type 0} → List X → (X → ℕ) → ℕ
total [] f = 0
total (x ∷ xs) f = f x + total xs f

-- the same of signed numbers
abbrev pub totalℤ : {X : Type 0} → List X → (X → ℤ) → ℤ
totalℤ [] f = pos 0
totalℤ (x ∷ xs) f = f x +ℤ totalℤ xs f
