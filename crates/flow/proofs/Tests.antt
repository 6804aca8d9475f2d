-- Tests of signed numbers, and what they say.
use Rattle.std.proofs.Common.{◌≡◌, true, false, ℤ, ◌<ℤ◌, arith}
use borrow.Author.Differences.{ints}
use lib.Signed.{lt_z}

pub less_true : (a b : ℤ) → lt_z a b ≡ true → a <ℤ b
less_true a b e = omega (arith, ints)

pub less_false : (a b : ℤ) → lt_z a b ≡ false → a <ℤ b → ⊥
less_false a b e h = omega (arith, ints)
