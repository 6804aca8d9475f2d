-- What a price rule is, the laws that it keeps, and what it answers.
use Rattle.std.specs.Prelude.{ℕ, suc, ◌+◌, ◌≤◌, Bool, cond, ◌&&◌, ℤ, pos, neg_ℤ, ◌≤ℤ◌, nat_le, nat_lt}
use Rattle.limits.specs.Limits.{most_top, most_class, most_price, most_step}
use Rattle.theory.specs.Grids.{step_of}

-- a greatest level, and the price of a height: its arguments are the reading, the class and the height
pub record Rule : Type 0 where
  pub greatest : ℕ
  pub price : ℕ → ℕ → ℕ → ℕ

-- the rule of a price, made for a greatest level
abbrev pub ruled : (ℕ → ℕ → ℕ → ℕ) → ℕ → Rule
ruled p t = record { greatest = t; price = p }

-- what the next height costs more than height k under a rule
abbrev pub step : Rule → ℕ → ℕ → ℕ → ℤ
step r v q = step_of (r.price v q)

-- the laws of a rule, for readings v and heights k from 0 to its greatest level and classes q up to the greatest class
pub record Lawful (r : Rule) : Type 0 where
  -- the greatest level lies from 1 to the greatest that a rule may be made for
  pub level_least : 1 ≤ r.greatest
  pub level_most : r.greatest ≤ most_top
  -- the step never falls when the height rises by 1
  pub rising_in_height : (v q k : ℕ) → v ≤ r.greatest → q ≤ most_class → k + 2 ≤ r.greatest → step r v q k ≤ℤ step r v q (suc k)
  -- the step never rises when the reading rises by 1
  pub falling_in_reading : (v q k : ℕ) → v + 1 ≤ r.greatest → q ≤ most_class → k + 1 ≤ r.greatest → step r (v + 1) q k ≤ℤ step r v q k
  -- the price is at most the greatest price
  pub price_most : (v q k : ℕ) → v ≤ r.greatest → q ≤ most_class → k ≤ r.greatest → r.price v q k ≤ most_price
  -- the step lies from minus the greatest step to the greatest step
  pub step_least : (v q k : ℕ) → v ≤ r.greatest → q ≤ most_class → k + 1 ≤ r.greatest → neg_ℤ (pos most_step) ≤ℤ step r v q k
  pub step_most : (v q k : ℕ) → v ≤ r.greatest → q ≤ most_class → k + 1 ≤ r.greatest → step r v q k ≤ℤ pos most_step

-- does a rule with greatest level t know reading v and class q?
abbrev pub known : ℕ → ℕ → ℕ → Bool
known t v q = nat_le v t && nat_le q most_class

-- what a rule answers when asked for the price of height k: 0 outside its ranges
abbrev pub priced : Rule → ℕ → ℕ → ℕ → ℕ
priced r v q k = cond (known r.greatest v q && nat_le k r.greatest) (r.price v q k) 0

-- what a rule answers when asked for the step from height k to the next: 0 outside its ranges
abbrev pub stepped : Rule → ℕ → ℕ → ℕ → ℤ
stepped r v q k = cond (known r.greatest v q && nat_lt k r.greatest) (step r v q k) (pos 0)
