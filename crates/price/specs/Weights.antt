-- How much a reading counts.
use Rattle.std.specs.Prelude.{ℕ, ◌+◌, ◌*◌, ◌/◌}
use Rattle.limits.specs.Limits.{most_class}

-- a class weighs the sum of the numbers from 1 to it
abbrev pub class_weight : ℕ → ℕ
class_weight q = q * (q + 1) / 2

-- the weight of the greatest class
abbrev pub most_weight : ℕ
most_weight = class_weight most_class
