-- The three price rules: the price of height k for a reading v of class q, each made for a greatest level.
use Rattle.std.specs.Prelude.{ℕ, ◌-◌, ◌*◌, cond, nat_le}
use Rattle.price.specs.Rules.{Rule, ruled}
use Rattle.price.specs.Weights.{class_weight}
use Rattle.theory.specs.Grids.{gap}

-- the weight for every level between the height and the reading
abbrev pub absolute_price : ℕ → ℕ → ℕ → ℕ
absolute_price v q k = class_weight q * gap k v

-- the weight times the square of the distance
abbrev pub squared_price : ℕ → ℕ → ℕ → ℕ
squared_price v q k = class_weight q * (gap k v * gap k v)

-- the weight for every level up to the reading, and four times the weight for every level above it
abbrev pub leaning_price : ℕ → ℕ → ℕ → ℕ
leaning_price v q k = cond (nat_le k v) (class_weight q * (v - k)) (4 * class_weight q * (k - v))

-- the rule of the absolute price, made for a greatest level
abbrev pub absolute : ℕ → Rule
absolute = ruled absolute_price

-- the rule of the squared price, made for a greatest level
abbrev pub squared : ℕ → Rule
squared = ruled squared_price

-- the rule of the leaning price, made for a greatest level
abbrev pub leaning : ℕ → Rule
leaning = ruled leaning_price
