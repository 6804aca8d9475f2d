-- The bounds of the product.
use Rattle.std.specs.Prelude.{ℕ}

-- the most rows a tile may have
abbrev pub most_rows : ℕ
most_rows = 64

-- the most rows that a cut serves: four tiles, one below another
abbrev pub most_strip_rows : ℕ
most_strip_rows = 256

-- the most columns a tile may have
abbrev pub most_columns : ℕ
most_columns = 64

-- the greatest height a tile may have, and the greatest level a price rule may be made for
abbrev pub most_top : ℕ
most_top = 1023

-- the most rounds that can be due
abbrev pub most_rounds : ℕ
most_rounds = 10

-- the greatest trust class of a reading
abbrev pub most_class : ℕ
most_class = 15

-- the greatest weight of a tie between two neighbouring cells
abbrev pub most_tie : ℕ
most_tie = 10000

-- the greatest price of a height
abbrev pub most_price : ℕ
most_price = 130000000

-- steps of a price lie from minus this to this
abbrev pub most_step : ℕ
most_step = 250000

-- charges lie from minus this to this
abbrev pub most_charge : ℕ
most_charge = 300000
