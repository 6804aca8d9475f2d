-- The bytes of a file, and the numbers that they are.
use Rattle.std.specs.Prelude.{ℕ, ◌+◌, ◌*◌, List, slice_index_or}

-- the byte at the place p, counted from 0; 0 where the file has ended
abbrev pub byte_at : List ℕ → ℕ → ℕ
byte_at f p = slice_index_or f p 0

-- the number in the two bytes from p on, the high one first
abbrev pub number_at : List ℕ → ℕ → ℕ
number_at f p = byte_at f p * 256 + byte_at f (p + 1)
