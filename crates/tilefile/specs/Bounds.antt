-- How long a file without a fault can be, and how much of a file tells what checking it answers.
use Rattle.std.specs.Prelude.{ℕ, ◌≤◌, ◌↔◌, List, length, take, Ok, Result}
use Rattle.tilefile.specs.declared.contents.Contents.{Contents}
use Rattle.tilefile.specs.declared.fault.Fault.{Fault}
use Rattle.tilefile.specs.Contents.{CheckDoes}

-- no file without a fault, for so many records, is longer than m bytes
abbrev pub NoneLonger : (m records : ℕ) → Type 0
NoneLonger m records = (f : List ℕ) (x : Contents) → CheckDoes f records (Ok x) → length f ≤ m

-- the first m bytes of any file tell what checking it answers, accepted or refused with the very same fault
abbrev pub FrontTells : (m records : ℕ) → Type 0
FrontTells m records = (f : List ℕ) (answer : Result Contents Fault) → CheckDoes (take m f) records answer ↔ CheckDoes f records answer
