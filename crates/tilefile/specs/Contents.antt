-- What checking a file answers.
use Rattle.std.specs.Prelude.{◌≡◌, ℕ, List, drop, Result, IsErrOf, IsOkAnd}
use Rattle.tile.specs.declared.shape.Shape.{Shape}
use Rattle.tile.specs.Tiles.{Survey}
use Rattle.tilefile.specs.declared.contents.Contents.{Contents}
use Rattle.tilefile.specs.declared.fault.Fault.{Fault}
use Rattle.tilefile.specs.Bytes.{byte_at}
use Rattle.tilefile.specs.Letters.{letter_byte}
use Rattle.tilefile.specs.Survey.{entries_survey}
use Rattle.tilefile.specs.Files.{ties_start, FileChecked}

-- contents say what the file f of the shape s does
pub record Says (s : Shape) (f : List ℕ) (x : Contents) : Type 0 where
  pub shape : x.shape ≡ s
  pub names : byte_at f 2 ≡ letter_byte x.letter
  pub readings : x.readings.now ≡ drop 11 f
  pub ties : x.ties.now ≡ drop (ties_start s) f

-- a file with a fault is refused with the first one
abbrev pub CheckDoes : List ℕ → (records : ℕ) → Result Contents Fault → Type 0
CheckDoes f records answer = FileChecked f records (λ e. IsErrOf answer e) (λ s. IsOkAnd answer (Says s f))

-- the survey that contents are
abbrev pub contents_survey : Contents → Survey
contents_survey x = entries_survey x.readings.now x.ties.now
