-- What is answered for a file.
use Rattle.std.specs.Prelude.{◌≡◌, ℕ, Bool, true, false, List, string_bytes}
use Rattle.tilefile.specs.Files.{FileChecked}
use Rattle.report.specs.Answering.{Answers}
use Rattle.flatten.specs.declared.answering.Answer.{Answer}

-- whether the file f is refused, for so many records
abbrev pub Refuses : List ℕ → (records : ℕ) → Bool → Type 0
Refuses f records refused = FileChecked f records (λ _. refused ≡ true) (λ _. refused ≡ false)

-- the answer for the file f, for so many records
pub record Answered (f : List ℕ) (records : ℕ) (a : Answer) : Type 0 where
  pub prints : Answers f records (string_bytes a.text)
  pub refuses : Refuses f records a.refused
