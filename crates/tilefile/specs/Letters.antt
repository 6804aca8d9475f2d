-- The letters of the price rules.
use Rattle.std.specs.Prelude.{◌≡◌, ℕ, Result, MatchResult}
use Rattle.price.specs.Rules.{Rule}
use Rattle.price.specs.Kinds.{absolute, squared, leaning}
use Rattle.tilefile.specs.declared.fault.Flaw.{Flaw}
use Rattle.tilefile.specs.declared.fault.Flaw.TheVariants.{Letter as NoLetter}
use Rattle.tilefile.specs.declared.letter.Letter.{Letter}
use Rattle.tilefile.specs.declared.letter.Letter.TheVariants.{Absolute, Squared, Leaning}

-- the byte that a letter is: A, Q or L
abbrev pub letter_byte : Letter → ℕ
letter_byte Absolute = 65
letter_byte Squared = 81
letter_byte Leaning = 76

-- the rule that a letter names, for a greatest level
abbrev pub letter_rule : Letter → ℕ → Rule
letter_rule Absolute top = absolute top
letter_rule Squared top = squared top
letter_rule Leaning top = leaning top

-- the byte is such a letter
abbrev pub NamesOne : ℕ → Type 0
NamesOne b = (letter : Letter) × (b ≡ letter_byte letter)

-- the letter that the byte is, or the flaw of a byte that is none
abbrev pub ReadAsLetter : ℕ → Result Letter Flaw → Type 0
ReadAsLetter b r = MatchResult r (λ letter. b ≡ letter_byte letter) (λ flaw. (flaw ≡ NoLetter) × (NamesOne b → ⊥))
