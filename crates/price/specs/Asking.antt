-- What a rule is asked.
use Rattle.std.specs.Prelude.{◌≡◌, ℕ, Bool, Option, MatchOption, IsTrue, IsFalse}
use Rattle.price.specs.declared.question.Question.{Question}

-- the question of a reading, a class and a height where the condition holds, and none elsewhere
abbrev pub AskedWhere : Bool → ℕ → ℕ → ℕ → Option Question → Type 0
AskedWhere b v q k r = MatchOption r (IsFalse b) (λ a. IsTrue b × (a.reading ≡ v) × (a.class ≡ q) × (a.height ≡ k))
