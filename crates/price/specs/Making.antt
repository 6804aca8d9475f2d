-- What making something for a greatest level answers.
use Rattle.std.specs.Prelude.{◌≡◌, ℕ, ◌≤◌, Result, MatchResult}
use Rattle.limits.specs.Limits.{most_top}
use Rattle.limits.specs.Refusals.{number}
use Rattle.limits.specs.declared.refusal.Refusal.{Refusal}
use Rattle.limits.specs.declared.refusal.Refusal.TheVariants.{Range}

-- the levels that a rule may be made for
abbrev pub RuleLevel : ℕ → Type 0
RuleLevel t = (1 ≤ t) × (t ≤ most_top)

-- the refusal of any other level: it is out of range, and its number is 1
pub record NotMade (t : ℕ) (e : Refusal) : Type 0 where
  pub outside : RuleLevel t → ⊥
  pub because : e ≡ Range
  pub numbered : number e ≡ 1

-- made for such a level, and then as asked; refused for any other
abbrev pub MadeFor : {X : Type 0} → ℕ → (X → Type 0) → Result X Refusal → Type 0
MadeFor t Asked r = MatchResult r (λ x. RuleLevel t × Asked x) (NotMade t)
