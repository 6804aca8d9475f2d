-- Examples, which pin the definitions.
use Rattle.std.specs.Prelude.{◌≡◌, ℕ, ◌<◌, codes}
use Rattle.limits.specs.declared.refusal.Refusal.TheVariants.{FewRecords, Outside, Reading, RoundsLeft}
use Rattle.limits.specs.Refusals.{number, refusal_text}
use Rattle.limits.specs.Checking.{CheckedBy, Checked, EachChecked}

pub record TextsOfRefusals : Type 0 where
  pub few_records : refusal_text FewRecords ≡ codes "fewer records than cells"
  pub its_number : number FewRecords ≡ 2
  pub rounds_left : refusal_text RoundsLeft ≡ codes "rounds are left"

-- a check of each cell that none passes; e is the cell that is refused, and left says which one
abbrev pub NonePasses : (ℕ → Type 0) → Type 0
NonePasses Left = EachChecked (λ u. CheckedBy (λ e. e) u u ⊥ Left) 3 ⊥

-- a check that 1 < 2 passes and never refuses; one that 2 < 2 refuses, with its own case and number, and never passes
pub record ChecksAreRead : Type 0 where
  pub passed_where_it_holds : Checked 4 Outside (1 < 2) (λ _. ⊥) (Unit {0})
  pub not_refused_where_it_holds : Checked 4 Outside (1 < 2) (λ _. Unit {0}) ⊥ → ⊥
  pub refused_where_it_fails : Checked 4 Outside (2 < 2) (λ e. e ≡ Outside) ⊥
  pub with_no_other_case : Checked 4 Outside (2 < 2) (λ e. e ≡ Reading) ⊥ → ⊥
  pub with_no_other_number : Checked 5 Outside (2 < 2) (λ e. e ≡ Outside) ⊥ → ⊥
  pub the_first_cell_is_refused : NonePasses (λ e. e ≡ 0)
  pub no_later_cell_is : NonePasses (λ e. e ≡ 1) → ⊥
