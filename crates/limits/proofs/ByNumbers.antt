-- The examples, computed.
use Rattle.std.proofs.Common.{◌≡◌, ◌<◌, refl, ap, arith}
use Rattle.limits.specs.declared.refusal.Refusal.TheVariants.{Outside, Reading}
use Rattle.limits.specs.Refusals.{number}
use Rattle.limits.specs.Checking.{Checked, refused, passed}
use Rattle.limits.specs.Examples.{TextsOfRefusals, NonePasses, ChecksAreRead}

pub texts : TextsOfRefusals
texts = record { few_records = refl; its_number = refl; rounds_left = refl }

not_refused : Checked 4 Outside (1 < 2) (λ _. Unit {0}) ⊥ → ⊥
not_refused (refused fails _ _) = fails (omega arith)
not_refused (passed _ none) = none

other_case : Checked 4 Outside (2 < 2) (λ e. e ≡ Reading) ⊥ → ⊥
other_case (refused _ _ same) = omega (arith, ap number same)
other_case (passed _ none) = none

other_number : Checked 5 Outside (2 < 2) (λ e. e ≡ Outside) ⊥ → ⊥
other_number (refused _ numbered _) = omega (arith, numbered)
other_number (passed _ none) = none

later : NonePasses (λ e. e ≡ 1) → ⊥
later (refused _ _ same) = omega (arith, same)
later (passed none _) = none

pub checks : ChecksAreRead
checks = record {
  passed_where_it_holds = passed (omega arith) tt;
  not_refused_where_it_holds = not_refused;
  refused_where_it_fails = refused (λ l. omega (arith, l)) refl refl;
  with_no_other_case = other_case;
  with_no_other_number = other_number;
  the_first_cell_is_refused = refused (λ none. none) refl refl;
  no_later_cell_is = later;
}
