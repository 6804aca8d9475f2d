use Rattle.std.proofs.Common.{◌≡◌, ℕ, set, refl, subst, rules}
use Rattle.limits.proofs.Outcomes.{unrefused, same_found}
use Rattle.tile.specs.Tiles.{cell}
use Rattle.passes.specs.Writing.{with_ties, weights}
use Rattle.filter.specs.Checks.{place}
use Rattle.filter.proofs.Joining.{tie_met}
use Rattle.filter.proofs.states.Draft.tie.Goals as goal

pub returns-in-Err : goal.returns-in-Err
returns-in-Err c = tie_met c.args.self c.args.tile.now c.args.row c.args.column (weights c.args.right c.args.down) _ _ (search rules)

pub returns-in-Ok : goal.returns-in-Ok
returns-in-Ok c =
    let written : c.in-Ok.at ≡ place c.args.self.shape c.args.row c.args.column → c.write_ties.new.tile ≡ set c.args.tile.now (place c.args.self.shape c.args.row c.args.column) (with_ties (weights c.args.right c.args.down) (cell c.args.tile.now (place c.args.self.shape c.args.row c.args.column)))
    = λ e. subst (λ (u : ℕ). c.write_ties.new.tile ≡ set c.args.tile.now u (with_ties (weights c.args.right c.args.down) (cell c.args.tile.now u))) e c.write_ties.ensures in
    tie_met c.args.self c.args.tile.now c.args.row c.args.column (weights c.args.right c.args.down) _ _
    (unrefused (unrefused (unrefused (unrefused (λ e. (refl, written (same_found e)))))) c.in-Ok.ensures.checked)
