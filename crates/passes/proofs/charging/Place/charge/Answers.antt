use Rattle.std.proofs.Common.{◌≡◌, ◌≤◌, false, eqb, ◌+ℤ◌, nat_abs, sym, ap, ◌∙◌, arith}
use Rattle.limits.specs.Limits.{most_step}
use Rattle.std.proofs.lemmas.Int.{ints}
use Rattle.theory.specs.Brackets.{middle, settled}
use Rattle.tile.specs.declared.bracket.Bracket.{Bracket}
use Rattle.tile.specs.declared.cell.Cell.{Cell}
use Rattle.tile.specs.Tiles.{cell}
use Rattle.flow.specs.Networks.{brackets}
use Rattle.passes.specs.Rounds.{charge_in}
use Rattle.passes.proofs.Charges.{charge_is, stepped_few}
use Rattle.passes.proofs.charging.Place.charge.Given as given
use Rattle.passes.proofs.charging.Place.charge.Goals as goal

step_few : (g : given.Over) (c : goal.After-pulls g) → nat_abs c.middle_step.result ≤ most_step
step_few g c =
    let here : Cell = cell c.args.self.now.tile.now c.args.self.now.at in
    stepped_few (g.P.PriceRule.rule c.args.rule.now) (g.met.P.PriceRule.lawful c.args.rule.now) here.reading here.class (middle here.low here.high) c.middle_step.result
    c.middle_step.ensures

pub overflow_add-result : goal.overflow_add-result
overflow_add-result g c = omega (arith, ints, step_few g c)

pub returns : goal.returns
returns g c =
    let wide : settled (brackets c.args.self.now.tile.now) c.args.self.now.at ≡ false
    = sym (c.is_settled.ensures ∙ ap (λ (b : Bracket). eqb b.low b.high) c.bracket.ensures) ∙ c.if-is_settled.false in
    let e : c.middle_step.result +ℤ c.pulls.result ≡ charge_in (g.P.PriceRule.rule c.args.rule.now) c.args.self.now.shape c.args.self.now.tile.now c.args.self.now.at
    = charge_is (g.P.PriceRule.rule c.args.rule.now) c.args.self.now.shape c.args.self.now.tile.now c.args.self.now.fit c.requires c.args.self.now.at c.args.self.now.inside wide c.middle_step.result c.pulls.result c.middle_step.ensures c.pulls.ensures.value in
    record { value = omega (arith, ints, step_few g c) ∙ e; few = omega (arith, ints, step_few g c) }
