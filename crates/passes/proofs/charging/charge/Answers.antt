use Rattle.std.proofs.Common.{◌≡◌, ℕ, subst, arith, w32, SFits, to_z, of_z, rules}
use Rattle.price.specs.Rules.{Rule}
use Rattle.std.proofs.lemmas.Int.{to_z-of_z}
use Rattle.tile.specs.Shapes.{cells}
use Rattle.passes.proofs.Charges.{ChargedBelow, chargeable_same, charge_more, charged_cuttable}
use Rattle.passes.proofs.charging.charge.Goals as goal

pub invariant_of-charge-clause-fit : goal.invariant_of-charge-clause-fit
invariant_of-charge-clause-fit g c = chargeable_same (g.P.PriceRule.rule c.args.rule.now) c.args.shape c.args.tile.now c.loop-at.at c.loop-at.tile c.loop-at.invariant c.loop-at.auto.tile c.requires.fit

pub loop-at-preserved : goal.loop-at-preserved
loop-at-preserved g c =
    let z = c.charge-charge.result in
    let fits : SFits w32 c.charge-charge.result = search rules in
    charge_more (g.P.PriceRule.rule c.args.rule.now) c.args.shape c.args.tile.now c.loop-at.at c.loop-at.tile c.loop-at.invariant z (to_z w32 (of_z w32 z)) c.recharged.result
    (omega (arith, c.requires.fit.whole)) c.charge-charge.ensures.value c.charge-charge.ensures.few (to_z-of_z w32 z fits) c.recharged.ensures

pub returns-clause-cuttable : goal.returns-clause-cuttable
returns-clause-cuttable g c =
    let rule : Rule = g.P.PriceRule.rule c.args.rule.now in
    let end : c.loop-at.at ≡ cells c.args.shape = omega arith in
    let all : ChargedBelow rule c.args.shape c.args.tile.now (cells c.args.shape) c.loop-at.tile
    = subst (λ (n : ℕ). ChargedBelow rule c.args.shape c.args.tile.now n c.loop-at.tile) end c.loop-at.invariant in
    charged_cuttable rule c.args.shape c.args.tile.now c.loop-at.tile c.requires.fit all
