use Rattle.cut.specs.Climbs.{Higher}
use Rattle.cut.proofs.Directions.{every_way}
use Rattle.cut.proofs.climb.higher.Goals as goal

pub returns : goal.returns
returns c = every_way (λ h. Higher c.args.flows.now.columns c.args.flows.now.tile.now c.args.v h → ⊥) c.loop-toward.toward-index c.loop-toward-test.false c.loop-toward.invariant
