use Rattle.std.proofs.Common.{arith}
use Rattle.std.proofs.lemmas.Int.{ints}
use Rattle.passes.proofs.Pulls.{pulls_are}
use Rattle.passes.proofs.charging.Place.pulls.Goals as goal

pub returns-clause-value : goal.returns-clause-value
returns-clause-value c =
    let e = pulls_are c.args.self.now.shape c.args.self.now.tile.now c.args.self.now.fit c.args.self.now.at c.args.self.now.inside in
    omega (arith, ints)
