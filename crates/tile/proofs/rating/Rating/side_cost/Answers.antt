use Rattle.std.proofs.Common.{arith}
use Rattle.tile.proofs.Joins.{found_inside}
use Rattle.tile.proofs.rating.Rating.side_cost.Goals as goal

pub bounds-self-other : goal.bounds-self-other
bounds-self-other g c =
    omega (arith, found_inside c.args.self.now.shape c.args.at c.args.side c.in-Some.other c.requires c.in-Some.ensures, c.args.self.now.whole)
