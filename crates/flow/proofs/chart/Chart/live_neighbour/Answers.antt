use Rattle.std.proofs.Common.{◌<◌, rules, arith}
use Rattle.tile.specs.Shapes.{cells}
use Rattle.tile.proofs.Joins.{found_inside}
use Rattle.flow.proofs.chart.Chart.live_neighbour.Goals as goal

pub bounds-self-other : goal.bounds-self-other
bounds-self-other c =
    omega (arith, found_inside c.args.self.now.shape c.args.at c.args.side c.in_ok-other.other c.requires c.in_ok-other.ensures, c.args.self.now.whole)

pub returns-clause-inside : goal.returns-clause-inside
returns-clause-inside c =
    let inside : c.in_ok-other.other < cells c.args.self.now.shape = found_inside c.args.self.now.shape c.args.at c.args.side c.in_ok-other.other c.requires c.in_ok-other.ensures in
    search rules
