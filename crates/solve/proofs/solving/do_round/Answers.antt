use Rattle.std.proofs.Common.{length}
use Rattle.solve.proofs.Steps.{round_done}
use Rattle.solve.proofs.solving.do_round.Goals as goal

pub returns-clause-does : goal.returns-clause-does
returns-clause-does g c =
    let k = c.round.ensures in
    round_done (g.P.PriceRule.rule c.args.rule.now) (g.M.CutMaker.leaves c.args.maker.now) c.args.rounding c.args.tile.now (length c.args.entries.now) c.round.result c.unwrap.result c.round.new.tile
    c.requires k.does k.goes_on k.sound c.unwrap.ensures
