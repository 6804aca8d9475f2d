use Rattle.std.proofs.Common.{length}
use Rattle.solve.proofs.Steps.{none_far, one_far}
use Rattle.solve.proofs.solving.do_rounds.Goals as goal

pub loop-round-init : goal.loop-round-init
loop-round-init g c = none_far (g.P.PriceRule.rule c.args.rule.now) (g.M.CutMaker.leaves c.args.maker.now) c.args.rounding c.args.tile.now c.args.due (length c.args.entries.now) c.requires

pub loop-round-preserved : goal.loop-round-preserved
loop-round-preserved g c =
    let l = c.loop-round in
    let k = c.do_round-state.ensures in
    one_far (g.P.PriceRule.rule c.args.rule.now) (g.M.CutMaker.leaves c.args.maker.now) c.args.rounding c.args.tile.now l._round l.state l.tile c.do_round-state.result c.do_round-state.new.tile
    l.invariant k.kept k.does
