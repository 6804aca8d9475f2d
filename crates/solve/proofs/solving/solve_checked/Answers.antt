use Rattle.std.proofs.Common.{length}
use Rattle.solve.proofs.Steps.{solved}
use Rattle.solve.proofs.solving.solve_checked.Goals as goal

pub returns-clause-solved : goal.returns-clause-solved
returns-clause-solved g c =
    let r = c.do_rounds-rounding in
    solved (g.P.PriceRule.rule c.args.rule.now) (g.met.P.PriceRule.lawful c.args.rule.now) (g.M.CutMaker.leaves c.args.maker.now) (g.met.M.CutMaker.keeps c.args.maker.now) c.args.draft c.args.tile.now c.due_rounds-due.result (length c.args.entries.now)
    c.begin_rounds-rounding.result r.result r.new.tile c.finish_rounds.result c.requires c.due_rounds-due.ensures c.begin_rounds-rounding.ensures r.ensures.does c.finish_rounds.ensures
