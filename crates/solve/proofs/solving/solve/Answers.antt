use Rattle.std.proofs.Common.{length}
use Rattle.solve.proofs.Steps.{runs_refused, runs_solved}
use Rattle.solve.proofs.solving.solve.Goals as goal

pub returns-in-Err-clause-runs : goal.returns-in-Err-clause-runs
returns-in-Err-clause-runs g c =
    runs_refused (g.P.PriceRule.rule c.args.rule.now) (g.met.P.PriceRule.lawful c.args.rule.now) (g.M.CutMaker.leaves c.args.maker.now) c.args.draft c.args.tile.now (length c.args.entries.now) c.in-Err.why
    (rw c.greatest.ensures at c.in-Err.ensures)

pub returns-clause-runs : goal.returns-clause-runs
returns-clause-runs g c =
    let k = c.solve_checked.ensures in
    runs_solved (g.P.PriceRule.rule c.args.rule.now) (g.met.P.PriceRule.lawful c.args.rule.now) (g.M.CutMaker.leaves c.args.maker.now) c.args.draft c.args.tile.now (length c.args.entries.now) c.solve_checked.result c.solve_checked.new.tile
    (rw c.greatest.ensures at c.in_default.ensures) k.solved k.ends
