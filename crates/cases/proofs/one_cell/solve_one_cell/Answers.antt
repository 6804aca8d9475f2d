use Rattle.std.proofs.Common.{length}
use Rattle.cases.proofs.OneCell.{one_ends, ends_ok, one_solved, kept_past}
use Rattle.cases.proofs.one_cell.solve_one_cell.Goals as goal

pub unwrap-requires : goal.unwrap-requires
unwrap-requires g c =
    let r = c.requires in
    ends_ok c.solve.result _ (one_ends (g.P.PriceRule.rule c.args.rule.now) (g.met.P.PriceRule.lawful c.args.rule.now) c.args.draft c.args.tile.now (length c.args.entries.now) c.solve.result c.solve.new.tile r.begun r.room c.solve.ensures.runs)

pub returns : goal.returns
returns g c =
    let r = c.requires in
    let ends = one_ends (g.P.PriceRule.rule c.args.rule.now) (g.met.P.PriceRule.lawful c.args.rule.now) c.args.draft c.args.tile.now (length c.args.entries.now) c.solve.result c.solve.new.tile r.begun r.room c.solve.ensures.runs in
    record {
      past = kept_past c.args.draft c.args.tile.now c.solve.new.tile r.begun c.solve.ensures.kept;
      solved = one_solved (g.P.PriceRule.rule c.args.rule.now) (g.met.P.PriceRule.lawful c.args.rule.now) (g.M.CutMaker.leaves c.args.maker.now) c.args.draft c.args.tile.now (length c.args.entries.now) c.solve.result c.solve.new.tile c.unwrap.result
          r.begun r.room c.solve.ensures.does ends c.unwrap.ensures;
    }
