use Rattle.std.proofs.Common.{length, ap, ◌∙◌, subst}
use Rattle.theory.specs.Grids.{energy}
use Rattle.tile.specs.Halving.{RoundsDue}
use Rattle.tile.specs.Tiles.{problem, heights}
use Rattle.tilefile.specs.Contents.{contents_survey}
use Rattle.solve.proofs.Steps.{is_ok}
use Rattle.report.proofs.Solutions.{SolvedDraft, solved_after, lowest, cost_of, records_solved, past_kept, same_ok, ok_and, value}
use Rattle.report.proofs.solving.solve_contents.Goals as goal

pub unwrap-level-requires : goal.unwrap-level-requires
unwrap-level-requires g c =
    let x = c.args.contents.now in
    ok_and c.solve.result (λ l. SolvedDraft (g.P.PriceRule.rule c.args.rule.now) (g.M.CutMaker.leaves c.args.maker.now) x.shape (contents_survey x) c.args.tile.now l c.solve.new.tile) (solved_after (g.P.PriceRule.rule c.args.rule.now) (g.met.P.PriceRule.lawful c.args.rule.now) (g.M.CutMaker.leaves c.args.maker.now) x.shape (contents_survey x) c.args.tile.now c.fill.result c.fill.new.tile c.unwrap-draft.result (length c.args.entries.now) c.solve.result c.solve.new.tile
    c.requires.records c.requires.room c.requires.reach c.fill.ensures.does c.fill.ensures.ends_run c.unwrap-draft.ensures c.solve.ensures.kept c.solve.ensures.does c.solve.ensures.runs)

pub unwrap-energy-requires : goal.unwrap-energy-requires
unwrap-energy-requires g c =
    let x = c.args.contents.now in
    let y = contents_survey x in
    let rule = g.P.PriceRule.rule c.args.rule.now in
    let leaves = g.M.CutMaker.leaves c.args.maker.now in
    let t' = c.solve.new.tile in
    let a = value c.solve.result c.unwrap-level.result (λ l. SolvedDraft rule leaves x.shape y c.args.tile.now l t') (solved_after rule (g.met.P.PriceRule.lawful c.args.rule.now) leaves x.shape y c.args.tile.now c.fill.result c.fill.new.tile c.unwrap-draft.result (length c.args.entries.now) c.solve.result t'
    c.requires.records c.requires.room c.requires.reach c.fill.ensures.does c.fill.ensures.ends_run c.unwrap-draft.ensures c.solve.ensures.kept c.solve.ensures.does c.solve.ensures.runs) c.unwrap-level.ensures in
    is_ok c.cost.result (energy (problem rule x.shape y) (heights t')) (cost_of rule leaves x.shape y c.args.tile.now c.unwrap-level.result t' c.requires.records a c.cost.result c.requires.reach c.cost.ensures)

pub returns : goal.returns
returns g c =
    let x = c.args.contents.now in
    let s = x.shape in
    let y = contents_survey x in
    let rule = g.P.PriceRule.rule c.args.rule.now in
    let leaves = g.M.CutMaker.leaves c.args.maker.now in
    let t = c.args.tile.now in
    let t' = c.solve.new.tile in
    let l = c.unwrap-level.result in
    let a = value c.solve.result l (λ k. SolvedDraft rule leaves s y t k t') (solved_after rule (g.met.P.PriceRule.lawful c.args.rule.now) leaves s y t c.fill.result c.fill.new.tile c.unwrap-draft.result (length c.args.entries.now) c.solve.result t'
    c.requires.records c.requires.room c.requires.reach c.fill.ensures.does c.fill.ensures.ends_run c.unwrap-draft.ensures c.solve.ensures.kept c.solve.ensures.does c.solve.ensures.runs) c.unwrap-level.ensures in
    let cost = cost_of rule leaves s y t l t' c.requires.records a c.cost.result c.requires.reach c.cost.ensures in
    let due = subst (λ n. RoundsDue n c.solution_of.result.rounds) (ap (λ s. s.top) c.shape.ensures) c.solution_of.ensures.rounds in
    record {
      solved = record {
        lowest_cheapest = lowest rule leaves s y t l t' c.requires.records a;
        rows = c.solution_of.ensures.rows ∙ ap (λ s. s.rows) c.shape.ensures;
        columns = c.solution_of.ensures.columns ∙ ap (λ s. s.columns) c.shape.ensures;
        top = c.solution_of.ensures.top ∙ ap (λ s. s.top) c.shape.ensures;
        rounds = due;
        energy = c.solution_of.ensures.energy ∙ same_ok c.cost.result c.unwrap-energy.result (energy (problem rule s y) (heights t')) c.unwrap-energy.ensures cost;
      };
      records = records_solved rule leaves s y t l t' c.requires.records a (g.met.M.CutMaker.keeps c.args.maker.now) c.solution_of.result.rounds due;
      kept = past_kept rule leaves s y t l t' c.requires.records a;
    }
