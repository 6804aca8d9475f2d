use Rattle.std.proofs.Common.{length}
use Rattle.limits.proofs.Outcomes.{broke}
use Rattle.solve.proofs.Surveyed.{survey_refused, survey_passed, first_written, all_sound, survey_ready, survey_solved}
use Rattle.solve.proofs.surveying.solve_samples.Goals as goal

pub returns-in_err-check_survey-clause-does : goal.returns-in_err-check_survey-clause-does
returns-in_err-check_survey-clause-does g c =
    let why = c.in_err-check_survey.field-0.0 in
    survey_refused (g.P.PriceRule.rule c.args.rule.now) (g.M.CutMaker.leaves c.args.maker.now) c.args.rows c.args.columns c.args.top c.args.samples.now c.args.tile.now (length c.args.entries.now) why c.from_residual.result
    (broke c.from_residual.result why c.from_residual.ensures.1) (rw c.greatest.ensures at c.in_err-check_survey.ensures)

pub write_samples-draft-requires-clause-none : goal.write_samples-draft-requires-clause-none
write_samples-draft-requires-clause-none g c =
    let p = survey_passed c.args.rows c.args.columns c.args.top (length c.args.tile.now) c.args.samples.now (length c.args.entries.now) c.greatest.result c.in_ok-check_survey.ensures in
    first_written c.args.rows c.args.columns c.args.top c.args.samples.now c.args.tile.now (length c.args.entries.now) c.greatest.result p c.start.result c.start.new.tile c.unwrap-draft.result c.start.ensures.does c.unwrap-draft.ensures c.start.ensures.begins

pub write_samples-draft-requires-clause-sound : goal.write_samples-draft-requires-clause-sound
write_samples-draft-requires-clause-sound g c =
    let p = survey_passed c.args.rows c.args.columns c.args.top (length c.args.tile.now) c.args.samples.now (length c.args.entries.now) c.greatest.result c.in_ok-check_survey.ensures in
    all_sound c.args.rows c.args.columns c.args.top c.args.samples.now c.args.tile.now (length c.args.entries.now) c.greatest.result p c.start.result c.start.new.tile c.unwrap-draft.result c.start.ensures.does c.unwrap-draft.ensures

pub solve_checked-requires : goal.solve_checked-requires
solve_checked-requires g c =
    let p = survey_passed c.args.rows c.args.columns c.args.top (length c.args.tile.now) c.args.samples.now (length c.args.entries.now) c.greatest.result c.in_ok-check_survey.ensures in
    let k = c.write_samples-draft.ensures in
    survey_ready c.args.rows c.args.columns c.args.top c.args.samples.now c.args.tile.now (length c.args.entries.now) c.greatest.result p c.start.result c.start.new.tile c.unwrap-draft.result c.start.ensures.does c.unwrap-draft.ensures
    c.write_samples-draft.result c.write_samples-draft.new.tile k.same k.written (g.P.PriceRule.rule c.args.rule.now) c.greatest.ensures

pub returns-clause-does : goal.returns-clause-does
returns-clause-does g c =
    let p = survey_passed c.args.rows c.args.columns c.args.top (length c.args.tile.now) c.args.samples.now (length c.args.entries.now) c.greatest.result c.in_ok-check_survey.ensures in
    let k = c.write_samples-draft.ensures in
    let end = c.solve_checked.ensures in
    survey_solved c.args.rows c.args.columns c.args.top c.args.samples.now c.args.tile.now (length c.args.entries.now) c.greatest.result p c.start.result c.start.new.tile c.unwrap-draft.result c.start.ensures.does c.unwrap-draft.ensures
    c.write_samples-draft.result c.write_samples-draft.new.tile k.same k.written (g.P.PriceRule.rule c.args.rule.now) (g.met.P.PriceRule.lawful c.args.rule.now) c.greatest.ensures (g.M.CutMaker.leaves c.args.maker.now)
    c.solve_checked.result c.solve_checked.new.tile end.solved end.ends
