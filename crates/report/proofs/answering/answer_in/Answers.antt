use Rattle.std.proofs.Common.{length, string_bytes}
use Rattle.report.proofs.Printed.{ok_mapped, solution_fits, solution_printed, refusal_printed}
use Rattle.report.proofs.answering.answer_in.Goals as goal

pub text_of-requires : goal.text_of-requires
text_of-requires g c = solution_fits (g.M.CutMaker.leaves c.args.maker.now) c.args.bytes.now c.args.tile.now (length c.args.entries.now) c.in-Ok.solution c.solve_file.new.tile c.in-Ok.ensures.does

pub returns-in-Ok : goal.returns-in-Ok
returns-in-Ok g c =
    ok_mapped c.text_of.result (λ text. solution_printed (g.M.CutMaker.leaves c.args.maker.now) c.args.bytes.now c.args.tile.now (length c.args.entries.now) c.in-Ok.solution c.solve_file.new.tile (string_bytes text) c.in-Ok.ensures.does) c.text_of.ensures

pub returns-in-Err : goal.returns-in-Err
returns-in-Err g c =
    ok_mapped c.line_of.result (λ text. refusal_printed (g.M.CutMaker.leaves c.args.maker.now) c.args.bytes.now c.args.tile.now (length c.args.entries.now) c.in-Err.refusal c.solve_file.new.tile (string_bytes text) c.requires c.in-Err.ensures.does) c.line_of.ensures
