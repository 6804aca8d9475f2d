use Rattle.std.proofs.Common.{length}
use Rattle.limits.proofs.Outcomes.{broke}
use Rattle.tilefile.proofs.Found.{contents_enough}
use Rattle.report.specs.declared.refusing.FileRefusal.TheVariants.{File}
use Rattle.report.proofs.Filed.{room, file_faulty, file_cramped, file_solved}
use Rattle.report.proofs.solving.solve_file.Goals as goal

pub returns-in_err-contents-clause-does : goal.returns-in_err-contents-clause-does
returns-in_err-contents-clause-does g c =
    file_faulty (g.M.CutMaker.leaves c.args.maker.now) c.args.bytes.now c.args.tile.now (length c.args.entries.now) c.in_err-contents.field-0.0 c.from_residual.result (broke c.from_residual.result (File c.in_err-contents.field-0.0) c.from_residual.ensures.1) c.in_err-contents.ensures

pub returns-in_err-check_room-clause-does : goal.returns-in_err-check_room-clause-does
returns-in_err-check_room-clause-does g c =
    let x = c.in_ok-contents.contents in
    file_cramped (g.M.CutMaker.leaves c.args.maker.now) c.args.bytes.now c.args.tile.now (length c.args.entries.now) x c.in_err-check_room.field-0.0 c.from_residual-in_err-check_room.result
    (broke c.from_residual-in_err-check_room.result c.in_err-check_room.field-0.0 c.from_residual-in_err-check_room.ensures.1)
    (rw c.shape.ensures at c.in_err-check_room.ensures) c.in_ok-contents.ensures

pub solve_by_letter-requires-clause-records : goal.solve_by_letter-requires-clause-records
solve_by_letter-requires-clause-records g c = contents_enough c.args.bytes.now (length c.args.tile.now) c.in_ok-contents.contents c.in_ok-contents.ensures

pub returns-clause-does : goal.returns-clause-does
returns-clause-does g c =
    let x = c.in_ok-contents.contents in
    let k = c.solve_by_letter.ensures in
    file_solved (g.M.CutMaker.leaves c.args.maker.now) c.args.bytes.now c.args.tile.now (length c.args.entries.now) x c.solve_by_letter.result c.solve_by_letter.new.tile (room x.shape (length c.args.entries.now) (rw c.shape.ensures at c.in_ok-check_room.ensures))
    c.in_ok-contents.ensures k.solved k.records k.kept
