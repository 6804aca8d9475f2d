use Rattle.std.proofs.Common.{length, ap, arith}
use Rattle.limits.proofs.Outcomes.{broke}
use Rattle.tile.specs.Shapes.{cells}
use Rattle.tilefile.proofs.Found.{contents_enough}
use Rattle.report.specs.declared.refusing.FileRefusal.TheVariants.{File}
use Rattle.report.proofs.Filed.{room}
use Rattle.report.proofs.FiledInto.{placed, into_faulty, into_unplaced, into_cramped, into_solved}
use Rattle.report.proofs.copying.solve_file_into.Goals as goal

pub returns-in_err-contents-clause-does : goal.returns-in_err-contents-clause-does
returns-in_err-contents-clause-does g c =
    into_faulty (g.M.CutMaker.leaves c.args.maker.now) c.args.bytes.now c.args.tile.now (length c.args.entries.now) c.args.heights.now c.in_err-contents.field-0.0 c.from_residual.result
    (broke c.from_residual.result (File c.in_err-contents.field-0.0) c.from_residual.ensures.1) c.in_err-contents.ensures

pub returns-in_err-check_places-clause-does : goal.returns-in_err-check_places-clause-does
returns-in_err-check_places-clause-does g c =
    let x = c.in_ok-contents.contents in
    into_unplaced (g.M.CutMaker.leaves c.args.maker.now) c.args.bytes.now c.args.tile.now (length c.args.entries.now) c.args.heights.now x c.in_err-check_places.field-0.0 c.from_residual-in_err-check_places.result
    (broke c.from_residual-in_err-check_places.result c.in_err-check_places.field-0.0 c.from_residual-in_err-check_places.ensures.1)
    (rw c.shape.ensures at c.in_err-check_places.ensures) c.in_ok-contents.ensures

pub returns-in_err-check_room-clause-does : goal.returns-in_err-check_room-clause-does
returns-in_err-check_room-clause-does g c =
    let x = c.in_ok-contents.contents in
    into_cramped (g.M.CutMaker.leaves c.args.maker.now) c.args.bytes.now c.args.tile.now (length c.args.entries.now) c.args.heights.now x c.in_err-check_room.field-0.0 c.from_residual-in_err-check_room.result
    (broke c.from_residual-in_err-check_room.result c.in_err-check_room.field-0.0 c.from_residual-in_err-check_room.ensures.1)
    (placed x.shape (length c.args.heights.now) (rw c.shape.ensures at c.in_ok-check_places.ensures)) (rw c.shape-2.ensures at c.in_err-check_room.ensures) c.in_ok-contents.ensures

pub solve_by_letter-solution-requires-clause-records : goal.solve_by_letter-solution-requires-clause-records
solve_by_letter-solution-requires-clause-records g c = contents_enough c.args.bytes.now (length c.args.tile.now) c.in_ok-contents.contents c.in_ok-contents.ensures

pub copy_low_ends-requires-clause-whole : goal.copy_low_ends-requires-clause-whole
copy_low_ends-requires-clause-whole g c =
    let enough = contents_enough c.args.bytes.now (length c.args.tile.now) c.in_ok-contents.contents c.in_ok-contents.ensures in
    let same = ap cells c.shape-3.ensures in
    omega (arith, c.solve_by_letter-solution.ensures.kept.long)

pub returns-clause-does : goal.returns-clause-does
returns-clause-does g c =
    let x = c.in_ok-contents.contents in
    let k = c.solve_by_letter-solution.ensures in
    into_solved (g.M.CutMaker.leaves c.args.maker.now) c.args.bytes.now c.args.tile.now (length c.args.entries.now) c.args.heights.now x c.solve_by_letter-solution.result c.solve_by_letter-solution.new.tile c.copy_low_ends.new.heights
    (placed x.shape (length c.args.heights.now) (rw c.shape.ensures at c.in_ok-check_places.ensures)) (room x.shape (length c.args.entries.now) (rw c.shape-2.ensures at c.in_ok-check_room.ensures)) c.in_ok-contents.ensures
    k.solved k.records k.kept (rw c.shape-3.ensures at c.copy_low_ends.ensures)
