use Rattle.std.proofs.Common.{arith}
use Rattle.tilefile.specs.Survey.{entries_survey}
use Rattle.tilefile.proofs.Fills.{filled, fill_led}
use Rattle.tilefile.proofs.contents.Contents.fill.Goals as goal

pub returns-clause-does : goal.returns-clause-does
returns-clause-does c =
    let x = c.args.self.now in
    let start = c.start_shape-draft.ensures in
    filled x.shape (entries_survey x.readings.now x.ties.now) c.args.tile.now c.start_shape-draft.new.tile c.lay.new.tile c.start_shape-draft.result (omega (arith, c.if-tile-cells.false, c.cells.ensures)) start.shape start.writes c.lay.ensures

pub returns-clause-ends_run : goal.returns-clause-ends_run
returns-clause-ends_run c =
    let x = c.args.self.now in
    let start = c.start_shape-draft.ensures in
    fill_led x.shape (entries_survey x.readings.now x.ties.now) c.args.tile.now c.start_shape-draft.new.tile c.lay.new.tile c.start_shape-draft.result x.writable (omega (arith, c.if-tile-cells.false, c.cells.ensures)) start.shape start.writes c.lay.ensures
    start.begins
