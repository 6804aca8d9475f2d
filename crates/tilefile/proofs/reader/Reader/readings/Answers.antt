use Rattle.std.proofs.Common.{◌≡◌, Ok, ap, ap₂, ◌∙◌, drop, arith}
use Rattle.limits.proofs.Outcomes.{broke}
use Rattle.tile.specs.Shapes.{cells}
use Rattle.tilefile.specs.Sections.{reading_place as readings_place}
use Rattle.tilefile.proofs.Entries.{reading_more, readings_refused, readings_passed}
use Rattle.tilefile.proofs.reader.Reader.readings.Goals as goal

pub returns-in_err-reading-clause-checked : goal.returns-in_err-reading-clause-checked
returns-in_err-reading-clause-checked c =
    let why = c.in_err-reading.field-0.0 in
    let f = c.args.self.now.bytes.now in
    let same : c.loop-cell.self.bytes.now ≡ f = ap (λ b. b.now) c.loop-cell.invariant.bytes in
    readings_refused _ c.args.shape f c.args.self.now.place c.loop-cell._cell c.loop-cell.self.place c.reading.new.self.place why c.from_residual-in_err-reading.result
    (broke c.from_residual-in_err-reading.result why c.from_residual-in_err-reading.ensures.1) (omega (arith, c.loop-cell-test.true, c.cells-cell-end.ensures))
    (rw c.cells.ensures at c.in_ok-count.ensures.checked) c.loop-cell.invariant.far (rw same at c.in_err-reading.ensures.checked)

pub loop-cell-preserved : goal.loop-cell-preserved
loop-cell-preserved c =
    let same : c.loop-cell.self.bytes.now ≡ c.args.self.now.bytes.now = ap (λ b. b.now) c.loop-cell.invariant.bytes in
    record {
      bytes = c.in_ok-reading.ensures.bytes ∙ c.loop-cell.invariant.bytes;
      far = reading_more c.args.shape c.args.self.now.bytes.now c.args.self.now.place c.loop-cell._cell c.loop-cell.self.place c.reading.new.self.place c.loop-cell.invariant.far (rw same at c.in_ok-reading.ensures.checked);
    }

pub returns-clause-checked : goal.returns-clause-checked
returns-clause-checked c =
    let same : c.loop-cell.self.bytes.now ≡ c.args.self.now.bytes.now = ap (λ b. b.now) c.loop-cell.invariant.bytes in
    let end : c.loop-cell.self.place ≡ readings_place c.args.self.now.place (cells c.args.shape)
    = omega (arith, c.loop-cell.invariant.far.here, c.loop-cell.auto._cell-end, c.loop-cell-test.false, c.cells-cell-end.ensures) in
    readings_passed _ c.args.shape c.args.self.now.bytes.now c.args.self.now.place c.loop-cell._cell c.loop-cell.self.place (Ok c.rest.result) (omega (arith, c.loop-cell-test.false, c.cells-cell-end.ensures))
    (rw c.cells.ensures at c.in_ok-count.ensures.checked) c.loop-cell.invariant.far
    (c.rest.ensures ∙ ap₂ drop end same, end)
