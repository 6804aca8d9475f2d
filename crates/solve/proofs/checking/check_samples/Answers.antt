use Rattle.std.proofs.Common.{arith}
use Rattle.limits.proofs.Outcomes.{broke}
use Rattle.tile.specs.Shapes.{cells}
use Rattle.solve.proofs.Written.{samples_refused, samples_passed}
use Rattle.solve.proofs.checking.check_samples.Goals as goal

pub returns-in_err-check_sample : goal.returns-in_err-check_sample
returns-in_err-check_sample c =
    let why = c.in_err-check_sample.field-0.0 in
    samples_refused c.args.shape c.args.samples.now (cells c.args.shape) c.loop-cell.cell c.sample_of.result why c.from_residual.result (broke c.from_residual.result why c.from_residual.ensures.1)
    (omega (arith, c.loop-cell-test.true, c.cells-cell-end.ensures)) c.loop-cell.invariant c.sample_of.ensures c.in_err-check_sample.ensures

pub returns : goal.returns
returns c = samples_passed c.args.shape c.args.samples.now (cells c.args.shape) (λ u l. c.loop-cell.invariant u (omega (arith, c.loop-cell-test.false, c.cells-cell-end.ensures)))
