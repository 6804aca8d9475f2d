use Rattle.std.proofs.Common.{◌≡◌, ap, ◌∙◌, arith}
use Rattle.tile.specs.Tiles.{Survey}
use Rattle.passes.proofs.Rewrites.{rewrite_step}
use Rattle.tilefile.specs.Survey.{entries_survey, cell_record}
use Rattle.tilefile.proofs.laying.lay.Goals as goal

pub loop-cell-preserved : goal.loop-cell-preserved
loop-cell-preserved c =
    let at = c.loop-cell.invariant in
    let y : Survey = entries_survey c.args.readings.now c.args.ties.now in
    let made : c.next_record.result ≡ cell_record c.args.shape.top y c.loop-cell.cell
    = rw (c.top.ensures, at.readings, at.next_reading, at.ties, at.next_tie) at c.next_record.ensures.record_of_both in
    record {
      readings = ap (λ b. b.now) c.next_record.ensures.readings.0 ∙ at.readings;
      next_reading = omega (arith, c.next_record.ensures.readings.1, at.next_reading);
      ties = ap (λ b. b.now) c.next_record.ensures.ties.0 ∙ at.ties;
      next_tie = omega (arith, c.next_record.ensures.ties.1, at.next_tie);
      tile = rewrite_step (cell_record c.args.shape.top y) c.args.tile.now c.loop-cell.cell c.loop-cell.tile c.next_record.result (omega (arith, c.loop-cell.auto.tile, c.loop-cell-test.true, c.cells-cell-end.ensures, c.requires.tile)) at.tile made;
    }
