use Rattle.std.proofs.Common.{string_bytes, arith}
use Rattle.report.proofs.Texts.{rows_far}
use Rattle.report.proofs.printing.push_rows.Goals as goal

pub loop-row-preserved : goal.loop-row-preserved
loop-row-preserved c =
    rows_far c.args.columns c.args.tile.now c.loop-row.row _ (string_bytes c.args.text.now) (string_bytes c.loop-row.text) (string_bytes c.push_row.new.text) (omega arith) c.loop-row.invariant c.in_ok-push_row.ensures
