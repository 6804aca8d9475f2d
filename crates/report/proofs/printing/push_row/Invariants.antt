use Rattle.std.proofs.Common.{◌≡◌, ◌++◌, map, take, string_bytes}
use Rattle.tile.specs.declared.cell.Cell.{Cell as Record}
use Rattle.report.specs.Printing.{spaced}
use Rattle.report.proofs.printing.push_row.Given as goal

abbrev pub invariant-loop-column : goal.invariant-loop-column
invariant-loop-column l = string_bytes l.text ≡ string_bytes l.fn.text ++ spaced (map (λ (c : Record). c.low) (take l.column l.row))
