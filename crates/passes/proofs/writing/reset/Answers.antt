use Rattle.std.proofs.Common.{ap, ◌∙◌, arith}
use Rattle.std.proofs.lemmas.List.{length-take-le}
use Rattle.tile.specs.Tiles.{cell}
use Rattle.passes.specs.Writing.{reset}
use Rattle.passes.proofs.Rewrites.{part_more}
use Rattle.passes.proofs.writing.reset.Goals as goal

pub loop-cell-preserved : goal.loop-cell-preserved
loop-cell-preserved c =
    let few = length-take-le c.cells.result c.args.tile.now (omega arith) in
    part_more (reset c.args.shape.top) _ c.args.tile.now c.loop-cell.cell-index c.loop-cell.cell-items _ c.loop-cell.invariant (omega arith) (omega arith)
    (c.reset_cell.ensures ∙ ap (λ n. reset n (cell c.loop-cell.cell-items c.loop-cell.cell-index)) c.top.ensures)
