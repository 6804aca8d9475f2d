use Rattle.std.proofs.Common.{ap, ◌∙◌, arith}
use Rattle.std.proofs.lemmas.List.{length-take-le}
use Rattle.tile.specs.Tiles.{cell}
use Rattle.passes.specs.Writing.{with_bracket}
use Rattle.passes.specs.Rounds.{half_marked}
use Rattle.passes.proofs.Rewrites.{part_more}
use Rattle.passes.proofs.narrowing.narrow.Goals as goal

pub loop-cell-preserved : goal.loop-cell-preserved
loop-cell-preserved c =
    let few = length-take-le c.cells.result c.args.tile.now (omega (arith, c.requires.whole)) in
    part_more (λ x. with_bracket (half_marked x) x) _ c.args.tile.now c.loop-cell.cell-index c.loop-cell.cell-items _ c.loop-cell.invariant (omega arith) (omega (arith, c.requires.whole))
    (c.with_bracket.ensures ∙ ap (λ b. with_bracket b (cell c.loop-cell.cell-items c.loop-cell.cell-index)) c.half_marked.ensures)
