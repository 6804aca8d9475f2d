use Rattle.std.proofs.Common.{◌≡◌, refl, ap, ◌∙◌, arith}
use Rattle.std.proofs.lemmas.List.{get_or-take, length-take-le}
use Rattle.tile.specs.declared.cell.Cell.{Cell}
use Rattle.tile.specs.Shapes.{cells}
use Rattle.tile.specs.Tiles.{blank}
use Rattle.passes.specs.Copying.{copied}
use Rattle.passes.proofs.Copies.{copied_more}
use Rattle.passes.proofs.copying.copy_low_ends.Goals as goal

pub loop-at-init : goal.loop-at-init
loop-at-init c = refl

pub loop-at-preserved : goal.loop-at-preserved
loop-at-preserved c =
    let n = c.cells.result in
    let t = c.args.tile.now in
    let few = length-take-le n t (omega arith) in
    copied_more t c.args.heights.now c.loop-at.at c.loop-at.heights c.low_end.result (omega arith) (omega arith) c.loop-at.invariant
    (c.low_end.ensures ∙ ap (λ (x : Cell). x.low) (get_or-take n t c.loop-at.at blank (omega arith)))

pub returns : goal.returns
returns c =
    let few = length-take-le c.cells.result c.args.tile.now (omega arith) in
    let all : c.loop-at.at ≡ cells c.args.shape = omega arith in
    c.loop-at.invariant ∙ ap (λ k. copied k c.args.tile.now c.args.heights.now) all
