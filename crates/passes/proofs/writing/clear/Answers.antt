use Rattle.std.proofs.Common.{◌≡◌, ℕ, ◌++◌, drop, replicate, ap, ap₂, ◌∙◌, arith}
use Rattle.std.proofs.lemmas.List.{length-take-le}
use Rattle.tile.specs.declared.cell.Cell.{Cell}
use Rattle.passes.specs.Writing.{fresh, rewritten}
use Rattle.passes.proofs.Rewrites.{filled}
use Rattle.passes.proofs.writing.clear.Goals as goal

pub returns : goal.returns
returns c =
    let t = c.args.tile.now in
    let all : c.fill.new.self ≡ replicate c.cells.result c.fresh.result
    = c.fill.ensures.after (λ y e. e) ∙ ap (λ n. replicate n c.fresh.result) (length-take-le c.cells.result t (omega arith)) in
    ap (λ z. z ++ drop c.cells.result t) all ∙ filled c.cells.result c.fresh.result t
    ∙ ap₂ (λ (n : ℕ) (x : Cell). rewritten n (λ _. x) t) c.cells.ensures (c.fresh.ensures ∙ ap fresh c.top.ensures)
