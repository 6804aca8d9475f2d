use Rattle.std.proofs.Common.{◌≡◌, ℕ, ◌*◌, Err, refl, ap, ◌∙◌, ap₂, arith}
use Rattle.std.proofs.lemmas.Result.{err_from_is_err_and}
use Rattle.std.proofs.lemmas.Bool.Decides.{not_from_Decides}
use Rattle.limits.specs.Checking.{refused, passed}
use Rattle.tile.specs.Shapes.{cells}
use Rattle.passes.specs.Writing.{fresh, rewritten}
use Rattle.filter.proofs.Joining.{start_met}
use Rattle.filter.proofs.states.draft_calls.start.Goals as goal

pub returns-in_err-shape : goal.returns-in_err-shape
returns-in_err-shape c =
    let p = err_from_is_err_and c.from_residual.result c.from_residual.ensures.1 in
    let k = c.in_err-shape.ensures in
    start_met c.args.rows c.args.columns c.args.top c.args.tile.now c.from_residual.result _ (refused k refl (p.1 ∙ ap Err p.2, refl))

pub returns-then-not-is_whole : goal.returns-then-not-is_whole
returns-then-not-is_whole c =
    let k = c.in_ok-shape.ensures in
    let same : cells c.in_ok-shape.shape ≡ c.args.rows * c.args.columns = ap₂ (λ (a b : ℕ). a * b) k.same_rows k.same_columns in
    start_met c.args.rows c.args.columns c.args.top c.args.tile.now _ _
    (passed k.ranged (refused (λ whole. not_from_Decides c.is_whole.result c.is_whole.ensures c.if-not-is_whole.true (omega arith)) refl (refl, refl)))

pub returns : goal.returns
returns c =
    let k = c.in_ok-shape.ensures in
    let same : cells c.in_ok-shape.shape ≡ c.args.rows * c.args.columns = ap₂ (λ (a b : ℕ). a * b) k.same_rows k.same_columns in
    let writes = c.clear.ensures ∙ ap₂ (λ (n top : ℕ). rewritten n (λ _. fresh top) c.args.tile.now) same k.same_top in
    start_met c.args.rows c.args.columns c.args.top c.args.tile.now _ _
    (passed k.ranged (passed (omega (arith, c.is_whole.ensures.0 c.if-not-is_whole.false)) (record { draft = _; answers = refl; shape = k; writes = writes })))
