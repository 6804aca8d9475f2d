use Rattle.std.proofs.Common.{Ok, sym, ap, ◌∙◌, subst}
use Rattle.limits.proofs.Outcomes.{broke}
use Rattle.report.specs.declared.refusing.FileRefusal.TheVariants.{File}
use Rattle.host.specs.declared.shapes.ShapeNumbers.{ShapeNumbers}
use Rattle.host.specs.Shapes.{shape_numbers, ShapeAnswered}
use Rattle.host.proofs.Shaped.{shape_faulty, shape_found}
use Rattle.host.proofs.shapes.check.Goals as goal

pub returns-in_err-contents : goal.returns-in_err-contents
returns-in_err-contents c =
    let why = c.in_err-contents.field-0.0 in
    shape_faulty c.args.bytes.now why c.from_residual.result (broke c.from_residual.result (File why) c.from_residual.ensures.1) c.in_err-contents.ensures

pub returns : goal.returns
returns c =
    subst (λ (n : ShapeNumbers). ShapeAnswered c.args.bytes.now (Ok n)) (sym (ap shape_numbers c.shape.ensures) ∙ sym c.of.ensures)
    (shape_found c.args.bytes.now c.in_ok-contents.contents c.in_ok-contents.ensures)
