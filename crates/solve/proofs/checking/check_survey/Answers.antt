use Rattle.std.proofs.Common.{Ok, Err, refl, sym, arith}
use Rattle.limits.specs.Checking.{refused, passed}
use Rattle.limits.proofs.Outcomes.{broke, none_found}
use Rattle.solve.specs.declared.samples.SamplesRefusal.TheVariants.{Call}
use Rattle.solve.proofs.Surveyed.{same_call, survey_made, samples_then, rounds_then}
use Rattle.solve.proofs.checking.check_survey.Goals as goal

pub returns-then-samples-cells : goal.returns-then-samples-cells
returns-then-samples-cells c =
    survey_made c.args.rows c.args.columns c.args.top c.args.records c.args.samples.now c.args.entries c.args.greatest c.in_ok-shape.shape _ c.in_ok-shape.ensures
    (refused (λ enough. omega (arith, c.if-samples-cells.true, c.cells.ensures)) refl refl)

pub returns-in_err-check_samples : goal.returns-in_err-check_samples
returns-in_err-check_samples c =
    let s = c.in_ok-shape.shape in
    let why = c.in_err-check_samples.field-0.0 in
    let answer = c.from_residual-in_err-check_samples.result in
    let same = broke answer (Call why) c.from_residual-in_err-check_samples.ensures.1 in
    survey_made c.args.rows c.args.columns c.args.top c.args.records c.args.samples.now c.args.entries c.args.greatest s answer c.in_ok-shape.ensures
    (passed (omega (arith, c.if-samples-cells.false, c.cells.ensures))
    (samples_then s c.args.samples.now c.args.entries c.args.greatest (Err why) answer c.in_err-check_samples.ensures (λ e z. same_call why e answer same z) (λ z. none_found why (sym z))))

pub returns-in_err-check_rounds : goal.returns-in_err-check_rounds
returns-in_err-check_rounds c =
    let s = c.in_ok-shape.shape in
    let why = c.in_err-check_rounds.field-0.0 in
    let answer = c.from_residual-in_err-check_rounds.result in
    let same = broke answer (Call why) c.from_residual-in_err-check_rounds.ensures.1 in
    survey_made c.args.rows c.args.columns c.args.top c.args.records c.args.samples.now c.args.entries c.args.greatest s answer c.in_ok-shape.ensures
    (passed (omega (arith, c.if-samples-cells.false, c.cells.ensures))
    (samples_then s c.args.samples.now c.args.entries c.args.greatest (Ok tt) answer c.in_ok-check_samples.ensures (λ e z. none_found e z) (λ _.
    rounds_then s c.args.entries c.args.greatest (Err why) answer c.in_err-check_rounds.ensures (λ e z. same_call why e answer same z) (λ z. none_found why (sym z)))))

pub returns : goal.returns
returns c =
    let s = c.in_ok-shape.shape in
    survey_made c.args.rows c.args.columns c.args.top c.args.records c.args.samples.now c.args.entries c.args.greatest s (Ok tt) c.in_ok-shape.ensures
    (passed (omega (arith, c.if-samples-cells.false, c.cells.ensures))
    (samples_then s c.args.samples.now c.args.entries c.args.greatest (Ok tt) (Ok tt) c.in_ok-check_samples.ensures (λ e z. none_found e z) (λ _.
    rounds_then s c.args.entries c.args.greatest (Ok tt) (Ok tt) c.in_ok-check_rounds.ensures (λ e z. none_found e z) (λ _. refl))))
