use Rattle.std.proofs.Common.{◌≡◌, false, Ok, Err, Result, IsOkAnd, refl, ap, ◌∙◌}
use Rattle.std.specs.Prelude.{is_err}
use Rattle.tilefile.proofs.Found.{file_mapped}
use Rattle.tilefile.specs.Contents.{Says}
use Rattle.flatten.proofs.answering.is_refused.Goals as goal

not_err : {T E : Type 0} (r : Result T E) (P : T → Type 0) → IsOkAnd r P → is_err r ≡ false
not_err (Ok x) P p = refl
not_err (Err e) P p = absurd p

pub returns : goal.returns
returns c =
    let f = c.args.bytes.now in
    let answer = c.check.result in
    file_mapped (λ s. IsOkAnd answer (Says s f)) (λ s. c.is_err.result ≡ false) f c.args.records
    (λ e z. c.is_err.ensures.value ∙ ap is_err z) (λ s z. c.is_err.ensures.value ∙ not_err answer (Says s f) z) c.check.ensures
