use Rattle.std.proofs.Common.{◌≡◌, List, ℕ, ◌++◌, take, IfSome, subst, string_bytes, arith}
use Rattle.std.specs.Prelude.{option_map}
use Rattle.flatten.proofs.Fronts.{front_read, answered}
use Rattle.report.specs.Answering.{Answers}
use Rattle.flatten.specs.Answering.{Refuses}
use Rattle.flatten.proofs.answering.Answer.to.Goals as goal

pub returns : goal.returns
returns g c =
    let m = c.take.result.limit in
    let n = c.args.options.records in
    let read = c.read_to_end.new.buf.items in
    front_read m (g.R.Read.remaining c.args.file) read _
    (subst (λ (old : List ℕ). IfSome (option_map (take m) (g.R.Read.remaining c.args.file)) (λ xs. read ≡ old ++ xs)) c.new-front.ensures.items
    (subst (λ file. IfSome (option_map (take m) (g.R.Read.remaining file)) (λ xs. read ≡ c.new-front.result.items ++ xs)) c.take.ensures.inner (c.in_ok-read_to_end.ensures.bytes)))
    (λ f e. answered m n read f _ (omega (arith, c.front_length.ensures.length, c.take.ensures.limit)) e
    (subst (λ bytes. Answers bytes n (string_bytes c.in_ok-text_of.field-0)) c.deref.ensures.value c.in_ok-text_of.ensures)
    (subst (λ bytes. Refuses bytes n c.is_refused.result) c.deref-2.ensures.value c.is_refused.ensures))
