use Rattle.std.proofs.Common.{◌≡◌, ◌∙◌, ◌⊎◌, List, [], true, map, refl, sym, ap, subst, codes, string_bytes, inl, inr, ⊎_elim}
use Rattle.limits.proofs.Outcomes.{broke}
use Rattle.clap.specs.Words.{IsAmong, Row, Text, app_of, fault_of, first_of, found_of, is_simple, kind_of, matches_of, one_of, rows_of}
use Rattle.clap.specs.Faults.{is_simple_and_free}
use Rattle.clap.specs.declared.error.Error.{Error}
use Rattle.clap.specs.declared.error.kind.ErrorKind.TheVariants.{OutOfMemory}
use Rattle.clap.proofs.OnLiterals.{clap_on_literals}
use Rattle.clap.proofs.WalkLemmas.{first_value-rows, one_text-rows}
use Rattle.flatten.specs.Options.{Makers, command, Asked, Explains, ParsedAs}
use Rattle.flatten.proofs.options.Options.parse.Goals as goal

simple : (makers : Makers) → is_simple (command makers) ≡ true
unfolding clap_on_literals
simple makers = refl

simple_and_free : (makers : Makers) → is_simple_and_free (command makers) ≡ true
unfolding clap_on_literals
simple_and_free makers = refl

pub returns : goal.returns
returns c =
    let (makers, is) = c.in_ok-line.ensures in
    let words : List Text = map (λ word. string_bytes word) c.args.words.now in
    let m = c.in_ok-matches.matches in
    let parse = c.in_ok-matches.ensures in
    let rows : rows_of (found_of m) ≡ matches_of (command makers) words = (parse.matches (ap is_simple is ∙ simple makers)).0 ∙ ap (λ a. matches_of a words) is in
    let understood : fault_of (command makers) words ≡ [] = ap (λ a. fault_of a words) (sym is) ∙ parse.kinds (ap is_simple_and_free is ∙ simple_and_free makers) in
    record {
      makers = makers;
      understood = understood;
      asked = subst (λ (r : List Row). Asked (one_of (codes "records") r) (first_of (codes "cut") r) (one_of (codes "strict") r) c.of.result) rows
          (rw (one_text-rows (found_of m) (codes "records"), first_value-rows (found_of m) (codes "cut"), one_text-rows (found_of m) (codes "strict")) at c.of.ensures);
    }

pub returns-in_err-matches : goal.returns-in_err-matches
returns-in_err-matches c =
    let (makers, is) = c.in_ok-line.ensures in
    let words : List Text = map (λ word. string_bytes word) c.args.words.now in
    let why : Error = c.in_err-matches.field-0.0 in
    let answer = c.from_residual-in_err-matches.result in
    let why_said : (kind_of why ≡ OutOfMemory) ⊎ Explains words why = ⊎_elim
    (λ memory. inl memory)
    (λ (among : IsAmong (kind_of why) (fault_of (app_of c.in_ok-line.line) words)). inr (record { makers = makers; because = subst (λ a. IsAmong (kind_of why) (fault_of a words)) is among }))
    (c.in_err-matches.ensures.kinds (ap is_simple_and_free is ∙ simple_and_free makers)) in
    subst (λ r. ParsedAs words r) (sym (broke answer why c.from_residual-in_err-matches.ensures.1)) why_said
