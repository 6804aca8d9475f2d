use Rattle.std.proofs.Common.{◌∙◌, [], ◌∷◌, Some, ap, codes}
use Rattle.clap.specs.Words.{Rule, rule_of}
use Rattle.clap.specs.declared.builder.value_parser.ValueParser.TheVariants.{Unsigned}
use Rattle.flatten.proofs.Arguments.{with_parser}
use Rattle.flatten.proofs.options.records_argument.Goals as goal

pub returns-clause-rule : goal.returns-clause-rule
returns-clause-rule c =
    let given = c.value_parser-2.ensures.given in
    ap rule_of c.help.ensures ∙ ap rule_of c.default_value.ensures
    ∙ ap (λ (r : Rule). record r { defaults = codes "1024" ∷ [] })
    (with_parser c.value_name.result c.value_parser-2.result given.0 (Unsigned 0 18446744073709551615) c.value_parser-2.ensures.others given.1 (given.2 ∙ c.value_parser.ensures)
    ∙ ap (λ (r : Rule). record r { parser = Some (Unsigned 0 18446744073709551615) })
    (ap rule_of c.value_name.ensures ∙ ap (λ (r : Rule). record r { value_names = 1 }) (ap rule_of c.long.ensures ∙ ap (λ (r : Rule). record r { long = Some (codes "records") }) c.new.ensures.rule)))
