use Rattle.std.proofs.Common.{◌∙◌, [], ◌∷◌, Some, ap, codes, rules}
use Rattle.clap.specs.Words.{Rule, rule_of}
use Rattle.clap.specs.declared.builder.value_parser.ValueParser.TheVariants.{Names}
use Rattle.flatten.specs.Options.{Makers}
use Rattle.flatten.proofs.Arguments.{with_parser}
use Rattle.flatten.proofs.options.cut_argument.Goals as goal

pub returns-clause-rule : goal.returns-clause-rule
returns-clause-rule c =
    let makers : Makers = record { list = c.as_slice.result; names = search rules } in
    let given = c.value_parser.ensures.given in (
      makers,
      ap rule_of c.help.ensures ∙ ap rule_of c.default_value.ensures
          ∙ ap (λ (r : Rule). record r { defaults = codes "push" ∷ [] })
          (with_parser c.value_name.result c.value_parser.result given.0 (Names makers.list) c.value_parser.ensures.others given.1 given.2
          ∙ ap (λ (r : Rule). record r { parser = Some (Names makers.list) })
          (ap rule_of c.value_name.ensures ∙ ap (λ (r : Rule). record r { value_names = 1 }) (ap rule_of c.long.ensures ∙ ap (λ (r : Rule). record r { long = Some (codes "cut") }) c.new.ensures.rule))),
    )
