-- What a parse reads of an argument that got a parser.
use Rattle.std.proofs.Common.{◌≡◌, ◌∙◌, Some, ap}
use Rattle.clap.specs.Words.{rule_of}
use Rattle.clap.specs.declared.builder.arg.Arg.{Arg}
use Rattle.clap.specs.declared.builder.value_parser.ValueParser.{ValueParser}

pub with_parser : (a b : Arg) (q p : ValueParser) → b ≡ record a { value_parser = b.value_parser } → b.value_parser ≡ Some q → q ≡ p → rule_of b ≡ record (rule_of a) { parser = Some p }
with_parser a b q p others given is = ap rule_of others ∙ ap (λ v. record (rule_of a) { parser = v }) (given ∙ ap Some is)
