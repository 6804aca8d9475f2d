use Rattle.std.proofs.Common.{◌≡◌, ◌∙◌, ap, ap₂, codes}
use Rattle.clap.specs.Words.{app_of, new_app, with_rule}
use Rattle.clap.specs.Simple.{app_of_fields}
use Rattle.flatten.proofs.options.command_line.Goals as goal

pub returns : goal.returns
returns c =
    let cut = c.cut_argument.ensures.rule in
    let new_is : app_of c.after_help.result ≡ new_app (codes "flatten") = ap app_of_fields c.after_help.ensures ∙ ap app_of_fields c.about.ensures ∙ c.new.ensures.app in (
      cut.0,
      c.in_ok-line.ensures.shape c.strict_argument.ensures.own
          ∙ ap₂ with_rule (c.in_ok-arg-2.ensures.shape c.cut_argument.ensures.own ∙ ap₂ with_rule (c.in_ok-arg.ensures.shape c.records_argument.ensures.own ∙ ap₂ with_rule new_is c.records_argument.ensures.rule) cut.1) c.strict_argument.ensures.rule,
    )
