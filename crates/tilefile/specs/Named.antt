-- The rule that a value of any letter's rule stands for.
use Rattle.price.specs.Rules.{Rule, Lawful}
use Rattle.price.specs.Made.{absolute_of, squared_of, leaning_of}
use Rattle.price.specs.Kept.{absolute_lawful, squared_lawful, leaning_lawful}
use Rattle.tilefile.specs.declared.rule.LetterRule.{LetterRule}
use Rattle.tilefile.specs.declared.rule.LetterRule.TheVariants.{Absolute, Squared, Leaning}

abbrev pub named_rule : LetterRule → Rule
named_rule (Absolute r) = absolute_of r
named_rule (Squared r) = squared_of r
named_rule (Leaning r) = leaning_of r

-- it keeps the laws of price rules
pub named_lawful : (r : LetterRule) → Lawful (named_rule r)
named_lawful (Absolute r) = absolute_lawful r.greatest.level r.greatest.ranged
named_lawful (Squared r) = squared_lawful r.greatest.level r.greatest.ranged
named_lawful (Leaning r) = leaning_lawful r.greatest.level r.greatest.ranged
