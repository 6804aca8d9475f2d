-- The rule that a value of each type stands for.
use Rattle.price.specs.Rules.{Rule}
use Rattle.price.specs.Kinds.{absolute, squared, leaning}
use Rattle.price.specs.declared.absolute.Absolute.{Absolute}
use Rattle.price.specs.declared.squared.Squared.{Squared}
use Rattle.price.specs.declared.leaning.Leaning.{Leaning}

-- the absolute rule for its greatest level
abbrev pub absolute_of : Absolute → Rule
absolute_of s = absolute s.greatest.level

-- the squared rule for its greatest level
abbrev pub squared_of : Squared → Rule
squared_of s = squared s.greatest.level

-- the leaning rule for its greatest level
abbrev pub leaning_of : Leaning → Rule
leaning_of s = leaning s.greatest.level
