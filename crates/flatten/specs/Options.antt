-- What the words of a command line ask for. clap's words say what a parse makes of them: `matches_of` and `fault_of`.
use Rattle.std.specs.Prelude.{◌≡◌, ◌⊎◌, ℕ, ◌<◌, ◌^◌, ◌*◌, min, true, false, List, [], ◌∷◌, map, Option, Some, Result, MatchResult, codes}
use Rattle.std.specs.Borrow.{Bor}
use Rattle.std.specs.Str.Parse.{IsNumeral, digits_value, without_leading_plus}
use Rattle.limits.specs.Limits.{most_rows, most_columns}
use Rattle.clap.specs.Words.{App, Rule, Text, IsAmong, fault_of, first_of, kind_of, matches_of, new_app, new_rule, one_of, with_rule}
use Rattle.clap.specs.declared.builder.action.ArgAction.TheVariants.{SetTrue}
use Rattle.clap.specs.declared.builder.value_parser.ValueParser.TheVariants.{Names, Unsigned}
use Rattle.clap.specs.declared.error.Error.{Error}
use Rattle.clap.specs.declared.error.kind.ErrorKind.TheVariants.{OutOfMemory}
use Rattle.flatten.specs.declared.options.Cut.{Cut}
use Rattle.flatten.specs.declared.options.Cut.TheVariants.{Paths, Push}
use Rattle.flatten.specs.declared.options.Options.{Options}

-- ---- the arguments that there are

-- the name of a cut maker
abbrev pub cut_name : Cut → List ℕ
cut_name Paths = codes "paths"
cut_name Push = codes "push"

-- a lent list of the makers' names
pub record Makers : Type 0 where
  pub list : Bor (List (Bor (List ℕ)))
  pub names : map (λ (name : Bor (List ℕ)). name.now) list.now ≡ cut_name Paths ∷ cut_name Push ∷ []

-- --records with a number, which is 1024 if not given
abbrev pub records_rule : Rule
records_rule = record (new_rule (codes "records")) { long = Some (codes "records"); value_names = 1; defaults = codes "1024" ∷ []; parser = Some (Unsigned 0 18446744073709551615) }

-- --cut with the name of a maker, which is push if not given
abbrev pub cut_rule : Makers → Rule
cut_rule makers = record (new_rule (codes "cut")) { long = Some (codes "cut"); value_names = 1; defaults = codes "push" ∷ []; parser = Some (Names makers.list) }

-- --strict, alone
abbrev pub strict_rule : Rule
strict_rule = record (new_rule (codes "strict")) { long = Some (codes "strict"); action = Some SetTrue }

abbrev pub command : Makers → App
command makers = with_rule (with_rule (with_rule (new_app (codes "flatten")) records_rule) (cut_rule makers)) strict_rule

-- ---- what they come to

-- the text is the number n in decimal, with or without a plus sign before it
pub record IsNumber (text : List ℕ) (n : ℕ) : Type 0 where
  pub digits : IsNumeral 10 (without_leading_plus text)
  pub value : n ≡ digits_value 10 (without_leading_plus text)
  pub small : n < 2 ^ 64

-- The options for these values of --records, --cut and --strict: as many records as are given, up to the cells of the largest tile.
pub record Asked (given maker flag : Option Text) (o : Options) : Type 0 where
  pub records : (text : Text) (n : ℕ) → given ≡ Some text → IsNumber text n → o.records ≡ min n (most_rows * most_columns)
  pub cut : (c : Cut) → maker ≡ Some (cut_name c) → o.cut ≡ c
  pub strict : flag ≡ Some (codes "true") → o.strict ≡ true
  pub lenient : flag ≡ Some (codes "false") → o.strict ≡ false

-- the words are understood, and ask for the options o
pub record AskFor (words : List Text) (o : Options) : Type 0 where
  pub makers : Makers
  pub understood : fault_of (command makers) words ≡ []
  pub asked : let rows = matches_of (command makers) words in Asked (one_of (codes "records") rows) (first_of (codes "cut") rows) (one_of (codes "strict") rows) o

-- the words are not understood, or ask for help, which is what the error says
pub record Explains (words : List Text) (e : Error) : Type 0 where
  pub makers : Makers
  pub because : IsAmong (kind_of e) (fault_of (command makers) words)

-- the options for the words, or an error; every other error is want of memory
abbrev pub ParsedAs : List Text → Result Options Error → Type 0
ParsedAs words r = MatchResult r (AskFor words) (λ e. (kind_of e ≡ OutOfMemory) ⊎ Explains words e)
