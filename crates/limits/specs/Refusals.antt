-- The number and the text of each refusal. What calls promise of a refusal rests on this list: no case has values beside them.
use Rattle.std.specs.Prelude.{ℕ, List, codes}
use Rattle.limits.specs.declared.refusal.Refusal.{Refusal}
use Rattle.limits.specs.declared.refusal.Refusal.TheVariants.{Range, FewRecords, Corrupt, Outside, Reading, Tie, FewEntries, Ceiling, NoRoundLeft, RoundsLeft}

-- the number that a refusal is reported by
abbrev pub number : Refusal → ℕ
number Range = 1
number FewRecords = 2
number Corrupt = 3
number Outside = 4
number Reading = 5
number Tie = 6
number FewEntries = 7
number Ceiling = 8
number NoRoundLeft = 9
number RoundsLeft = 10

-- what a refusal prints
abbrev pub refusal_text : Refusal → List ℕ
refusal_text Range = codes "rows, columns, top or level out of range"
refusal_text FewRecords = codes "fewer records than cells"
refusal_text Corrupt = codes "a reading, class, tie or bracket is spoilt"
refusal_text Outside = codes "row or column outside the tile"
refusal_text Reading = codes "reading above the top, or class too great"
refusal_text Tie = codes "tie too great, or off the edge"
refusal_text FewEntries = codes "fewer entries of workspace than cells"
refusal_text Ceiling = codes "greatest level of the rule below the top"
refusal_text NoRoundLeft = codes "no round is left"
refusal_text RoundsLeft = codes "rounds are left"
