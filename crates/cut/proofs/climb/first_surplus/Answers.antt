use Rattle.std.proofs.Common.{rules}
use Rattle.cut.specs.Climbs.{RankedSurplus}
use Rattle.std.proofs.lemmas.Iterator.{first_from_Range}
use Rattle.cut.proofs.Climbs.{found_surplus}
use Rattle.cut.proofs.climb.first_surplus.Goals as goal

pub returns : goal.returns
returns c =
    let f = c.args.flows.now in
    found_surplus _ _ _
    (first_from_Range _ _ _ _ (RankedSurplus f.columns f.tile.now) (λ u. RankedSurplus f.columns f.tile.now u → ⊥) c.find.ensures.ran
    (λ x q k. search rules)
    (λ x q k. (search rules, search rules)))
