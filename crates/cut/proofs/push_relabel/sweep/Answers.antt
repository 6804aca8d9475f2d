use Rattle.cut.proofs.Lent.{leveled_eased, eased_then, eased_relieved, relieved_eased}
use Rattle.cut.proofs.Settling.{ranked_above, swept_met}
use Rattle.cut.proofs.push_relabel.sweep.Goals as goal

pub returns : goal.returns
returns c =
    let first = leveled_eased _ _ c.rank_all.ensures.level in
    let above = ranked_above _ _ _ c.rank_all.ensures.ranked c.in-Some.ensures.1 in
    let rest = eased_then _ _ _ c.pass_all.ensures c.drain.ensures in
    swept_met _ _ (relieved_eased _ _ _ (eased_relieved _ _ _ first (c.climb.ensures.fewer above)) rest)
