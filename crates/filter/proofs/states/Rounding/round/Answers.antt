use Rattle.std.proofs.Common.{length, Ok}
use Rattle.limits.proofs.Outcomes.{unrefused}
use Rattle.filter.proofs.Keeps.{every_run}
use Rattle.filter.proofs.Joining.{round_met}
use Rattle.filter.proofs.Rounds.{at_greatest, ready, few_left, made_round, made_smallest, made_kept, found_sound}
use Rattle.filter.proofs.Staying.{made_sound}
use Rattle.filter.proofs.states.Rounding.round.Goals as goal

pub returns-in-Err-clause-law : goal.returns-in-Err-clause-law
returns-in-Err-clause-law g c = every_run

pub halve-requires : goal.halve-requires
halve-requires g c = ready c.args.self.shape c.args.self.done c.args.tile.now (length c.args.entries.now) (g.P.PriceRule.rule c.args.rule.now).greatest (at_greatest (Ok tt) c.args.self.shape c.args.self.done c.args.tile.now (length c.args.entries.now) c.greatest.result _ c.greatest.ensures c.in_default.ensures)

pub one_more-requires : goal.one_more-requires
one_more-requires g c = few_left c.args.self.shape c.args.self.done c.args.tile.now (length c.args.entries.now) (g.P.PriceRule.rule c.args.rule.now).greatest (at_greatest (Ok tt) c.args.self.shape c.args.self.done c.args.tile.now (length c.args.entries.now) c.greatest.result _ c.greatest.ensures c.in_default.ensures)

pub returns : goal.returns
returns g c =
    let rule = g.P.PriceRule.rule c.args.rule.now in
    let leaves = g.M.CutMaker.leaves c.args.maker.now in
    let keeps = g.met.M.CutMaker.keeps c.args.maker.now in
    let r = c.args.self in
    let t = c.args.tile.now in
    let n = length c.args.entries.now in
    let checked = at_greatest (Ok tt) r.shape r.done t n c.greatest.result _ c.greatest.ensures c.in_default.ensures in
    let more = c.one_more.ensures in
    round_met c.args.entries.now c.halve.new.entries rule leaves keeps r t n _ _
    (unrefused (unrefused (unrefused (unrefused (unrefused (λ _. made_round r c.one_more.result more.shape more.state more.done c.halve.ensures))))) checked)
    (made_smallest rule leaves keeps r.shape t c.halve.new.tile c.halve.ensures)
    (made_kept rule leaves keeps r.shape t c.halve.new.tile (ready r.shape r.done t n rule.greatest checked).fit.whole c.halve.ensures)
    (made_sound rule leaves keeps r.shape r.done t c.halve.new.tile (found_sound r.shape r.done t n rule.greatest checked) c.halve.ensures _ _ more.shape more.state)
    tt
