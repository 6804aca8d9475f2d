use Rattle.std.proofs.Common.{sym, ◌∙◌, arith}
use Rattle.flow.specs.Sides.{InDeficit}
use Rattle.flow.proofs.Tests.{less_true, less_false}
use Rattle.cut.proofs.Climbs.{never_none, climb_last, climb_surplus, climb_rank, climb_above}
use Rattle.cut.proofs.Lent.{eased_then, eased_relieved}
use Rattle.cut.proofs.climb.climb.Goals as goal

pub returns-clause-fewer : goal.returns-clause-fewer
returns-clause-fewer c a =
    let inv = c.loop-u.invariant in
    absurd (never_none _ _ _ inv.place inv.surplus (inv.above a) c.in_default.ensures)

pub returns-then-deficit : goal.returns-then-deficit
returns-then-deficit c =
    let inv = c.loop-u.invariant in
    let sh : InDeficit c.loop-u.flows.tile.now c.loop-u.flows.columns c.in-Some.u = less_true _ _ (sym c.in_deficit-deficit.ensures ∙ c.if-deficit.true) in
    let r = climb_last _ _ _ _ _ _ _ _ inv.surplus c.in-Some.ensures c.opposite.ensures c.send.ensures.sent sh in
    let rel = eased_relieved _ _ _ inv.eased (record { rows = c.send.ensures.rows; holds = r }) in
    record { eased = record { rows = rel.rows; holds = rel.holds.eased }; fewer = λ _. rel }

pub loop-u-smaller : goal.loop-u-smaller
loop-u-smaller c =
    let inv = c.loop-u.invariant in
    let r = climb_rank _ _ _ _ _ _ _ _ inv.surplus c.in-Some.ensures c.opposite.ensures c.send.ensures.sent in
    omega (arith, r, c.in-Some.ensures.few)

pub loop-u-preserved : goal.loop-u-preserved
loop-u-preserved c =
    let inv = c.loop-u.invariant in
    let sent = c.send.ensures.sent in
    let n : InDeficit c.loop-u.flows.tile.now c.loop-u.flows.columns c.in-Some.u → ⊥ = less_false _ _ (sym c.in_deficit-deficit.ensures ∙ c.if-deficit.false) in
    record {
      eased = eased_then _ _ _ inv.eased (record { rows = c.send.ensures.rows; holds = sent.eased });
      place = omega (arith, sent.eased.still.long, c.in-Some.ensures.at, c.in-Some.ensures.higher.inside);
      surplus = rw c.send.ensures.rows.columns (climb_surplus _ _ _ _ _ _ _ _ inv.surplus c.in-Some.ensures c.opposite.ensures sent n);
      above = λ a. rw c.send.ensures.rows.columns (climb_above _ _ _ _ _ _ _ _ inv.surplus c.in-Some.ensures c.opposite.ensures sent n (inv.above a));
    }
