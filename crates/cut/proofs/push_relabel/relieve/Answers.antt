use Rattle.std.proofs.Common.{arith}
use Rattle.cut.proofs.Relabeling.{ranked_eased, eases_trans, eases_more, eases_moved}
use Rattle.cut.proofs.push_relabel.relieve.Goals as goal

pub returns-then-flows-v-gt0 : goal.returns-then-flows-v-gt0
returns-then-flows-v-gt0 c =
    let d = c.draw_all.ensures in
    let e = ranked_eased _ _ _ _ c.lower.ensures.rows c.lower.ensures.lower in
    let long = d.eased.still.long in
    eases_trans (λ x. x) _ _ _ _ _ _ d (eases_more (λ x. x) _ _ _ _ _ _ e.rows e.holds (omega (arith, c.requires)) c.enqueue.ensures)

pub returns-else-flows-v-gt0 : goal.returns-else-flows-v-gt0
returns-else-flows-v-gt0 c = eases_trans (λ x. x) _ _ _ _ _ _ c.draw_all.ensures (eases_moved (λ x. x) _ _ _ (ranked_eased _ _ _ _ c.lower.ensures.rows c.lower.ensures.lower))
