use Rattle.std.proofs.Common.{◌≡◌, Bool, true, false, refl, arith}
use Rattle.std.proofs.lemmas.Bool.{true≢false}
use Rattle.cut.proofs.Visiting.{going_none, going_not, going_if, going_all}
use mathlib.Core.Bool.{◌||◌}
use Rattle.cut.proofs.search.visit_all.Goals as goal

none_of : (a b c d : Bool) → (((a || b) || c) || d) ≡ false → (a ≡ false) × (b ≡ false) × (c ≡ false) × (d ≡ false)
none_of false false false false e = (refl, refl, refl, refl)
none_of true b c d e = absurd (true≢false e)
none_of false true c d e = absurd (true≢false e)
none_of false false true d e = absurd (true≢false e)
none_of false false false true e = absurd (true≢false e)

pub returns-then-right-down : goal.returns-then-right-down
returns-then-right-down g c =
    let spot = g.E.Entry.spot in
    let came = g.E.Entry.came in
    let l = c.requires in
    let o = going_none spot came c.args.u c.args.from c.args.flows.now c.args.queue.now in
    let a = going_if spot came c.args.u c.args.from 0 _ _ _ _ _ _ _ l o c.is_fresh-right.ensures c.visit_if.ensures in
    let b = going_if spot came c.args.u c.args.from 1 _ _ _ _ _ _ _ l a c.is_fresh-down.ensures c.visit_if-then-right-down.ensures in
    let d = going_if spot came c.args.u c.args.from 2 _ _ _ _ _ _ _ l b c.is_fresh-left.ensures c.visit_if-then-right-down-2.ensures in
    let e = going_if spot came c.args.u c.args.from 3 _ _ _ _ _ _ _ l d c.is_fresh-up.ensures c.visit_if-then-right-down-3.ensures in
    going_all spot came c.args.u c.args.from 4 _ _ _ _ (omega arith) e

pub returns-else-right-down : goal.returns-else-right-down
returns-else-right-down g c =
    let spot = g.E.Entry.spot in
    let came = g.E.Entry.came in
    let l = c.requires in
    let no = none_of c.is_fresh-right.result c.is_fresh-down.result c.is_fresh-left.result c.is_fresh-up.result c.if-right-down.false in
    let o = going_none spot came c.args.u c.args.from c.args.flows.now c.args.queue.now in
    let a = going_not spot came c.args.u c.args.from 0 _ _ _ _ _ l o c.is_fresh-right.ensures no.0 in
    let b = going_not spot came c.args.u c.args.from 1 _ _ _ _ _ l a c.is_fresh-down.ensures no.1 in
    let d = going_not spot came c.args.u c.args.from 2 _ _ _ _ _ l b c.is_fresh-left.ensures no.2 in
    let e = going_not spot came c.args.u c.args.from 3 _ _ _ _ _ l d c.is_fresh-up.ensures no.3 in
    going_all spot came c.args.u c.args.from 4 _ _ _ _ (omega arith) e
