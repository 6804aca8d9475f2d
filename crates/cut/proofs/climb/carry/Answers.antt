use Rattle.std.proofs.Common.{◌≡◌, ◌+◌, ℤ, pos, ◌<ℤ◌, sym, ap, ◌∙◌, subst, arith, w32, SFits, rules}
use Rattle.std.proofs.lemmas.Int.{ints, int_min_is}
use Rattle.cut.specs.Ranks.{rank_of}
use Rattle.cut.proofs.Climbs.{never_none_at, roomy_back}
use Rattle.cut.proofs.climb.carry.Goals as goal

pub returns : goal.returns
returns c a =
    let inv = c.loop-u.invariant in
    absurd (never_none_at _ _ _ _ inv.place inv.supplied inv.ranks a c.in_default.ensures)

pub returns-then-r-lt0 : goal.returns-then-r-lt0
returns-then-r-lt0 c =
    let inv = c.loop-u.invariant in
    let p = inv.some in
    let l = inv.few in
    let o : pos 0 <ℤ c.room.result = subst (λ (z : ℤ). pos 0 <ℤ z) (sym c.room.ensures.value) (roomy_back _ _ _ _ _ _ c.in-Some.ensures c.opposite.ensures) in
    let b = c.room.ensures.few in
    let b' = c.remainder-r.ensures.few in
    let t = c.if-r-lt0.true in
    let kf : SFits w32 c.min-f.result = search rules in
    let k : SFits w32 c.min.result = search rules in
    let f : pos 0 <ℤ c.min-f.result = omega (arith, ints, int_min_is, c.min-f.ensures.value) in
    let m : pos 0 <ℤ c.min.result = omega (arith, ints, int_min_is, c.min.ensures.value) in
    omega (arith, ints)

pub loop-u-preserved : goal.loop-u-preserved
loop-u-preserved c =
    let inv = c.loop-u.invariant in
    let p = inv.some in
    let l = inv.few in
    let o : pos 0 <ℤ c.room.result = subst (λ (z : ℤ). pos 0 <ℤ z) (sym c.room.ensures.value) (roomy_back _ _ _ _ _ _ c.in-Some.ensures c.opposite.ensures) in
    let b = c.room.ensures.few in
    let b' = c.remainder-r.ensures.few in
    let kf : SFits w32 c.min-f.result = search rules in
    let f : pos 0 <ℤ c.min-f.result = omega (arith, ints, int_min_is, c.min-f.ensures.value) in
    let under = c.min-f.ensures.self_bound in
    let t = c.if-r-lt0.false in
    let hi = c.in-Some.ensures in
    let ranks : rank_of c.args.flows.now.tile.now c.in-Some.u ≡ rank_of c.args.flows.now.tile.now c.loop-u.v + 1 = ap (rank_of c.args.flows.now.tile.now) hi.at ∙ hi.higher.rank_up in
    record {
      place = omega (arith, hi.at, hi.higher.inside);
      supplied = λ sh. let q : c.remainder-r.result <ℤ pos 0 = subst (λ (z : ℤ). z <ℤ pos 0) (sym c.remainder-r.ensures.value) sh in omega (arith, ints);
      ranks = omega (arith, inv.ranks, ranks);
      some = omega (arith, ints);
      few = omega (arith, ints);
    }
