use Rattle.std.proofs.Common.{ℤ, pos, ◌<ℤ◌, sym, subst, arith}
use Rattle.std.proofs.lemmas.Int.{ints}
use Rattle.cut.proofs.augmenting_paths.push_path.Goals as goal

pub returns-then-remainder-le0-clause-fewer : goal.returns-then-remainder-le0-clause-fewer
returns-then-remainder-le0-clause-fewer c sp _ =
    let b = c.remainder.ensures.few in
    let s : pos 0 <ℤ c.remainder.result = subst (λ (z : ℤ). pos 0 <ℤ z) (sym c.remainder.ensures.value) sp in
    absurd (omega (arith, ints, c.if-remainder-le0.true))
