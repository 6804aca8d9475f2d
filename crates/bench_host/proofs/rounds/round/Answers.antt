use Rattle.std.proofs.Common.{w32, SFits, refl, inl, inr, rules}
use Rattle.std.proofs.lemmas.Int.{to_z-of_z}
use Rattle.bench_host.proofs.rounds.round.Goals as goal

pub returns-in_default-try_from-clause-does : goal.returns-in_default-try_from-clause-does
returns-in_default-try_from-clause-does g c = inl (c.in-Ok.ensures.ranged, (c.in-Ok.shape, (c.in-Ok.ensures, inr (c.in_default-try_from.ensures.1, (refl, refl)))))

pub returns-clause-does : goal.returns-clause-does
returns-clause-does g c =
    let letter = c.in-Ok-try_from.letter in
    let fits : SFits w32 c.round_shape.result = search rules in
    rw (to_z-of_z w32 c.round_shape.result fits)
    (inl (c.in-Ok.ensures.ranged, (c.in-Ok.shape, (c.in-Ok.ensures, inl ((letter, c.in-Ok-try_from.ensures), (letter, (c.in-Ok-try_from.ensures, c.round_shape.ensures.does)))))))
