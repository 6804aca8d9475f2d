use Rattle.passes.proofs.Sounds.{sound_chargeable}
use Rattle.bench_host.proofs.rounds.round_shape.Goals as goal

pub halve-requires-clause-fit : goal.halve-requires-clause-fit
halve-requires-clause-fit g c = let may = c.may_be_halved.ensures.0 c.if-not-may_be_halved.false in sound_chargeable _ _ _ may.whole may.sound
