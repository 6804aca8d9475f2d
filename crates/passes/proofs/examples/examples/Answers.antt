use Rattle.passes.proofs.ByNumbers.{soundness, sound, written, rounds}
use Rattle.passes.proofs.examples.examples.Goals as goal

pub returns : goal.returns
returns c = record { soundness = soundness; sound = sound; written = written; rounds = rounds }
