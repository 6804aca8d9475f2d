use Rattle.queue.proofs.ByNumbers.{rings, calls}
use Rattle.queue.proofs.examples.examples.Goals as goal

pub returns : goal.returns
returns c = record { rings = rings; calls = calls }
