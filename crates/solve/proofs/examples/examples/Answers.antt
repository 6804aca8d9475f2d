use Rattle.solve.proofs.ByNumbers.{samples, solving}
use Rattle.solve.proofs.examples.examples.Goals as goal

pub returns : goal.returns
returns c = record { samples = samples; solving = solving }
