use Rattle.theory.proofs.Halving.{halving}
use Rattle.theory.proofs.halving_step.Goals as goal

pub returns : goal.returns
returns g c = halving
