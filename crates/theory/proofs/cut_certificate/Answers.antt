use Rattle.theory.proofs.Flows.{certified}
use Rattle.theory.proofs.cut_certificate.Goals as goal

pub returns : goal.returns
returns g c = certified
