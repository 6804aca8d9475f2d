use Rattle.theory.proofs.Instance.{certificate_met}
use Rattle.theory.proofs.certificate_can_be_met.Goals as goal

pub returns : goal.returns
returns c = certificate_met
