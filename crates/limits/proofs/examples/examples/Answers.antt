use Rattle.limits.proofs.ByNumbers.{texts, checks}
use Rattle.limits.proofs.examples.examples.Goals as goal

pub returns : goal.returns
returns c = record { texts = texts; checks = checks }
