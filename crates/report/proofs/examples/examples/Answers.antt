use Rattle.report.proofs.ByNumbers.{texts, every_height, solutions}
use Rattle.report.proofs.examples.examples.Goals as goal

pub returns : goal.returns
returns c = record { texts = texts; heights = every_height; solutions = solutions }
