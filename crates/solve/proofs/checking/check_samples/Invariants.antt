use Rattle.std.proofs.Common.{ℕ, ◌<◌}
use Rattle.solve.specs.Surveying.{sample, SoundSample}
use Rattle.solve.proofs.checking.check_samples.Given as goal

abbrev pub invariant-loop-cell : goal.invariant-loop-cell
invariant-loop-cell l = (u : ℕ) → u < l.cell → SoundSample l.shape u (sample l.samples u)
