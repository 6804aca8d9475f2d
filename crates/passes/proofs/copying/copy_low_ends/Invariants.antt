use Rattle.std.proofs.Common.{◌≡◌}
use Rattle.passes.specs.Copying.{copied}
use Rattle.passes.proofs.copying.copy_low_ends.Given as goal

abbrev pub invariant-loop-at : goal.invariant-loop-at
invariant-loop-at l = l.heights ≡ copied l.at l.tile l.initial.heights
