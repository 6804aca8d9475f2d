use Rattle.std.proofs.Common.{◌≡◌}
use Rattle.tile.specs.Halving.{halving}
use Rattle.tile.proofs.bracket.halving.Given as goal

abbrev pub invariant-loop-round : goal.invariant-loop-round
invariant-loop-round l = l.bracket ≡ halving l._round l.top l.height
