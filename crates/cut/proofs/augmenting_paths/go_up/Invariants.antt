use Rattle.std.proofs.Common.{◌-◌, ◌<◌, length}
use Rattle.cut.specs.Ranks.{rank_of}
use Rattle.cut.specs.Lent.{Leveled}
use Rattle.cut.proofs.augmenting_paths.go_up.Given as goal

abbrev pub invariant-loop-u : goal.invariant-loop-u
invariant-loop-u l = record { level : Leveled l.initial.flows l.flows; place : l.v < length l.flows.tile.now }

abbrev pub decreases-loop-u : goal.decreases-loop-u
decreases-loop-u l = 65536 - rank_of l.flows.tile.now l.v
