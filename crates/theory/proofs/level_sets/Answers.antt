use Rattle.theory.proofs.Levels.{energy_levels, lowest_stacked, stacked_lowest}
use Rattle.theory.proofs.level_sets.Goals as goal

pub returns : goal.returns
returns g c = record { energy = energy_levels; smallest = lowest_stacked; lowest = stacked_lowest }
