use Rattle.theory.proofs.Levels.{lowest_exists, lowest_unique, lower_steps}
use Rattle.theory.proofs.lowest_cheapest_grids.Goals as goal

pub returns : goal.returns
returns g c = record { exists = lowest_exists; unique = lowest_unique; raised = lower_steps }
