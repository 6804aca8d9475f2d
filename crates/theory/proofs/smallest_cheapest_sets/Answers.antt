use Rattle.theory.proofs.Sets.{submodular, smallest_exists, smallest_unique, compared}
use Rattle.theory.proofs.smallest_cheapest_sets.Goals as goal

pub returns : goal.returns
returns g c = record { submodular = submodular; exists = smallest_exists; unique = smallest_unique; comparison = compared }
