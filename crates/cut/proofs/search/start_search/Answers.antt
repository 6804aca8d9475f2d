use Rattle.flow.proofs.Pushes.{sound_level}
use Rattle.cut.proofs.search.start_search.Goals as goal

pub invariant_of-flows : goal.invariant_of-flows
invariant_of-flows g c = record { sound = sound_level _ _ _ c.clear_ranks.ensures.level c.args.flows.now.sound }
