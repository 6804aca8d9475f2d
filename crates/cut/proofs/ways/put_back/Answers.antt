use Rattle.flow.proofs.Pushes.{sound_level}
use Rattle.cut.proofs.Searches.{level_marked}
use Rattle.cut.proofs.ways.put_back.Goals as goal

pub invariant_of-flows : goal.invariant_of-flows
invariant_of-flows c = record { sound = sound_level _ _ _ (level_marked _ _ _) c.args.flows.now.sound }
