use Rattle.passes.proofs.table.+write_halvings.Given as goal

abbrev pub decreases-write_halvings : goal.decreases-write_halvings
decreases-write_halvings l = l.rounds
