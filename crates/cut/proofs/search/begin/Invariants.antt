use Rattle.cut.proofs.Visiting.{Beginning}
use Rattle.cut.proofs.search.begin.Given as goal

abbrev pub invariant-loop-u : goal.invariant-loop-u
invariant-loop-u g l = Beginning g.E.Entry.spot g.E.Entry.came l.u l.initial.flows l.flows l.initial.queue l.queue
