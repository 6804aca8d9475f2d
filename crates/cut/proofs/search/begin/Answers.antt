use Rattle.std.proofs.Common.{refl, arith}
use Rattle.cut.proofs.Visiting.{beginning_next, beginning_done}
use Rattle.cut.proofs.search.begin.Goals as goal

pub loop-u-preserved : goal.loop-u-preserved
loop-u-preserved g c =
    beginning_next _ _ _ _ _ _ _ _ _ _ _ _ _ _ c.loop-u.invariant c.requires.rooms c.loop-u-test.true refl c.in_deficit-root.ensures c.first_rank.ensures c.put_rank.ensures.rows c.put_rank.ensures.ranked c.enqueue_if.ensures c.root.ensures.cell c.root.ensures.back

pub returns-clause-started : goal.returns-clause-started
returns-clause-started g c = beginning_done _ _ _ _ _ _ _ c.loop-u.invariant c.requires.rooms (omega arith)
