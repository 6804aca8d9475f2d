use Rattle.std.proofs.Common.{sym, ◌∙◌}
use Rattle.flow.proofs.Tests.{less_true, less_false}
use Rattle.cut.proofs.Visiting.{turning_less, seeking_place, seeking_rest, seeking_above, seeking_on, seeking_done}
use Rattle.cut.proofs.augmenting_paths.seek.Goals as goal

pub returns-in_default-clause-sought : goal.returns-in_default-clause-sought
returns-in_default-clause-sought c = seeking_done _ _ _ _ _ _ c.loop-cell.invariant c.in_default.ensures

pub returns-then-in_surplus-clause-sought : goal.returns-then-in_surplus-clause-sought
returns-then-in_surplus-clause-sought c = (
  seeking_place _ _ _ _ _ _ _ c.loop-cell.invariant c.in-Some.ensures,
  less_true _ _ (sym c.in_surplus.ensures ∙ c.if-in_surplus.true),
  seeking_above _ _ _ _ _ _ _ c.loop-cell.invariant c.in-Some.ensures,
)

pub returns-then-in_surplus-clause-inside : goal.returns-then-in_surplus-clause-inside
returns-then-in_surplus-clause-inside c = seeking_rest _ _ _ _ _ _ _ c.loop-cell.invariant c.in-Some.ensures

pub loop-cell-smaller : goal.loop-cell-smaller
loop-cell-smaller c = turning_less _ _ _ _ _ _ _ _ _ c.loop-cell.invariant.turning c.in-Some.ensures c.visit_all.ensures

pub loop-cell-preserved : goal.loop-cell-preserved
loop-cell-preserved c = seeking_on _ _ _ _ _ _ _ _ _ c.loop-cell.invariant c.in-Some.ensures (less_false _ _ (sym c.in_surplus.ensures ∙ c.if-in_surplus.false)) c.visit_all.ensures
