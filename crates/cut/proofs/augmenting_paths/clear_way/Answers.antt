use Rattle.cut.proofs.Lent.{eased_then, leveled_eased}
use Rattle.cut.proofs.Relabeling.{ranked_eased}
use Rattle.cut.proofs.augmenting_paths.clear_way.Goals as goal

pub returns-then-end-u : goal.returns-then-end-u
returns-then-end-u c = eased_then _ _ _ (eased_then _ _ _ c.loop-left.invariant.eased (leveled_eased _ _ c.go_up.ensures.level)) (ranked_eased _ _ _ _ c.put_rank.ensures.rows c.put_rank.ensures.ranked)

pub returns-in_default-before : goal.returns-in_default-before
returns-in_default-before c = eased_then _ _ _ (eased_then _ _ _ c.loop-left.invariant.eased (leveled_eased _ _ c.go_up.ensures.level)) (ranked_eased _ _ _ _ c.put_rank.ensures.rows c.put_rank.ensures.ranked)

pub loop-left-preserved : goal.loop-left-preserved
loop-left-preserved c = record {
  eased = eased_then _ _ _ (eased_then _ _ _ c.loop-left.invariant.eased (leveled_eased _ _ c.go_up.ensures.level)) (ranked_eased _ _ _ _ c.put_rank.ensures.rows c.put_rank.ensures.ranked);
  place = c.in-Some-before.ensures;
}
