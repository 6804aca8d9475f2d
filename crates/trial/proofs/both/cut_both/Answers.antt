use Rattle.std.proofs.Common.{sym, subst}
use Rattle.theory.specs.Sets.{SmallestCheapestSet}
use Rattle.theory.proofs.Sets.{smallest_unique}
use Rattle.tile.specs.Tiles.{Tile}
use Rattle.flow.specs.Networks.{network, charges, marks}
use Rattle.trial.proofs.both.cut_both.Goals as goal

pub returns-clause-alike : goal.returns-clause-alike
returns-clause-alike c e =
    let a = c.run_cut.ensures.smallest in
    let b = c.run_cut-2.ensures.smallest in
    smallest_unique (network c.args.shape c.args.first.now) (charges c.args.first.now) (marks c.run_cut.new.tile) (marks c.run_cut-2.new.tile) a
    (subst (λ (t : Tile). SmallestCheapestSet (network c.args.shape t) (charges t) (marks c.run_cut-2.new.tile)) (sym e) b)
