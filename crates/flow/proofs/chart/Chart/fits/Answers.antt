use Rattle.std.proofs.Common.{refl, subst, arith, rules}
use borrow.Author.Tests.{tests}
use Rattle.std.specs.Prelude.{ℕ, ◌<◌, ◌↔◌, IsTrue}
use Rattle.std.proofs.lemmas.Iterator.{cases_from_all, YieldsList-from_range}
use Rattle.flow.specs.Charts.{CellFits}
use Rattle.flow.proofs.Walks.{all_below}
use Rattle.flow.proofs.chart.Chart.fits.Goals as goal

pub returns : goal.returns
returns c =
    subst (λ (n : ℕ). IsTrue c.all.result ↔ ((u : ℕ) → u < n → CellFits c.args.self.now.shape c.args.self.now.tile.now u)) c.cells.ensures
    (all_below (CellFits c.args.self.now.shape c.args.self.now.tile.now) c.cells.result c.all.result
    (cases_from_all _ _ c.all.result (CellFits c.args.self.now.shape c.args.self.now.tile.now) (λ u. ¬ CellFits c.args.self.now.shape c.args.self.now.tile.now u)
    c.all.ensures.ran (YieldsList-from_range 0 c.cells.result c.cells.result refl (omega arith)) (λ x q k. search (rules, tests)) (λ x q k. search (rules, tests))))
