use Rattle.std.proofs.Common.{rules, arith}
use borrow.Author.Tests.{tests}
use Rattle.std.proofs.lemmas.Iterator.{YieldsList-from_range}
use Rattle.std.proofs.lemmas.Iterator.Adapters.{fits_from_length, at_most_from_yields_List}
use Rattle.std.proofs.lemmas.List.FromFn.{length-range_with_len}
use Rattle.tile.proofs.Costs.{cells_few}
use Rattle.tile.proofs.rating.Rating.costs.Goals as goal

pub sum-requires-clause-fits : goal.sum-requires-clause-fits
sum-requires-clause-fits g c =
    fits_from_length _ _ 16384 18446744073709551616
    (at_most_from_yields_List (YieldsList-from_range 0 c.cells.result c.cells.result c.map.ensures.source (omega arith)) (rw length-range_with_len (omega (arith, cells_few c.args.self.now.shape, c.cells.ensures))))
    c.map.ensures.closure (omega arith) (λ at cost f k. search (rules, tests))
