use Rattle.price.proofs.ByNumbers.{weights, prices, steps, answers, laws, making}
use Rattle.price.proofs.examples.examples.Goals as goal

pub returns : goal.returns
returns c = record {
  weights = weights;
  prices = prices;
  steps = steps;
  answers = answers;
  laws = laws;
  making = making;
}
