use Rattle.theory.proofs.ByNumbers.{sums, graphs, costs, smallest, higher, flows, certificates, energies, grids, lower, brackets, charges, bracketed}
use Rattle.theory.proofs.examples.examples.Goals as goal

pub returns : goal.returns
returns c = record {
  sums = sums;
  graphs = graphs;
  costs = costs;
  smallest = smallest;
  higher = higher;
  flows = flows;
  certificates = certificates;
  energies = energies;
  grids = grids;
  lower = lower;
  brackets = brackets;
  charges = charges;
  bracketed = bracketed;
}
