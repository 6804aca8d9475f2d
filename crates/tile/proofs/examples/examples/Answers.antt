use Rattle.tile.proofs.ByNumbers.{shapes, ties_read, records, energies, halvings, rounds}
use Rattle.tile.proofs.examples.examples.Goals as goal

pub returns : goal.returns
returns c = record {
  shapes = shapes;
  ties = ties_read;
  records = records;
  energies = energies;
  halvings = halvings;
  rounds = rounds;
}
