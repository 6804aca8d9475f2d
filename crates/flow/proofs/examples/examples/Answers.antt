use Rattle.flow.proofs.ByNumbers.{networks, tiles, points}
use Rattle.flow.proofs.examples.examples.Goals as goal

pub returns : goal.returns
returns c = record { networks = networks; tiles = tiles; points = points }
