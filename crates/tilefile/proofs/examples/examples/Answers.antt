use Rattle.tilefile.proofs.ByNumbers.{bytes, layouts, files, entries, texts}
use Rattle.tilefile.proofs.examples.examples.Goals as goal

pub returns : goal.returns
returns c = record { bytes = bytes; layouts = layouts; files = files; entries = entries; texts = texts }
