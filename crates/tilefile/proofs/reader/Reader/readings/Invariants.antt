use Rattle.std.proofs.Common.{◌≡◌}
use Rattle.tilefile.proofs.Entries.{ReadingsFar}
use Rattle.tilefile.proofs.reader.Reader.readings.Given as goal

abbrev pub invariant-loop-cell : goal.invariant-loop-cell
invariant-loop-cell l = record {
  bytes : l.self.bytes ≡ l.fn.self.bytes;
  far : ReadingsFar l.shape l.fn.self.bytes.now l.fn.self.place l._cell l.self.place;
}
