use Rattle.std.proofs.Common.{◌≡◌}
use Rattle.tilefile.proofs.Entries.{TiesFar}
use Rattle.tilefile.proofs.reader.Reader.ties.Given as goal

abbrev pub invariant-loop-cell : goal.invariant-loop-cell
invariant-loop-cell l = record {
  bytes : l.self.bytes ≡ l.fn.self.bytes;
  far : TiesFar l.shape l.fn.self.bytes.now l.fn.self.place l.cell l.self.place;
}
