use Rattle.std.proofs.Common.{◌≡◌}
use Rattle.passes.specs.Writing.{rewritten}
use Rattle.tilefile.specs.Sections.{reading_place, ties_place}
use Rattle.tilefile.specs.Survey.{entries_survey, cell_record}
use Rattle.tilefile.proofs.laying.lay.Given as goal

abbrev pub invariant-loop-cell : goal.invariant-loop-cell
invariant-loop-cell l = record {
  readings : l.from_readings.bytes.now ≡ l.readings;
  next_reading : l.from_readings.place ≡ reading_place 0 l.cell;
  ties : l.from_ties.bytes.now ≡ l.ties;
  next_tie : l.from_ties.place ≡ ties_place 0 l.cell;
  tile : l.tile ≡ rewritten l.cell (cell_record l.shape.top (entries_survey l.readings l.ties)) l.fn.tile;
}
