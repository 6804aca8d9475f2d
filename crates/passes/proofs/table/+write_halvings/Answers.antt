use Rattle.passes.proofs.Tables.{written_one}
use Rattle.passes.proofs.table.+write_halvings.Goals as goal

pub returns-then-stays : goal.returns-then-stays
returns-then-stays t c =
    written_one c.args.rounds c.args.bracket c.args.places.now c.write_bracket.new.places c.requires.some c.requires.room (c.stays.ensures.0 c.if-stays.true) c.write_bracket.ensures
