use Rattle.cases.proofs.OneCell.{begun, begun_past, one_started}
use Rattle.cases.proofs.one_cell.start_one_cell.Goals as goal

pub returns : goal.returns
returns c =
    let s = begun c.args.tile.now c.start.result c.start.new.tile c.requires c.start.ensures.does in
    record {
      past = begun_past c.args.tile.now c.start.result c.start.new.tile c.requires s;
      writes = s.writes;
      begun = one_started c.args.tile.now c.start.result c.start.new.tile c.unwrap.result c.requires s c.start.ensures.begins c.unwrap.ensures;
    }
