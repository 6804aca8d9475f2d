use Rattle.flow.proofs.Fronts.{part_admissible, part_cut}
use Rattle.cut.proofs.makers.cut_cells.Goals as goal

pub cut_whole-requires-clause-sound : goal.cut_whole-requires-clause-sound
cut_whole-requires-clause-sound g c = part_admissible c.args.shape c.args.tile.now c.requires.given c.cells-n.result c.columns.result c.cells-n.ensures c.columns.ensures

pub returns : goal.returns
returns g c = part_cut c.args.shape c.args.tile.now c.requires.given c.cells-n.result c.columns.result c.cells-n.ensures c.columns.ensures c.cut_whole.new.tile c.cut_whole.ensures
