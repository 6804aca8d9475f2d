use Rattle.cases.proofs.Worked.{worked_are_right}
use Rattle.cases.proofs.worked_tiles_are_right.Goals as goal

pub returns : goal.returns
returns c = worked_are_right
