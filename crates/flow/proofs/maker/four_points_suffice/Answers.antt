use Rattle.flow.proofs.Certifies.{cut_marks}
use Rattle.flow.proofs.maker.four_points_suffice.Goals as goal

pub returns : goal.returns
returns c = cut_marks
