use Rattle.solve.proofs.Written.{put_here, tied_here}
use Rattle.solve.proofs.Steps.{is_ok}
use Rattle.solve.proofs.surveying.write_sample.Goals as goal

pub unwrap-draft-requires : goal.unwrap-draft-requires
unwrap-draft-requires c =
    let a = put_here c.args.draft c.args.tile.now c.args.samples.now c.args.cell c.position-row.result.0 c.position-row.result.1 c.sample_of-sample.result c.requires c.position-row.ensures c.sample_of-sample.ensures
    c.put.result c.put.new.tile c.put.ensures.does c.put.ensures.goes_on in
    is_ok c.put.result c.args.draft a.0

pub unwrap-requires : goal.unwrap-requires
unwrap-requires c =
    let a = tied_here c.args.draft c.args.tile.now c.args.samples.now c.args.cell c.position-row.result.0 c.position-row.result.1 c.sample_of-sample.result c.requires c.position-row.ensures c.sample_of-sample.ensures
    c.put.result c.put.new.tile c.put.ensures.does c.put.ensures.goes_on c.unwrap-draft.result c.tie.result c.tie.new.tile c.unwrap-draft.ensures c.tie.ensures.does c.tie.ensures.goes_on in
    is_ok c.tie.result c.args.draft a.0

pub returns-clause-written : goal.returns-clause-written
returns-clause-written c =
    (tied_here c.args.draft c.args.tile.now c.args.samples.now c.args.cell c.position-row.result.0 c.position-row.result.1 c.sample_of-sample.result c.requires c.position-row.ensures c.sample_of-sample.ensures
    c.put.result c.put.new.tile c.put.ensures.does c.put.ensures.goes_on c.unwrap-draft.result c.tie.result c.tie.new.tile c.unwrap-draft.ensures c.tie.ensures.does c.tie.ensures.goes_on).1
