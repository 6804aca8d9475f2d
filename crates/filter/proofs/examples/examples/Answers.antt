use Rattle.filter.proofs.ByNumbers.{histories, lending, runs, starts, draft_calls, round_calls, level_calls}
use Rattle.filter.proofs.examples.examples.Goals as goal

pub returns : goal.returns
returns c = record {
  histories = histories;
  lending = lending;
  runs = runs;
  starts = starts;
  draft_calls = draft_calls;
  round_calls = round_calls;
  level_calls = level_calls;
}
