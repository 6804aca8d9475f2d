use Rattle.std.proofs.Common.{arith, rules}
use borrow.Author.Tests.{tests}
use Rattle.std.proofs.lemmas.Iterator.{cases_from_all, YieldsList-from_range}
use Rattle.passes.specs.Soundness.{SoundRow}
use Rattle.passes.proofs.Rows.{decides_sound}
use Rattle.passes.proofs.soundness.is_sound.Goals as goal

pub returns : goal.returns
returns c =
    decides_sound c.args.shape c.args.done c.rows.result c.args.tile.now c.all.result c.rows.ensures (omega arith)
    (cases_from_all _ _ c.all.result (λ r. SoundRow c.args.shape c.args.done c.args.tile.now r) (λ r. ¬ SoundRow c.args.shape c.args.done c.args.tile.now r)
    c.all.ensures.ran (YieldsList-from_range 0 c.rows.result c.rows.result (cc) (omega arith)) (λ x q k. search (rules, tests)) (λ x q k. search (rules, tests)))
