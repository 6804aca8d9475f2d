use Rattle.std.proofs.Common.{ℕ, sym, ◌∙◌, subst, arith, pow_mono}
use Rattle.std.proofs.lemmas.Bool.{leb-true, le-leb}
use Rattle.tile.specs.Halving.{RoundsDue}
use Rattle.filter.proofs.states.checking.are_rounds_over.Goals as goal

pub returns : goal.returns
returns c =
    let due : RoundsDue c.args.shape.top c.rounds_due.result = subst (λ (n : ℕ). RoundsDue n c.rounds_due.result) c.top.ensures c.rounds_due.ensures in
    (λ e. omega (arith, due.enough, pow_mono (leb-true c.rounds_due.result c.args.done (sym c.are_done.ensures ∙ e))), λ over. c.are_done.ensures ∙ le-leb c.rounds_due.result c.args.done (due.least c.args.done over))
