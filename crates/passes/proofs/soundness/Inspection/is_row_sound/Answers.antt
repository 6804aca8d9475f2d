use Rattle.std.proofs.Common.{◌+◌, ◌-◌, ◌*◌, ap, arith}
use Rattle.std.proofs.lemmas.Bool.{both_ways}
use Rattle.passes.proofs.Rows.{last_decides, inner_sound}
use Rattle.passes.proofs.soundness.Inspection.is_row_sound.Goals as goal

pub returns-then-are_inner_sound : goal.returns-then-are_inner_sound
returns-then-are_inner_sound c =
    let s = c.args.self.now in
    let a = c.args.row * c.columns.result in
    let last = a + (c.columns-2.result - 1) in
    last_decides s.shape s.table.done c.args.row s.tile.now s.whole c.requires c.has_below-below.result c.has_below-below.ensures s.table.top s.same a (last - a)
    (ap (λ k. c.args.row * k) c.columns.ensures) (omega arith) c.is_last_sound.result last (omega arith) (c.are_inner_sound.ensures.0 c.if-are_inner_sound.true) c.is_last_sound.ensures

pub returns-else-are_inner_sound : goal.returns-else-are_inner_sound
returns-else-are_inner_sound c =
    let s = c.args.self.now in
    let a = c.args.row * c.columns.result in
    let last = a + (c.columns-2.result - 1) in (
      λ e. absurd (both_ways c.are_inner_sound.result c.if-are_inner_sound.false e),
      λ k.
          c.are_inner_sound.ensures.1
          (inner_sound s.shape s.table.done c.args.row s.tile.now s.whole c.requires c.has_below-below.result c.has_below-below.ensures s.table.top s.same a (last - a)
          (ap (λ k. c.args.row * k) c.columns.ensures) (omega arith) k),
    )
