use Rattle.std.proofs.Common.{◌≡◌, rules, subst, sym}
use Rattle.flow.specs.Sides.{Admissible, pushed}
use Rattle.flow.proofs.Pushes.{sound_pushed}
use Rattle.flow.proofs.flows.Flows.push.Goals as goal

pub invariant_of-self : goal.invariant_of-self
invariant_of-self c =
    let e : c.raise.new.tile ≡ pushed c.args.self.now.tile.now c.args.self.now.columns c.args.toward c.args.u c.args.f = search rules in
    record { sound = subst (Admissible c.args.self.now.columns) (sym e) (sound_pushed _ _ _ _ _ c.args.self.now.sound c.requires.place c.requires.some c.requires.fits) }
