use Rattle.std.proofs.Common.{arith}
use Rattle.std.proofs.lemmas.Int.{ints}
use Rattle.tile.specs.declared.side.Side.TheVariants.{Rightward, Downward}
use Rattle.flow.proofs.flows.FlowsView.supply.Goals as goal

pub overflow_add-result : goal.overflow_add-result
overflow_add-result c =
    let b = c.args.self.now.sound.bounded Rightward c.args.u in
    let w = c.args.self.now.sound.weights Rightward c.args.u in
    let q = c.args.self.now.sound.charges c.args.u in
    omega (arith, ints)

pub overflow_add-result-2 : goal.overflow_add-result-2
overflow_add-result-2 c =
    let b = c.args.self.now.sound.bounded Rightward c.args.u in
    let w = c.args.self.now.sound.weights Rightward c.args.u in
    let b' = c.args.self.now.sound.bounded Downward c.args.u in
    let w' = c.args.self.now.sound.weights Downward c.args.u in
    let q = c.args.self.now.sound.charges c.args.u in
    omega (arith, ints)

pub returns : goal.returns
returns c =
    let b = c.args.self.now.sound.bounded Rightward c.args.u in
    let w = c.args.self.now.sound.weights Rightward c.args.u in
    let b' = c.args.self.now.sound.bounded Downward c.args.u in
    let w' = c.args.self.now.sound.weights Downward c.args.u in
    let q = c.args.self.now.sound.charges c.args.u in
    record { value = omega (arith, ints); few = omega (arith, ints) }
