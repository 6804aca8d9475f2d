use Rattle.std.proofs.Common.{◌-◌, arith}
use Rattle.queue.proofs.Rings.{waiting_taken}
use Rattle.queue.proofs.Queue.dequeue.Goals as goal

pub returns : goal.returns
returns g c =
    grind (arith, waiting_taken c.args.self.now.slots.now c.args.self.now.head (c.args.self.now.len - 1) c.first-entry.result c.first-entry.ensures (omega arith) (omega arith))
