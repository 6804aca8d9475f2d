use Rattle.std.specs.Prelude.{⊤}
use Rattle.std.proofs.Common.{◌≡◌, ◌<◌, [], ◌∷◌, ◌++◌, length, Bool, true, false, Result, Ok, Err, refl, sym, true≢false}
use Rattle.queue.specs.Queue.{waits, capacity, Enqueued, EnqueuedIf}
use Rattle.queue.specs.declared.Queue.{Queue}

pub last_with_room : {X : Type 0} (old new : Queue X) (x : X) (answer : Result ⊤ X) → Enqueued old new x answer
    → length (waits old) < capacity old → waits new ≡ waits old ++ x ∷ []
last_with_room old new x (Ok _) e room = e.last
last_with_room old new x (Err back) e room = absurd (true≢false (sym (e.taken.1 room)))

pub wanted_with_room : {X : Type 0} (old new : Queue X) (x : X) (answer : Bool) → EnqueuedIf old new x true answer
    → length (waits old) < capacity old → waits new ≡ waits old ++ x ∷ []
wanted_with_room old new x true e room = e.last
wanted_with_room old new x false e room = absurd (true≢false (sym (e.taken.1 (refl, room))))

pub unwanted_same : {X : Type 0} (old new : Queue X) (x : X) (answer : Bool) → EnqueuedIf old new x false answer → waits new ≡ waits old
unwanted_same old new x true e = absurd (true≢false (sym (e.taken.0 refl).0))
unwanted_same old new x false e = e.last
