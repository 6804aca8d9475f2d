use Rattle.std.specs.Prelude.{◌≡◌, ℕ, ◌<◌, ◌↔◌, Bool, IsTrue, if◌then◌else◌, List, [], ◌∷◌, ◌++◌, length, ⊤, Option, IfNone, MatchOption, Result, IsOk, OnOk, IfErr}
use Rattle.queue.specs.Waiting.{waiting}
use Rattle.queue.specs.declared.Queue.{Queue}

-- what waits, the longest waiting first
abbrev pub waits : {X : Type 0} → Queue X → List X
waits q = waiting q.slots.now q.head q.len

-- how many entries can wait: one for each slot
abbrev pub capacity : {X : Type 0} → Queue X → ℕ
capacity q = length q.slots.now

-- what enqueue does with an entry: it is taken exactly where fewer wait than can, and then waits last;
-- where it is given back the queue is the same, and as many can wait after either
pub record Enqueued {X : Type 0} (old new : Queue X) (entry : X) (answer : Result ⊤ X) : Type 0 where
  pub taken : IsOk answer ↔ (length (waits old) < capacity old)
  pub last : OnOk answer (waits new ≡ waits old ++ entry ∷ [])
  pub unchanged : IfErr answer (λ back. (back ≡ entry) × (new ≡ old))
  pub room : capacity new ≡ capacity old

-- what enqueue_if does with an entry: it waits last exactly where it is wanted and fewer wait than can; else the same entries
-- wait as before, and as many can wait after either
pub record EnqueuedIf {X : Type 0} (old new : Queue X) (entry : X) (wanted answer : Bool) : Type 0 where
  pub taken : IsTrue answer ↔ (IsTrue wanted × (length (waits old) < capacity old))
  pub last : waits new ≡ (if answer then waits old ++ entry ∷ [] else waits old)
  pub room : capacity new ≡ capacity old

-- what dequeue serves: the first that waits, which then waits no more, or nothing exactly where nothing waits;
-- where nothing is served the queue is the same, and as many can wait after either
pub record Dequeued {X : Type 0} (old new : Queue X) (served : Option X) : Type 0 where
  pub first : MatchOption served (waits old ≡ []) (λ entry. waits old ≡ entry ∷ waits new)
  pub unchanged : IfNone served (new ≡ old)
  pub room : capacity new ≡ capacity old
