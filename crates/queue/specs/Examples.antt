-- Examples in numbers, which pin the definitions: a ring of three slots.
use Rattle.std.specs.Prelude.{◌≡◌, ℕ, false, true, List, [], ◌∷◌, Some, None, Ok, Err}
use Rattle.queue.specs.Waiting.{waiting}
use Rattle.queue.specs.Queue.{waits, capacity, Enqueued, EnqueuedIf, Dequeued}
use Rattle.queue.specs.declared.Queue.{Queue}

abbrev pub ring : List ℕ
ring = 10 ∷ 20 ∷ 30 ∷ []

pub record RingsAreRead : Type 0 where
  pub two_from_the_first_slot : waiting ring 0 2 ≡ 10 ∷ 20 ∷ []
  pub two_past_the_last_slot : waiting ring 2 2 ≡ 30 ∷ 10 ∷ []
  pub all_from_the_second_slot : waiting ring 1 3 ≡ 20 ∷ 30 ∷ 10 ∷ []
  pub none : waiting ring 1 0 ≡ []

-- 30 and 10 wait, the 30 longer, and there is room for one more
pub record RoomForOne (q : Queue ℕ) : Type 0 where
  pub waiting : waits q ≡ 30 ∷ 10 ∷ []
  pub slots : capacity q ≡ 3

-- what enqueue and dequeue do to such a queue, and to one in which nothing or no more can wait
pub record CallsAreRead : Type 0 where
  pub forty_waits_last : (old new : Queue ℕ) → RoomForOne old → Enqueued old new 40 (Ok tt) → waits new ≡ 30 ∷ 10 ∷ 40 ∷ []
  pub forty_is_not_given_back : (old new : Queue ℕ) → RoomForOne old → Enqueued old new 40 (Err 40) → ⊥
  pub a_full_queue_takes_none : (old new : Queue ℕ) → waits old ≡ 30 ∷ [] → capacity old ≡ 1 → Enqueued old new 40 (Ok tt) → ⊥
  pub a_full_queue_stays : (old new : Queue ℕ) → Enqueued old new 40 (Err 40) → new ≡ old
  pub unwanted_does_not_wait : (old new : Queue ℕ) → RoomForOne old → EnqueuedIf old new 40 false false → waits new ≡ 30 ∷ 10 ∷ []
  pub wanted_waits : (old new : Queue ℕ) → RoomForOne old → EnqueuedIf old new 40 true false → ⊥
  pub thirty_is_served : (old new : Queue ℕ) → RoomForOne old → Dequeued old new (Some 30) → waits new ≡ 10 ∷ []
  pub ten_is_not : (old new : Queue ℕ) → RoomForOne old → Dequeued old new (Some 10) → ⊥
  pub nor_is_nothing : (old new : Queue ℕ) → RoomForOne old → Dequeued old new None → ⊥
