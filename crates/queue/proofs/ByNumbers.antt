-- The examples in numbers, computed.
use Rattle.std.proofs.Common.{ℕ, ◌<◌, [], ◌∷◌, ◌++◌, List, length, drop, get_or, refl, ap, sym, ◌∙◌, arith, true≢false}
use Rattle.queue.specs.Queue.{waits, capacity}
use Rattle.queue.specs.declared.Queue.{Queue}
use Rattle.queue.specs.Examples.{RingsAreRead, RoomForOne, CallsAreRead}

pub rings : RingsAreRead
rings = record { two_from_the_first_slot = refl; two_past_the_last_slot = refl; all_from_the_second_slot = refl; none = refl }

room : (q : Queue ℕ) → RoomForOne q → length (waits q) < capacity q
room q r = omega (arith, r.slots, ap length r.waiting)

pub calls : CallsAreRead
calls = record {
  forty_waits_last = λ old new r e. e.last ∙ ap (λ (ws : List ℕ). ws ++ 40 ∷ []) r.waiting;
  forty_is_not_given_back = λ old new r e. true≢false (sym (e.taken.1 (room old r)));
  a_full_queue_takes_none = λ old new w c e. omega (arith, c, ap length w, e.taken.0 refl);
  a_full_queue_stays = λ old new e. e.unchanged.1;
  unwanted_does_not_wait = λ old new r e. e.last ∙ r.waiting;
  wanted_waits = λ old new r e. true≢false (sym (e.taken.1 (refl, room old r)));
  thirty_is_served = λ old new r e. ap (drop 1) (sym e.first ∙ r.waiting);
  ten_is_not = λ old new r e. omega (arith, ap (λ ws. get_or ws 0 0) (sym e.first ∙ r.waiting));
  nor_is_nothing = λ old new r e. omega (arith, ap length (sym e.first ∙ r.waiting));
}
