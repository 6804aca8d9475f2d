use Rattle.std.proofs.Common.{◌≡◌, ℕ, ◌+◌, ◌-◌, ◌%◌, ◌<◌, ◌≤◌, List, [], ◌∷◌, ◌++◌, length, slice_get, get_or, take, drop, set, Some, refl, ap, ap₂, ◌∙◌, ⊎_elim, append_assoc, append-nil, add-one, mod-eq_of_lt, arith, length-append, length-drop, length-take}
use Rattle.std.proofs.Math.Nat.{mod-eq-sub-mod}
use lib.Seq.{take-set-lt}
use Rattle.std.proofs.lemmas.List.{take_all, take_more, take-append-le, take-set-le, take_more_set, drop_all, drop_more, drop-set-lt, drop-set-add, set-append_left, set-append_right}
use Rattle.std.proofs.lemmas.Bool.{cases_lt}
use Rattle.std.proofs.lemmas.Option.{get_or_from_slice_get}
use Rattle.queue.specs.Waiting.{waiting}

-- as many wait as len says, where there are slots enough
pub length_waiting : {X : Type 0} (xs : List X) (head len : ℕ) → len ≤ length xs → length (waiting xs head len) ≡ len
length_waiting xs head len h = simp (length-take, length-append, length-drop) (omega arith)

-- a place less than twice round the ring wraps once
wraps : (at count : ℕ) → count ≤ at → at < count + count → at % count ≡ at - count
wraps at count past once = mod-eq-sub-mod past ∙ mod-eq_of_lt (omega arith)

-- the slots in the order of the ring, once the slot at its place len is written: that slot lies ahead of the head
written_ahead : {X : Type 0} (xs : List X) (head len : ℕ) (y : X) → head + len < length xs
    → drop head (set xs (head + len) y) ++ take head (set xs (head + len) y) ≡ set (drop head xs ++ take head xs) len y
written_ahead xs head len y h =
    let w : len < length (drop head xs) = simp length-drop (omega arith) in
    let le : head ≤ head + len = omega arith in
    rw (drop-set-add, take-set-le, set-append_left)

-- .. or it lies before the head
written_before : {X : Type 0} (xs : List X) (head len at : ℕ) (y : X) → head ≤ length xs → at + length xs ≡ head + len → at < head
    → drop head (set xs at y) ++ take head (set xs at y) ≡ set (drop head xs ++ take head xs) len y
written_before xs head len at y hl e l =
    let w : length (drop head xs) ≤ len = simp length-drop (omega arith) in
    let q : len - length (drop head xs) ≡ at = simp length-drop (omega arith) in
    rw (drop-set-lt, take-set-lt, set-append_right (drop head xs) (take head xs) (length (drop head xs)) len y refl w, q)

-- .. wherever that slot lies
written : {X : Type 0} (xs : List X) (head len at : ℕ) (y : X) → head < length xs → len < length xs
    → at ≡ (head + len) % length xs → drop head (set xs at y) ++ take head (set xs at y) ≡ set (drop head xs ++ take head xs) len y
written xs head len at y h l place =
    ⊎_elim
    (λ s. let ahead : at ≡ head + len = place ∙ mod-eq_of_lt s in rw ahead (written_ahead xs head len y s))
    (λ s. let wrapped = place ∙ wraps (head + len) (length xs) s (omega arith) in
    written_before xs head len at y (omega arith) (omega (arith, wrapped)) (omega (arith, wrapped)))
    (cases_lt (head + len) (length xs))

-- an entry written len places past the head, around the end, waits last
pub waiting_more : {X : Type 0} (xs : List X) (head len at : ℕ) (y : X) → head < length xs → len < length xs
    → at ≡ (head + len) % length xs → waiting (set xs at y) head (len + 1) ≡ waiting xs head len ++ y ∷ []
waiting_more xs head len at y h l place =
    let w : len < length (drop head xs ++ take head xs) = simp (length-append, length-drop, length-take) (omega arith) in
    ap (take (len + 1)) (written xs head len at y h l place) ∙ take_more_set _ len y w

-- .. where it is counted; else what waits is the same
pub waiting_same : {X : Type 0} (xs : List X) (head len at : ℕ) (y : X) → head < length xs → len < length xs
    → at ≡ (head + len) % length xs → waiting (set xs at y) head len ≡ waiting xs head len
waiting_same xs head len at y h l place =
    let le : len ≤ len = omega arith in
    ap (take len) (written xs head len at y h l place) ∙ take-set-le len (drop head xs ++ take head xs) len y le

-- once the first entry is served, the others wait from the next slot on
served_ahead : {X : Type 0} (xs : List X) (head n : ℕ) (d : X) → head < length xs → n < length xs
    → waiting xs head (n + 1) ≡ get_or xs head d ∷ waiting xs (head + 1) n
served_ahead xs head n d h l =
    let w : n ≤ length (drop (head + 1) xs ++ take head xs) = simp (length-append, length-drop, length-take) (omega arith) in
    rw (drop_more xs head d h, take_more xs head d h, ← append_assoc, take-append-le n (drop (head + 1) xs ++ take head xs) _ w, add-one n)

-- past the last slot comes the first
waiting_at_end : {X : Type 0} (xs : List X) (head n : ℕ) → length xs ≤ head → waiting xs head n ≡ waiting xs 0 n
waiting_at_end xs head n h = rw (drop_all head xs h, take_all head xs h, append-nil)

-- what waits is the entry that is taken from the slot at the head, and then what waits from the next place on, around the end
pub waiting_taken : {X : Type 0} (xs : List X) (head n : ℕ) (x : X) → slice_get xs head ≡ Some x → head < length xs → n < length xs
    → waiting xs head (n + 1) ≡ x ∷ waiting xs ((head + 1) % length xs) n
waiting_taken xs head n x e h l =
    let rest : waiting xs (head + 1) n ≡ waiting xs ((head + 1) % length xs) n =
    ⊎_elim
    (λ s. let e : (head + 1) % length xs ≡ head + 1 = mod-eq_of_lt s in rw e)
    (λ s. let z : (head + 1) % length xs ≡ 0 = let e = wraps (head + 1) (length xs) s (omega arith) in omega (arith, e) in
    rw z (waiting_at_end xs (head + 1) n s))
    (cases_lt (head + 1) (length xs)) in
    served_ahead xs head n x h l ∙ ap₂ (λ y ys. y ∷ ys) (get_or_from_slice_get xs head x x e) rest
