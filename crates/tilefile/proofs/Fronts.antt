-- What a file says from a place on: numbers, bytes and entries, one behind the other.
use Rattle.std.proofs.Common.{◌≡◌, ℕ, zero, suc, ◌+◌, ◌-◌, ◌*◌, ◌/◌, ◌%◌, ◌^◌, ◌<◌, ◌≤◌, List, [], ◌∷◌, ◌++◌, length, drop, sym, ap, ap₂, ◌∙◌, subst, append_assoc, arith}
use Rattle.std.specs.List.{flat_map, range_with_len}
use Rattle.std.proofs.Math.Seq.{drop-append_seam}
use Rattle.std.proofs.lemmas.List.{drop-drop, drop_more, length-append, length-drop}
use Rattle.tilefile.specs.Bytes.{byte_at, number_at}
use Rattle.tilefile.specs.Layout.{two, entries}
use Rattle.tilefile.proofs.Wholes.{byte_in, number_in}

-- each number of the file is a byte
abbrev pub AreBytes : List ℕ → Type 0
AreBytes f = (i : ℕ) → byte_at f i < 256

-- the file from p on
abbrev pub From : List ℕ → ℕ → List ℕ → Type 0
From f p b = drop p f ≡ b

-- ---- from what stands at a place to the file from there on

-- a byte, and what follows it
pub byte_on : (f : List ℕ) (p m : ℕ) (b : List ℕ) → p + 1 ≤ length f → byte_at f p ≡ m → From f (p + 1) b → From f p (m ∷ b)
byte_on f p m b le e rest = drop_more f p 0 (omega arith) ∙ ap₂ (λ (x : ℕ) (l : List ℕ). x ∷ l) e rest

-- a number, and what follows it
pub number_on : (f : List ℕ) (p m : ℕ) (b : List ℕ) → AreBytes f → p + 2 ≤ length f → number_at f p ≡ m → From f (p + 2) b → From f p (two m ++ b)
number_on f p m b bytes le e rest =
    let high : byte_at f p ≡ m / 256 % 256 = omega (arith, bytes p, bytes (p + 1)) in
    let low : byte_at f (p + 1) ≡ m % 256 = omega (arith, bytes p, bytes (p + 1)) in
    let one_more : p + 1 + 1 ≡ p + 2 = omega arith in
    byte_on f p (m / 256 % 256) (m % 256 ∷ b) (omega arith) high (byte_on f (p + 1) (m % 256) b (omega arith) low (ap (λ k. drop k f) one_more ∙ rest))

-- some entries, from the entry a on; the entry v stands at its place
some_on : (f : List ℕ) (one : ℕ → List ℕ) (place : ℕ → ℕ) (a n : ℕ) (b : List ℕ) →
    ((v : ℕ) → v < a + n → (c : List ℕ) → From f (place (v + 1)) c → From f (place v) (one v ++ c)) → From f (place (a + n)) b → From f (place a) (flat_map one (range_with_len a n) ++ b)
some_on f one place a zero b each rest = let none : a ≡ a + 0 = omega arith in ap (λ k. drop (place k) f) none ∙ rest
some_on f one place a (suc n) b each rest =
    let further : a + 1 + n ≡ a + suc n = omega arith in
    let others = some_on f one place (a + 1) n b (λ v l. each v (omega arith)) (ap (λ k. drop (place k) f) further ∙ rest) in
    each a (omega arith) (flat_map one (range_with_len (a + 1) n) ++ b) others ∙ sym (append_assoc (one a) (flat_map one (range_with_len (a + 1) n)) b)

-- all entries
pub entries_on : (f : List ℕ) (one : ℕ → List ℕ) (place : ℕ → ℕ) (n : ℕ) (b : List ℕ) →
    ((v : ℕ) → v < n → (c : List ℕ) → From f (place (v + 1)) c → From f (place v) (one v ++ c)) → From f (place n) b → From f (place 0) (entries one n ++ b)
entries_on f one place n b each rest = let all : 0 + n ≡ n = omega arith in some_on f one place 0 n b (λ v l. each v (omega arith)) (ap (λ k. drop (place k) f) all ∙ rest)

-- ---- and back

-- what follows a part
pub behind : (f : List ℕ) (p : ℕ) (a b : List ℕ) → From f p (a ++ b) → From f (p + length a) b
behind f p a b e = sym (drop-drop (length a) p f) ∙ ap (drop (length a)) e ∙ drop-append_seam a b

-- a part that is there is within the file
pub within : (f : List ℕ) (p : ℕ) (a b : List ℕ) → 1 ≤ length a → From f p (a ++ b) → p + length a ≤ length f
within f p a b some e = omega (arith, length-drop p f, ap length e, length-append a b)

-- and at its end there are no more
pub ended : (f : List ℕ) (p : ℕ) → From f p [] → length f ≤ p
ended f p e = omega (arith, length-drop p f, ap length e)

-- the byte that stands there
pub byte_there : (f : List ℕ) (p m : ℕ) (b : List ℕ) → From f p (m ∷ b) → byte_at f p ≡ m
byte_there f p m b e =
    let here : p + 0 ≡ p = omega arith in
    sym (byte_in f p 0 ∙ ap (byte_at f) here) ∙ ap (λ l. byte_at l 0) e

-- the number that stands there
pub number_there : (f : List ℕ) (p m : ℕ) (b : List ℕ) → m < 2 ^ 16 → From f p (two m ++ b) → number_at f p ≡ m
number_there f p m b small e =
    let here : p + 0 ≡ p = omega arith in
    let digits : m / 256 % 256 * 256 + m % 256 ≡ m = omega arith in
    sym (number_in f p 0 ∙ ap (number_at f) here) ∙ ap (λ l. number_at l 0) e ∙ digits

-- behind the first u entries
entries_there : (f : List ℕ) (one : ℕ → List ℕ) (place : ℕ → ℕ) (a u n : ℕ) (b : List ℕ) → ((v : ℕ) → place v + length (one v) ≡ place (v + 1)) →
    From f (place a) (flat_map one (range_with_len a (u + n)) ++ b) → From f (place (a + u)) (flat_map one (range_with_len (a + u) n) ++ b)
entries_there f one place a zero n b size e =
    let none : a + 0 ≡ a = omega arith in
    let all : 0 + n ≡ n = omega arith in
    subst (λ k. From f (place k) (flat_map one (range_with_len k n) ++ b)) (sym none) (subst (λ m. From f (place a) (flat_map one (range_with_len a m) ++ b)) all e)
entries_there f one place a (suc u) n b size e =
    let one_less : suc u + n ≡ suc (u + n) = omega arith in
    let further : a + 1 + u ≡ a + suc u = omega arith in
    let first : From f (place a) (flat_map one (range_with_len a (suc (u + n))) ++ b) = subst (λ m. From f (place a) (flat_map one (range_with_len a m) ++ b)) one_less e in
    let others = behind f (place a) (one a) (flat_map one (range_with_len (a + 1) (u + n)) ++ b) (first ∙ append_assoc (one a) (flat_map one (range_with_len (a + 1) (u + n))) b) in
    subst (λ k. From f (place k) (flat_map one (range_with_len k n) ++ b)) further (entries_there f one place (a + 1) u n b size (ap (λ q. drop q f) (sym (size a)) ∙ others))

-- the entry u of n, and what follows it
pub entry_there : (f : List ℕ) (one : ℕ → List ℕ) (place : ℕ → ℕ) (u n : ℕ) (b : List ℕ) → ((v : ℕ) → place v + length (one v) ≡ place (v + 1)) → u < n →
    From f (place 0) (entries one n ++ b) → (c : List ℕ) × From f (place u) (one u ++ c)
entry_there f one place u n b size lt e =
    let m : ℕ = n - u - 1 in
    let split : n ≡ u + suc m = omega arith in
    let here : 0 + u ≡ u = omega arith in
    let c : List ℕ = flat_map one (range_with_len (u + 1) m) in
    let from : From f (place u) ((one u ++ c) ++ b) =
    subst (λ k. From f (place k) (flat_map one (range_with_len k (suc m)) ++ b)) here
    (entries_there f one place 0 u (suc m) b size (subst (λ k. From f (place 0) (entries one k ++ b)) split e)) in
    (c ++ b, from ∙ append_assoc (one u) c b)

-- what follows all of them
pub entries_behind : (f : List ℕ) (one : ℕ → List ℕ) (place : ℕ → ℕ) (n : ℕ) (b : List ℕ) → ((v : ℕ) → place v + length (one v) ≡ place (v + 1)) →
    From f (place 0) (entries one n ++ b) → From f (place n) b
entries_behind f one place n b size e =
    let split : n ≡ n + 0 = omega arith in
    let here : 0 + n ≡ n = omega arith in
    subst (λ k. From f (place k) b) here (entries_there f one place 0 n 0 b size (subst (λ k. From f (place 0) (entries one k ++ b)) split e))
