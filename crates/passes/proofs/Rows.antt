-- Tiles row by row.
use Rattle.std.proofs.Common.{◌≡◌, ℕ, ◌+◌, ◌*◌, ◌/◌, ◌%◌, ◌<◌, ◌≤◌, Bool, true, false, ltb, length, take, drop, get_or, Decides, MatchBool, sym, refl, ap, ◌∙◌, subst, ⊎_elim, zero-add, arith}
use Rattle.std.specs.List.{range_with_len, AllWithin, HoldsAt}
use Rattle.std.proofs.lemmas.List.{get_or-take, get_or-drop, length-take-le, length-drop}
use Rattle.std.proofs.lemmas.List.FromFn.{length-range_with_len, get_or-range_with_len}
use Rattle.std.proofs.lemmas.Bool.{lt-ltb, le-ltb, cases_lt}
use Rattle.std.proofs.lemmas.Nat.{mul-add-lt, mod-mul-add, div_below, mod_below, div-add-mod'}
use Rattle.tile.specs.declared.cell.Cell.{Cell}
use Rattle.tile.specs.declared.shape.Shape.{Shape}
use Rattle.tile.specs.declared.side.Side.{Side}
use Rattle.tile.specs.declared.side.Side.TheVariants.{Rightward, Downward}
use Rattle.tile.specs.Records.{stored_tie, stored_bracket}
use Rattle.tile.specs.Shapes.{cells}
use Rattle.tile.specs.Ties.{has_neighbour}
use Rattle.tile.specs.Tiles.{Tile, cell, blank}
use Rattle.passes.specs.Soundness.{SoundReading, SoundWeight, SoundBracket, SoundRecord, SoundCell, SoundRow, Sound, by_side}

-- ---- on which sides the cell of a row and a column has neighbours

right_in_row : (s : Shape) (r c : ℕ) → c < s.columns → has_neighbour s (r * s.columns + c) Rightward ≡ ltb (c + 1) s.columns
right_in_row s r c l = ap (λ k. ltb (k + 1) s.columns) (mod-mul-add r s.columns c l)

below_in_row : (s : Shape) (r c : ℕ) → r < s.rows → c < s.columns → has_neighbour s (r * s.columns + c) Downward ≡ ltb (r + 1) s.rows
below_in_row s r c i j =
    ⊎_elim
    (λ (e : r + 1 < s.rows). lt-ltb (r * s.columns + c + s.columns) (cells s) (omega (arith, mul-add-lt (r + 1) s.columns c s.rows e j)) ∙ sym (lt-ltb (r + 1) s.rows e))
    (λ (e : s.rows ≤ r + 1).
    let one : s.rows ≡ r + 1 = omega arith in
    let all : cells s ≡ (r + 1) * s.columns = ap (λ n. n * s.columns) one in
    le-ltb (r * s.columns + c + s.columns) (cells s) (omega arith) ∙ sym (le-ltb (r + 1) s.rows e))
    (cases_lt (r + 1) s.rows)

-- both, by whether the cell ends its row, and whether that is the last one
sides_in_row : (s : Shape) (r c : ℕ) (right below : Bool) → r < s.rows → c < s.columns → right ≡ ltb (c + 1) s.columns → below ≡ ltb (r + 1) s.rows →
    (d : Side) → by_side right below d ≡ has_neighbour s (r * s.columns + c) d
sides_in_row s r c right below i j e f Rightward = e ∙ sym (right_in_row s r c j)
sides_in_row s r c right below i j e f Downward = f ∙ sym (below_in_row s r c i j)

-- a record by the sides on which its cell has neighbours
by_sides : (top top' done : ℕ) (p q : Side → Bool) (c : Cell) → top ≡ top' → ((d : Side) → p d ≡ q d) → SoundRecord top done p c → SoundRecord top' done q c
by_sides top top' done p q c same e k = record {
  reading = subst (λ (n : ℕ). SoundReading n c.reading c.class) same k.reading;
  ties = λ d. subst (λ (b : Bool). SoundWeight b (stored_tie c d)) (e d) (k.ties d);
  bracket = subst (λ (n : ℕ). SoundBracket n done (stored_bracket c)) same k.bracket;
}

-- ---- the row r, whose records before the last are n records of the tile from a on: these have a neighbour on the right

module _ (s : Shape) (done r : ℕ) (t : Tile) (whole : cells s ≤ length t) (i : r < s.rows) (below : Bool) (e : below ≡ ltb (r + 1) s.rows) (top : ℕ) (same : top ≡ s.top) (a n : ℕ) (at : a ≡ r * s.columns) (long : n + 1 ≡ s.columns) where
  abbrev part : Tile
  part = take n (drop a t)

  abbrev Inner : Cell → Type 0
  Inner c = SoundRecord top done (by_side true below) c

  -- the number of the cell in a column
  abbrev place : ℕ → ℕ
  place c = r * s.columns + c

  ends_inside : a + n < length t
  ends_inside = omega (arith, mul-add-lt r s.columns n s.rows i (omega arith))

  part_length : length part ≡ n
  part_length = length-take-le n (drop a t) (omega (arith, length-drop a t, ends_inside))

  entry : (c : ℕ) → c < n → get_or part c blank ≡ cell t (place c)
  entry c l = get_or-take n (drop a t) c blank l ∙ get_or-drop a t c blank ∙ ap (λ k. cell t (k + c)) at

  inner_sides : (c : ℕ) → c < n → (d : Side) → by_side true below d ≡ has_neighbour s (place c) d
  inner_sides c l = sides_in_row s r c true below i (omega arith) (sym (lt-ltb (c + 1) s.columns (omega arith))) e

  last_sides : (d : Side) → by_side false below d ≡ has_neighbour s (place n) d
  last_sides = sides_in_row s r n false below i (omega arith) (sym (le-ltb (n + 1) s.columns (omega arith))) e

  of_inner : (c : ℕ) → c < n → Inner (cell part c) → SoundCell s done (place c) (cell t (place c))
  of_inner c l k = by_sides top s.top done (by_side true below) (has_neighbour s (place c)) (cell t (place c)) same (inner_sides c l) (subst Inner (entry c l) k)

  -- where they are sound the row is if its last record is, which is found at z
  pub last_decides : (b : Bool) (z : ℕ) → z ≡ a + n → ((c : ℕ) → c < length part → Inner (cell part c)) → Decides b (SoundRecord top done (by_side false below) (cell t z)) → Decides b (SoundRow s done t r)
  last_decides b z there all last = (
    λ y c l.
        ⊎_elim
        (λ (j : c < n). of_inner c j (all c (omega (arith, part_length))))
        (λ (j : n ≤ c). subst (λ k. SoundCell s done (place k) (cell t (place k))) (omega arith) (end (last.0 y)))
        (cases_lt c n),
    λ k. last.1 (back (k n (omega arith))),
  )
    where
      here : cell t z ≡ cell t (place n)
      here = ap (λ k. cell t k) (there ∙ ap (λ k. k + n) at)

      end : SoundRecord top done (by_side false below) (cell t z) → SoundCell s done (place n) (cell t (place n))
      end k = by_sides top s.top done (by_side false below) (has_neighbour s (place n)) (cell t (place n)) same last_sides (subst (λ (x : Cell). SoundRecord top done (by_side false below) x) here k)

      back : SoundCell s done (place n) (cell t (place n)) → SoundRecord top done (by_side false below) (cell t z)
      back k = by_sides s.top top done (has_neighbour s (place n)) (by_side false below) (cell t z) (sym same) (λ d. sym (last_sides d)) (subst (λ (x : Cell). SoundRecord s.top done (has_neighbour s (place n)) x) (sym here) k)

  -- they are sound in a sound row
  pub inner_sound : SoundRow s done t r → (c : ℕ) → c < length part → Inner (cell part c)
  inner_sound k c l =
      let j : c < n = omega (arith, part_length) in
      by_sides s.top top done (has_neighbour s (place c)) (by_side true below) (cell part c) (sym same) (λ d. sym (inner_sides c j d)) (subst (λ (x : Cell). SoundRecord s.top done (has_neighbour s (place c)) x) (sym (entry c j)) (k c (omega arith)))

-- ---- all rows

-- what a walk over the rows comes to: every row is sound, or one is not
pub decides_sound : (s : Shape) (done n : ℕ) (t : Tile) (b : Bool) → n ≡ s.rows → 1 ≤ s.columns →
    MatchBool b (AllWithin (λ r. SoundRow s done t r) (range_with_len 0 n) 0 (length (range_with_len 0 n))) ((k : ℕ) × (k < length (range_with_len 0 n)) × HoldsAt (λ r. ¬ SoundRow s done t r) (range_with_len 0 n) k) →
    Decides b (Sound s done t)
decides_sound s done n t b rows some = decide b
  where
    long : length (range_with_len 0 n) ≡ n
    long = length-range_with_len 0 n

    number : (r : ℕ) → r < n → get_or (range_with_len 0 n) r 0 ≡ r
    number r l = get_or-range_with_len 0 n r 0 l ∙ zero-add r

    decide : (b : Bool) → MatchBool b (AllWithin (λ r. SoundRow s done t r) (range_with_len 0 n) 0 (length (range_with_len 0 n))) ((k : ℕ) × (k < length (range_with_len 0 n)) × HoldsAt (λ r. ¬ SoundRow s done t r) (range_with_len 0 n) k) → Decides b (Sound s done t)
    decide true all = (
      λ y u l.
          let i : u / s.columns < s.rows = div_below u s.columns s.rows some l in
          let row : SoundRow s done t (u / s.columns) = subst (λ r. SoundRow s done t r) (number (u / s.columns) (omega arith)) (all (u / s.columns) 0 (omega arith) (omega (arith, long))) in
          subst (λ k. SoundCell s done k (cell t k)) (div-add-mod' u s.columns) (row (u % s.columns) (mod_below u s.columns some)),
      λ k. refl,
    )
    decide false (r, l, fails) = (
      λ y. cc,
      λ k.
          let i : r < s.rows = omega (arith, long) in
          let fails_at : ¬ SoundRow s done t r = subst (λ z. ¬ SoundRow s done t z) (number r (omega (arith, long))) (fails 0) in
          absurd (fails_at (λ c j. k (r * s.columns + c) (omega (arith, mul-add-lt r s.columns c s.rows i j)))),
    )
