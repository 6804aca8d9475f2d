-- A loop that writes the first records anew, one after the other.
use Rattle.std.proofs.Common.{◌≡◌, ℕ, ◌+◌, ◌-◌, ◌<◌, ◌≤◌, List, [], ◌∷◌, ◌++◌, map, length, drop, set, replicate, sym, ap, ◌∙◌, append_assoc, arith}
use Rattle.std.specs.List.{range_with_len}
use Rattle.std.proofs.lemmas.List.{get_or_append_left, get_or-append_right, get_or-drop, drop_more, set-append_right, set-append_left, length-append, length-drop}
use Rattle.std.proofs.lemmas.List.FromFn.{length-map-range_with_len, get_or-map-range_with_len, map-range_with_len_more, length-range_with_len}
use Rattle.std.proofs.lemmas.Simd.{splat_is_map}
use Rattle.tile.specs.declared.cell.Cell.{Cell}
use Rattle.tile.specs.Tiles.{Tile, cell, blank}
use Rattle.passes.specs.Writing.{rewritten}

pub rewritten_length : (f : ℕ → Cell) (t : Tile) (n : ℕ) → n ≤ length t → length (rewritten n f t) ≡ length t
rewritten_length f t n le = omega (arith, length-append (map f (range_with_len 0 n)) (drop n t), length-map-range_with_len f 0 n, length-drop n t)

-- a record below n is written, and one from n on is as it was
pub cell_rewritten : (n : ℕ) (f : ℕ → Cell) (t : Tile) (u : ℕ) → u < n → cell (rewritten n f t) u ≡ f u
cell_rewritten n f t u lt =
    let l : length (map f (range_with_len 0 n)) ≡ n = length-map-range_with_len f 0 n in
    get_or_append_left (map f (range_with_len 0 n)) (drop n t) blank u (omega arith) ∙ get_or-map-range_with_len f 0 n u u blank lt (omega arith)

pub cell_past : (n : ℕ) (f : ℕ → Cell) (t : Tile) (u : ℕ) → n ≤ u → cell (rewritten n f t) u ≡ cell t u
cell_past n f t u le =
    let e : n + (u - n) ≡ u = omega arith in
    get_or-append_right (map f (range_with_len 0 n)) (drop n t) n u blank (length-map-range_with_len f 0 n) le ∙ get_or-drop n t (u - n) blank ∙ ap (λ k. cell t k) e

-- one record more
pub rewritten_more : (f : ℕ → Cell) (t : Tile) (i : ℕ) (y : Cell) → i < length t → y ≡ f i → set (rewritten i f t) i y ≡ rewritten (i + 1) f t
rewritten_more f t i y lt e =
    let a : List Cell = map f (range_with_len 0 i) in
    let zero_off : i - i ≡ 0 = omega arith in
    set-append_right a (drop i t) i i y (length-map-range_with_len f 0 i) (omega arith)
    ∙ ap (λ k. a ++ set (drop i t) k y) zero_off
    ∙ ap (λ z. a ++ set z 0 y) (drop_more t i blank lt)
    ∙ ap (λ z. a ++ (z ∷ drop (i + 1) t)) e
    ∙ sym (append_assoc a (f i ∷ []) (drop (i + 1) t))
    ∙ ap (λ z. z ++ drop (i + 1) t) (sym (map-range_with_len_more f 0 i i (omega arith)))

-- a turn of the loop, which has the records written so far in l
pub rewrite_step : (f : ℕ → Cell) (t : Tile) (i : ℕ) (l : Tile) (y : Cell) → i < length t → l ≡ rewritten i f t → y ≡ f i → set l i y ≡ rewritten (i + 1) f t
rewrite_step f t i l y lt inv e = ap (λ z. set z i y) inv ∙ rewritten_more f t i y lt e

-- the same where the new record is made of the old one, which the loop has not changed yet
pub remake_step : (f : Cell → Cell) (t : Tile) (i : ℕ) (l : Tile) (y : Cell) → i < length t → l ≡ rewritten i (λ u. f (cell t u)) t → y ≡ f (cell l i) →
    set l i y ≡ rewritten (i + 1) (λ u. f (cell t u)) t
remake_step f t i l y lt inv e = rewrite_step (λ u. f (cell t u)) t i l y lt inv (e ∙ ap f (ap (λ z. cell z i) inv ∙ cell_past i (λ u. f (cell t u)) t i (omega arith)))

-- ---- the same over a part of the tile, its first n records, of which the loop has l so far; the rest stays

abbrev pub PartRewritten : (Cell → Cell) → ℕ → Tile → ℕ → Tile → Type 0
PartRewritten f n t i l = l ++ drop n t ≡ rewritten i (λ u. f (cell t u)) t

pub part_more : (f : Cell → Cell) (n : ℕ) (t : Tile) (i : ℕ) (l : Tile) (y : Cell) → PartRewritten f n t i l → i < length l → i < length t → y ≡ f (cell l i) → PartRewritten f n t (i + 1) (set l i y)
part_more f n t i l y inv inside lt e =
    sym (set-append_left l (drop n t) i y inside) ∙ remake_step f t i (l ++ drop n t) y lt inv (e ∙ ap f (sym (get_or_append_left l (drop n t) blank i inside)))

-- the same record in place of each of the first n
pub filled : (n : ℕ) (x : Cell) (t : Tile) → replicate n x ++ drop n t ≡ rewritten n (λ _. x) t
filled n x t = ap (λ z. z ++ drop n t) (splat_is_map (range_with_len 0 n) n x (length-range_with_len 0 n))
