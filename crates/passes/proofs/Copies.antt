-- A loop that copies the low ends of the first records, one after the other.
use Rattle.std.proofs.Common.{◌≡◌, ℕ, ◌+◌, ◌-◌, ◌<◌, List, [], ◌∷◌, ◌++◌, map, length, take, drop, set, sym, ap, ◌∙◌, append_assoc, arith}
use Rattle.std.proofs.lemmas.List.{take_more, drop_more, set-append_right, map-append, length-map, length-take-le}
use Rattle.tile.specs.declared.cell.Cell.{Cell}
use Rattle.tile.specs.Tiles.{Tile, cell, blank}
use Rattle.passes.specs.Copying.{copied}

-- a turn of the loop, which has the heights copied so far in h
pub copied_more : (t : Tile) (hs : List ℕ) (i : ℕ) (h : List ℕ) (v : ℕ) → i < length t → i < length hs → h ≡ copied i t hs → v ≡ (cell t i).low → set h i v ≡ copied (i + 1) t hs
copied_more t hs i h v lt room inv e =
    let low = λ (c : Cell). c.low in
    let a : List ℕ = map low (take i t) in
    let long : length a ≡ i = length-map (take i t) low ∙ length-take-le i t (omega arith) in
    let none : i - i ≡ 0 = omega arith in
    ap (λ z. set z i v) inv
    ∙ set-append_right a (drop i hs) i i v long (omega arith)
    ∙ ap (λ k. a ++ set (drop i hs) k v) none
    ∙ ap (λ z. a ++ set z 0 v) (drop_more hs i 0 room)
    ∙ ap (λ z. a ++ (z ∷ drop (i + 1) hs)) e
    ∙ sym (append_assoc a ((cell t i).low ∷ []) (drop (i + 1) hs))
    ∙ ap (λ z. z ++ drop (i + 1) hs) (sym (ap (map low) (take_more t i blank lt) ∙ map-append low (take i t) (cell t i ∷ [])))
