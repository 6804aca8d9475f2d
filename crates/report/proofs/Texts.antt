-- A grid's lines, one row after the other.
use Rattle.std.proofs.Common.{◌≡◌, ℕ, ◌+◌, ◌*◌, List, [], ◌∷◌, ◌++◌, take, drop, map, sym, ap, ◌∙◌, append_assoc, arith}
use Rattle.std.specs.List.{flat_map, range_with_len}
use Rattle.std.proofs.lemmas.List.{append-nil, map-id}
use Rattle.std.proofs.lemmas.List.Concat.{flat_map-append}
use Rattle.std.proofs.lemmas.List.FromFn.{map-range_with_len_more}
use Rattle.tile.specs.declared.cell.Cell.{Cell}
use Rattle.tile.specs.Tiles.{Tile}
use Rattle.report.specs.Printing.{line, row_heights, grid_text}

-- one row more
grid_more : (columns : ℕ) (t : Tile) (i : ℕ) → grid_text (i + 1) columns t ≡ grid_text i columns t ++ line (row_heights columns t i)
grid_more columns t i =
    let one = λ (k : ℕ). line (row_heights columns t k) in
    let range : range_with_len 0 (i + 1) ≡ range_with_len 0 i ++ i ∷ [] = sym (map-id (range_with_len 0 (i + 1))) ∙ map-range_with_len_more (λ k. k) 0 i i (omega arith) ∙ ap (λ z. z ++ i ∷ []) (map-id (range_with_len 0 i)) in
    ap (flat_map one) range ∙ flat_map-append one (range_with_len 0 i) (i ∷ []) ∙ ap (λ z. grid_text i columns t ++ z) (append-nil (one i))

-- with the text so far
pub rows_far : (columns : ℕ) (t : Tile) (i part : ℕ) (old text text' : List ℕ) → part ≡ columns → text ≡ old ++ grid_text i columns t → text' ≡ text ++ line (map (λ (c : Cell). c.low) (take part (drop (i * columns) t))) →
    text' ≡ old ++ grid_text (i + 1) columns t
rows_far columns t i part old text text' same far more =
    let whole : text' ≡ text ++ line (row_heights columns t i) = more ∙ ap (λ n. text ++ line (map (λ (c : Cell). c.low) (take n (drop (i * columns) t)))) same in
    whole ∙ ap (λ z. z ++ line (row_heights columns t i)) far ∙ append_assoc old (grid_text i columns t) (line (row_heights columns t i)) ∙ ap (λ z. old ++ z) (sym (grid_more columns t i))
