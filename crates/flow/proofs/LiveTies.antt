-- The live ties of a tile, one by one.
use Rattle.std.proofs.Common.{◌≡◌, ℕ, zero, suc, ◌+◌, ◌<◌, Bool, true, [], ◌∷◌, filter, refl, ap, ◌∙◌, subst, ⊎_elim, arith}
use Rattle.std.specs.List.{flat_map, ContainsAt as Has}
use Rattle.std.proofs.lemmas.List.Elements.{filter-append}
use Rattle.std.proofs.ByRecursion.{all-has, all_kept_by, kept_by_passes, has_append_left, has_append_right}
use Rattle.std.proofs.lemmas.Bool.{cases_eq, and_parts}
use Rattle.theory.specs.Graphs.{Proper}
use Rattle.theory.specs.Brackets.{live}
use Rattle.tile.specs.declared.shape.Shape.{Shape}
use Rattle.tile.specs.declared.side.Side.{Side}
use Rattle.tile.specs.declared.side.Side.TheVariants.{Rightward, Downward}
use Rattle.tile.specs.Shapes.{cells}
use Rattle.tile.specs.Ties.{offset, Tie, has_neighbour, neighbour, tie_on, ties_of, ties_below, ties}
use Rattle.tile.specs.Tiles.{Tile, cell}
use Rattle.tile.proofs.Joins.{neighbour_inside, Stored, ties_stored}
use Rattle.flow.specs.Sides.{live_pair}
use Rattle.flow.specs.Networks.{brackets, weighted, network, is_live}

-- the tie that the record of the cell u stores on a side
abbrev pub tie_at : ℕ → Side → Tie
tie_at u d = record { cell = u; side = d }

pub neighbour_is : (s : Shape) (u : ℕ) (d : Side) → neighbour s u d ≡ u + offset s.columns d
neighbour_is s u Rightward = refl
neighbour_is s u Downward = refl

-- is the tie live?
abbrev pub lives : Shape → Tile → Tie → Bool
lives s t = live (weighted s t) (brackets t)

-- a tie of a cell is live by the network of w exactly when it is live by its pair in t, where w begins with the cells of t
pub live_by_pair : (s : Shape) (w t : Tile) → ((u : ℕ) → u < cells s → cell w u ≡ cell t u) → (a : ℕ) (d : Side) → a < cells s → has_neighbour s a d ≡ true →
    lives s w (tie_at a d) ≡ live_pair t a (a + offset s.columns d)
live_by_pair s w t same a d l e =
    let x = same a l in
    let y = same (neighbour s a d) (neighbour_inside s a d l e) in
    let q : lives s w (tie_at a d) ≡ live_pair t a (neighbour s a d) = cc in
    q ∙ ap (λ (b : ℕ). live_pair t a b) (neighbour_is s a d)

-- what is known of a tie of the network
pub record LiveTie (s : Shape) (t : Tile) (x : Tie) : Type 0 where
  pub within : x.cell < cells s
  pub tied : has_neighbour s x.cell x.side ≡ true
  pub alive : lives s t x ≡ true

pub live_tie : (s : Shape) (t : Tile) (x : Tie) → Has (network s t).ties x → LiveTie s t x
live_tie s t x h =
    let p = all-has (Stored s) (filter (lives s t) (ties s)) x (all_kept_by (lives s t) (Stored s) (ties s) (ties_stored s)) h in
    let q = all-has (λ y. lives s t y ≡ true) (filter (lives s t) (ties s)) x (kept_by_passes (lives s t) (ties s)) h in
    record { within = p.0; tied = p.1; alive = q }

pub network_proper : (s : Shape) (t : Tile) → Proper (network s t)
network_proper s t x h = let p = live_tie s t x h in (p.within, neighbour_inside s x.cell x.side p.within p.tied)

-- ---- a live tie is in the network

has_on : (s : Shape) (t : Tile) (u : ℕ) (d : Side) → has_neighbour s u d ≡ true → lives s t (tie_at u d) ≡ true → Has (filter (lives s t) (tie_on s u d)) (tie_at u d)
has_on s t u d e a = rw (e, a) (0, omega arith, λ x. refl)

has_of : (s : Shape) (t : Tile) (u : ℕ) (d : Side) → has_neighbour s u d ≡ true → lives s t (tie_at u d) ≡ true → Has (filter (lives s t) (ties_of s u)) (tie_at u d)
has_of s t u Rightward e a =
    rw (filter-append (lives s t) (tie_on s u Rightward) (flat_map (tie_on s u) (Downward ∷ [])))
    (has_append_left (filter (lives s t) (tie_on s u Rightward)) _ (tie_at u Rightward) (has_on s t u Rightward e a))
has_of s t u Downward e a =
    rw (filter-append (lives s t) (tie_on s u Rightward) (flat_map (tie_on s u) (Downward ∷ [])), filter-append (lives s t) (tie_on s u Downward) [])
    (has_append_right (filter (lives s t) (tie_on s u Rightward)) _ (tie_at u Downward) (has_append_left (filter (lives s t) (tie_on s u Downward)) [] (tie_at u Downward) (has_on s t u Downward e a)))

has_below : (s : Shape) (t : Tile) (n u : ℕ) (d : Side) → u < n → has_neighbour s u d ≡ true → lives s t (tie_at u d) ≡ true → Has (filter (lives s t) (ties_below s n)) (tie_at u d)
has_below s t zero u d l e a = absurd (omega arith)
has_below s t (suc n) u d l e a =
    rw (filter-append (lives s t) (ties_below s n) (ties_of s n))
    (⊎_elim
    (λ (q : u ≡ n). has_append_right (filter (lives s t) (ties_below s n)) _ (tie_at u d) (subst (λ (k : ℕ). Has (filter (lives s t) (ties_of s k)) (tie_at u d)) q (has_of s t u d e a)))
    (λ (q : u ≡ n → ⊥). has_append_left (filter (lives s t) (ties_below s n)) _ (tie_at u d) (has_below s t n u d (omega arith) e a))
    (cases_eq u n))

pub has_live : (s : Shape) (t : Tile) (u : ℕ) (d : Side) → u < cells s → is_live s t u d ≡ true → Has (network s t).ties (tie_at u d)
has_live s t u d l e =
    let p = and_parts (has_neighbour s u d) (lives s t (tie_at u d)) e in
    has_below s t (cells s) u d l p.0 p.1
