-- What residual arcs reach, by the sides of the cells and over the ties of the network.
use Rattle.std.proofs.Common.{◌≡◌, ℕ, ◌+◌, ◌-◌, ◌<◌, ◌≤◌, true, false, ltb, leb, ◌⊎◌, length, ℤ, pos, ◌+ℤ◌, ◌-ℤ◌, neg_ℤ, nat_abs, ◌<ℤ◌, sym, refl, ◌∙◌, subst, inl, inr, ⊎_elim, arith}
use Rattle.std.proofs.lemmas.Int.{ints}
use Rattle.std.proofs.lemmas.Bool.{cases_Bool, lt-ltb, le-leb, leb-true, and_from}
use Rattle.theory.specs.Flows.{remainder, Residual, forth, back, Reached, deficit, onward}
use Rattle.tile.specs.declared.cell.Cell.{Cell}
use Rattle.tile.specs.declared.shape.Shape.{Shape}
use Rattle.tile.specs.declared.side.Side.{Side}
use Rattle.tile.specs.declared.side.Side.TheVariants.{Rightward, Downward}
use Rattle.tile.specs.Records.{stored_tie, stored_flow}
use Rattle.tile.specs.Shapes.{cells}
use Rattle.tile.specs.Ties.{offset, has_neighbour, neighbour}
use Rattle.tile.specs.Tiles.{Tile, cell}
use Rattle.tile.proofs.Joins.{neighbour_inside}
use Rattle.flow.specs.declared.direction.Direction.{Direction}
use Rattle.flow.specs.declared.direction.Direction.TheVariants.{Right, Down, Left, Up}
use Rattle.flow.specs.Sides.{beside, live_pair, room, remains, Reach, starts, goes}
use Rattle.flow.specs.Networks.{charges, flow_on, network}
use Rattle.flow.specs.Points.{FlowsFit}
use Rattle.flow.proofs.Pushes.{open_forth, open_back, room_there, there_in}
use Rattle.flow.proofs.LiveTies.{tie_at, lives, live_by_pair, live_tie, has_live}
use Rattle.flow.proofs.Incident.{remainder_is}

-- what is reached is a cell
pub reach_in : (c : ℕ) (t : Tile) {u : ℕ} → Reach c t u → u < length t
reach_in c t (starts l s) = l
reach_in c t (goes {u} h r o e) = subst (λ (k : ℕ). k < length t) e (there_in (length t) c h u (reach_in c t r) (room_there t c h u o))

-- a residual arc out of u, and where it leads
abbrev Arc : ℕ → Tile → ℕ → ℕ → Type 0
Arc c t u v = (h : Direction) × (pos 0 <ℤ room t c h u) × (beside c h u ≡ v)

-- t holds the cells of the shape, and the tile w begins with them
module _ (s : Shape) (w t : Tile) (long : length t ≡ cells s) (same : (u : ℕ) → u < cells s → cell w u ≡ cell t u)
    (fit : FlowsFit s w) (edges : (u : ℕ) (d : Side) → u < cells s → has_neighbour s u d ≡ false → stored_tie (cell w u) d ≡ 0) where
  pub remains_is : (u : ℕ) → u < cells s → remainder (network s w) (charges w) (flow_on w) u ≡ remains t s.columns u
  remains_is u l =
      let a = same u l in
      let b = same (u - 1) (omega arith) in
      let e = same (u - s.columns) (omega arith) in
      let q : remains w s.columns u ≡ remains t s.columns u = cc in
      remainder_is s w fit u l ∙ q

  -- ---- from the network to the sides

  arc_forth : (a : ℕ) (d : Side) → a < cells s → has_neighbour s a d ≡ true → live_pair t a (a + offset s.columns d) ≡ true →
      stored_flow (cell t a) d <ℤ pos (stored_tie (cell t a) d) → Arc s.columns t a (neighbour s a d)
  arc_forth a Rightward l e al f =
      let i = neighbour_inside s a Rightward l e in
      (Right, rw (lt-ltb (a + 1) (length t) (omega arith), al) (omega (arith, ints)), refl)
  arc_forth a Downward l e al f =
      let i = neighbour_inside s a Downward l e in
      (Down, rw (lt-ltb (a + s.columns) (length t) (omega arith), al) (omega (arith, ints)), refl)

  arc_back : (a : ℕ) (d : Side) → live_pair t a (a + offset s.columns d) ≡ true →
      neg_ℤ (stored_flow (cell t a) d) <ℤ pos (stored_tie (cell t a) d) → Arc s.columns t (neighbour s a d) a
  arc_back a Rightward al f =
      let z : a + 1 - 1 ≡ a = omega arith in
      (Left, rw (le-leb 1 (a + 1) (omega arith), z, al) (omega (arith, ints)), z)
  arc_back a Downward al f =
      let z : a + s.columns - s.columns ≡ a = omega arith in
      (Up, rw (le-leb s.columns (a + s.columns) (omega arith), z, al) (omega (arith, ints)), z)

  arc_of : (u v : ℕ) → Residual (network s w) (flow_on w) u v → Arc s.columns t u v
  arc_of u v (forth x i near far lt) =
      let p = live_tie s w x i in
      let al : live_pair t x.cell (x.cell + offset s.columns x.side) ≡ true = sym (live_by_pair s w t same x.cell x.side p.within p.tied) ∙ p.alive in
      let f : stored_flow (cell t x.cell) x.side <ℤ pos (stored_tie (cell t x.cell) x.side)
      = subst (λ (y : Cell). stored_flow y x.side <ℤ pos (stored_tie y x.side)) (same x.cell p.within) lt in
      let r = arc_forth x.cell x.side p.within p.tied al f in
      subst (λ (y : ℕ). Arc s.columns t y v) near (r.0, r.1, r.2 ∙ far)
  arc_of u v (back x i far near lt) =
      let p = live_tie s w x i in
      let al : live_pair t x.cell (x.cell + offset s.columns x.side) ≡ true = sym (live_by_pair s w t same x.cell x.side p.within p.tied) ∙ p.alive in
      let f : neg_ℤ (stored_flow (cell t x.cell) x.side) <ℤ pos (stored_tie (cell t x.cell) x.side)
      = subst (λ (y : Cell). neg_ℤ (stored_flow y x.side) <ℤ pos (stored_tie y x.side)) (same x.cell p.within) lt in
      let r = arc_back x.cell x.side al f in
      subst (λ (y : ℕ). Arc s.columns t y v) far (r.0, r.1, r.2 ∙ near)

  pub reached_reach : {u : ℕ} → Reached (network s w) (charges w) (flow_on w) u → Reach s.columns t u
  reached_reach (deficit {u} l h) = starts (subst (λ (k : ℕ). u < k) (sym long) l) (subst (λ (z : ℤ). z <ℤ pos 0) (remains_is u l) h)
  reached_reach (onward {u} {v} r a) = let p = arc_of u v a in goes p.0 (reached_reach r) p.1 p.2

  -- ---- from the sides to the network

  -- a tie with room is no tie off the edge
  tied_by : (a : ℕ) (d : Side) (z : ℤ) → a < cells s → pos 0 <ℤ z →
      (z ≡ pos (stored_tie (cell t a) d) -ℤ stored_flow (cell t a) d) ⊎ (z ≡ pos (stored_tie (cell t a) d) +ℤ stored_flow (cell t a) d) → has_neighbour s a d ≡ true
  tied_by a d z l o k =
      ⊎_elim
      (λ (e : has_neighbour s a d ≡ true). e)
      (λ (e : has_neighbour s a d ≡ false).
      let none : stored_tie (cell t a) d ≡ 0 = subst (λ (y : Cell). stored_tie y d ≡ 0) (same a l) (edges a d l e) in
      let small : nat_abs (stored_flow (cell t a) d) ≤ stored_tie (cell t a) d = subst (λ (y : Cell). nat_abs (stored_flow y d) ≤ stored_tie y d) (same a l) (fit.bounded a d l) in
      absurd (⊎_elim
      (λ (q : z ≡ pos (stored_tie (cell t a) d) -ℤ stored_flow (cell t a) d). omega (arith, ints))
      (λ (q : z ≡ pos (stored_tie (cell t a) d) +ℤ stored_flow (cell t a) d). omega (arith, ints))
      k))
      (cases_Bool (has_neighbour s a d))

  residual_forth : (a : ℕ) (d : Side) (z : ℤ) → a < cells s → pos 0 <ℤ z → live_pair t a (a + offset s.columns d) ≡ true →
      z ≡ pos (stored_tie (cell t a) d) -ℤ stored_flow (cell t a) d → Residual (network s w) (flow_on w) a (neighbour s a d)
  residual_forth a d z l o al k =
      let e = tied_by a d z l o (inl k) in
      let f : stored_flow (cell t a) d <ℤ pos (stored_tie (cell t a) d) = omega (arith, ints) in
      forth (tie_at a d) (has_live s w a d l (and_from (has_neighbour s a d) (lives s w (tie_at a d)) e (live_by_pair s w t same a d l e ∙ al))) refl refl
      (subst (λ (y : Cell). stored_flow y d <ℤ pos (stored_tie y d)) (sym (same a l)) f)

  residual_back : (a : ℕ) (d : Side) (z : ℤ) → a < cells s → pos 0 <ℤ z → live_pair t a (a + offset s.columns d) ≡ true →
      z ≡ pos (stored_tie (cell t a) d) +ℤ stored_flow (cell t a) d → Residual (network s w) (flow_on w) (neighbour s a d) a
  residual_back a d z l o al k =
      let e = tied_by a d z l o (inr k) in
      let f : neg_ℤ (stored_flow (cell t a) d) <ℤ pos (stored_tie (cell t a) d) = omega (arith, ints) in
      back (tie_at a d) (has_live s w a d l (and_from (has_neighbour s a d) (lives s w (tie_at a d)) e (live_by_pair s w t same a d l e ∙ al))) refl refl
      (subst (λ (y : Cell). neg_ℤ (stored_flow y d) <ℤ pos (stored_tie y d)) (sym (same a l)) f)

  residual_of : (h : Direction) (u : ℕ) → u < cells s → pos 0 <ℤ room t s.columns h u → Residual (network s w) (flow_on w) u (beside s.columns h u)
  residual_of Right u l o =
      let p = open_forth t s.columns (ltb (u + 1) (length t)) Rightward u o in
      residual_forth u Rightward _ l o p.1 p.2
  residual_of Down u l o =
      let p = open_forth t s.columns (ltb (u + s.columns) (length t)) Downward u o in
      residual_forth u Downward _ l o p.1 p.2
  residual_of Left u l o =
      let p = open_back t s.columns (leb 1 u) Rightward (u - 1) o in
      let z : u - 1 + 1 ≡ u = omega (arith, leb-true 1 u p.0) in
      subst (λ (y : ℕ). Residual (network s w) (flow_on w) y (u - 1)) z (residual_back (u - 1) Rightward _ (omega arith) o p.1 p.2)
  residual_of Up u l o =
      let p = open_back t s.columns (leb s.columns u) Downward (u - s.columns) o in
      let z : u - s.columns + s.columns ≡ u = omega (arith, leb-true s.columns u p.0) in
      subst (λ (y : ℕ). Residual (network s w) (flow_on w) y (u - s.columns)) z (residual_back (u - s.columns) Downward _ (omega arith) o p.1 p.2)

  pub reach_reached : {u : ℕ} → Reach s.columns t u → Reached (network s w) (charges w) (flow_on w) u
  reach_reached (starts {u} l h) = let k : u < cells s = subst (λ (n : ℕ). u < n) long l in deficit k (subst (λ (z : ℤ). z <ℤ pos 0) (sym (remains_is u k)) h)
  reach_reached (goes {u} {v} h r o e) =
      let k : u < cells s = subst (λ (n : ℕ). u < n) long (reach_in s.columns t r) in
      onward (reach_reached r) (subst (λ (y : ℕ). Residual (network s w) (flow_on w) u y) e (residual_of h u k o))
