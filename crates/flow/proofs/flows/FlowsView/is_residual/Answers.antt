use Rattle.std.proofs.Common.{◌≡◌, ◌+◌, ◌-◌, ◌≤◌, ℕ, ℤ, pos, neg_ℤ, ◌+ℤ◌, ◌-ℤ◌, int_lt, Bool, true, false, cond, Some, None, Option, length, refl, sym, ap, ap₂, subst, ◌∙◌, arith}
use mathlib.Core.Bool.{◌&&◌}
use Rattle.std.specs.Option.{is_some, unwrap_or}
use Rattle.std.proofs.lemmas.Bool.{leb-true}
use Rattle.std.proofs.lemmas.Int.{ints}
use Rattle.tile.specs.declared.side.Side.TheVariants.{Rightward, Downward}
use Rattle.tile.specs.Records.{stored_tie, stored_flow}
use Rattle.tile.specs.Tiles.{Tile, cell}
use Rattle.flow.specs.declared.direction.Direction.{Direction}
use Rattle.flow.specs.declared.direction.Direction.TheVariants.{Right, Down, Left, Up}
use Rattle.flow.specs.Sides.{storing_first, room_back, room, beside, has_beside, side_of, flow_out, live_pair}
use Rattle.flow.proofs.flows.FlowsView.is_residual.Goals as goal

-- what the tie from a to b takes along it, tested
abbrev slack_test : Tile → Direction → ℕ → ℕ → Bool
slack_test t h a b = cond (live_pair t a b) (int_lt (flow_out h (stored_flow (cell t a) (side_of h))) (pos (stored_tie (cell t a) (side_of h)))) false

-- a tie takes more where its weight is above the flow along it
above_flow : (w : ℕ) (f : ℤ) → int_lt f (pos w) ≡ int_lt (pos 0) (pos w -ℤ f)
above_flow w f = grind (arith, ints)

forth_test : (x live : Bool) (w : ℕ) (f : ℤ) → (x && cond live (int_lt f (pos w)) false) ≡ int_lt (pos 0) (cond x (cond live (pos w -ℤ f) (pos 0)) (pos 0))
forth_test true true w f = above_flow w f
forth_test true false w f = refl
forth_test false live w f = refl

back_test : (x live : Bool) (w : ℕ) (f : ℤ) → (x && cond live (int_lt (neg_ℤ f) (pos w)) false) ≡ int_lt (pos 0) (cond x (cond live (pos w +ℤ f) (pos 0)) (pos 0))
back_test true true w f = let e : pos w -ℤ neg_ℤ f ≡ pos w +ℤ f = omega (arith, ints) in subst (λ (z : ℤ). int_lt (neg_ℤ f) (pos w) ≡ int_lt (pos 0) z) e (above_flow w (neg_ℤ f))
back_test true false w f = refl
back_test false live w f = refl

-- the cell that stores the tie to the one beside, where that is a cell, and the other
ends_test : (t : Tile) (c u : ℕ) (h : Direction) (p : ℕ × ℕ) → has_beside c (length t) h u ≡ true → p ≡ storing_first h u (beside c h u) → slack_test t h p.0 p.1 ≡ int_lt (pos 0) (room t c h u)
ends_test t c u Right p e pe = rw (pe, e) (forth_test true (live_pair t u (u + 1)) (stored_tie (cell t u) Rightward) (stored_flow (cell t u) Rightward))
ends_test t c u Down p e pe = rw (pe, e) (forth_test true (live_pair t u (u + c)) (stored_tie (cell t u) Downward) (stored_flow (cell t u) Downward))
ends_test t c u Left p e pe =
    let l : 1 ≤ u = leb-true 1 u e in
    let q : u - 1 + 1 ≡ u = omega arith in
    rw (pe, e) (subst (λ (x : ℕ). slack_test t Left (u - 1) x ≡ int_lt (pos 0) (room_back t c Rightward (u - 1))) q (back_test true (live_pair t (u - 1) (u - 1 + 1)) (stored_tie (cell t (u - 1)) Rightward) (stored_flow (cell t (u - 1)) Rightward)))
ends_test t c u Up p e pe =
    let l : c ≤ u = leb-true c u e in
    let q : u - c + c ≡ u = omega arith in
    rw (pe, e) (subst (λ (x : ℕ). slack_test t Up (u - c) x ≡ int_lt (pos 0) (room_back t c Downward (u - c))) q (back_test true (live_pair t (u - c) (u - c + c)) (stored_tie (cell t (u - c)) Downward) (stored_flow (cell t (u - c)) Downward)))

no_room : (t : Tile) (c u : ℕ) (h : Direction) → has_beside c (length t) h u ≡ false → int_lt (pos 0) (room t c h u) ≡ false
no_room t c u Right e = rw e refl
no_room t c u Down e = rw e refl
no_room t c u Left e = rw e refl
no_room t c u Up e = rw e refl

found_test : (t : Tile) (c u : ℕ) (h : Direction) (p : ℕ × ℕ) (x : Bool) (o : Option ℕ) → has_beside c (length t) h u ≡ x → o ≡ cond x (Some (beside c h u)) None → p ≡ storing_first h u (unwrap_or o u) →
    (is_some o && slack_test t h p.0 p.1) ≡ int_lt (pos 0) (room t c h u)
found_test t c u h p true o e oe pe = rw oe (ends_test t c u h p e (pe ∙ ap (λ (z : Option ℕ). storing_first h u (unwrap_or z u)) oe))
found_test t c u h p false o e oe pe = rw oe (sym (no_room t c u h e))

pub returns : goal.returns
returns c =
    let t = c.args.self.now.tile.now in
    let k = c.args.self.now.columns in
    let pe = c.storing_first-a.ensures ∙ ap (storing_first c.args.toward c.args.u) c.unwrap_or.ensures in
    ap₂ (λ (x y : Bool). x && y) c.is_some.ensures c.has_slack.ensures ∙ found_test t k c.args.u c.args.toward _ _ _ refl c.beside-beside.ensures pe
