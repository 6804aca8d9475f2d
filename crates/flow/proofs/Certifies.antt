-- The four points make the marks the smallest cheapest set.
use Rattle.std.proofs.Common.{◌≡◌, ℕ, ◌<◌, ◌≤◌, ℤ, pos, neg_ℤ, nat_abs, ◌≤ℤ◌, ap, subst, ap₂, ⊎_elim, arith}
use mathlib.Core.Path.{fun_ext}
use Rattle.std.proofs.lemmas.Int.{ints}
use Rattle.std.proofs.lemmas.Bool.{cases_lt, eq-eqb, eqb-true}
use Rattle.theory.specs.Graphs.{Graph}
use Rattle.theory.specs.Sets.{Charges, SmallestCheapestSet}
use Rattle.theory.specs.Flows.{Certified}
use Rattle.theory.specs.Brackets.{Brackets, live_graph}
use Rattle.theory.proofs.Flows.{certified}
use Rattle.tile.specs.declared.shape.Shape.{Shape}
use Rattle.tile.specs.declared.side.Side.{Side}
use Rattle.tile.specs.declared.side.Side.TheVariants.{Rightward, Downward}
use Rattle.tile.specs.Shapes.{cells}
use Rattle.tile.specs.Ties.{Tie, graph}
use Rattle.tile.specs.Tiles.{Tile, cell, survey}
use Rattle.flow.specs.Sides.{uncut}
use Rattle.flow.specs.Networks.{brackets, charges, flow_on, network, marks}
use Rattle.flow.specs.Points.{FourPoints, CutMarksAreTheSmallestCheapestSet}
use Rattle.flow.proofs.LiveTies.{live_tie, network_proper}

within : (f : ℤ) (w : ℕ) → nat_abs f ≤ w → (f ≤ℤ pos w) × (neg_ℤ f ≤ℤ pos w)
within f w h = (omega (arith, ints), omega (arith, ints))

pub certificate : (s : Shape) (before after : Tile) → FourPoints s before after → Certified (network s after) (charges after) (flow_on after) (marks after)
certificate s before after p = record {
  fits = λ x h. within (flow_on after x) ((network s after).weight x) (p.flows.bounded x.cell x.side (live_tie s after x h).within);
  marked = λ u l r. eq-eqb (cell after u).mark 1 (p.marked u l r);
  reached = λ u l e. p.reached u l (eqb-true (cell after u).mark 1 e);
  no_surplus = λ u l e. p.no_surplus u l (eqb-true (cell after u).mark 1 e);
}

-- ---- a cut changes neither the network nor the charges

module _ (s : Shape) (before after : Tile) (p : FourPoints s before after) where
  pub same : (u : ℕ) → uncut (cell after u) ≡ uncut (cell before u)
  same u = ⊎_elim (λ (l : u < cells s). p.kept u l) (λ (l : cells s ≤ u). ap uncut (p.past u l)) (cases_lt u (cells s))

  pub same_tie : (u : ℕ) (d : Side) → (survey after).tie u d ≡ (survey before).tie u d
  same_tie u Rightward = ap (λ x. x.right) (same u)
  same_tie u Downward = ap (λ x. x.down) (same u)

  pub same_ties : (survey after).tie ≡ (survey before).tie
  same_ties = fun_ext (λ u. fun_ext (λ d. same_tie u d))

  pub same_brackets : brackets after ≡ brackets before
  same_brackets =
      ap₂ (λ (a b : ℕ → ℕ). record { low = a; high = b }) (fun_ext (λ u. ap (λ x. x.low) (same u))) (fun_ext (λ u. ap (λ x. x.high) (same u)))

  pub same_network : network s after ≡ network s before
  same_network = ap₂ (λ (w : ℕ → Side → ℕ) (b : Brackets). live_graph (graph s w) b) same_ties same_brackets

  pub same_charges : charges after ≡ charges before
  same_charges = fun_ext (λ u. ap (λ x. x.charge) (same u))

pub cut_marks : CutMarksAreTheSmallestCheapestSet
cut_marks s before after p =
    let own : SmallestCheapestSet (network s after) (charges after) (marks after)
    = certified (network s after) (charges after) (flow_on after) (marks after) (network_proper s after) (certificate s before after p) in
    subst (λ (c : Charges). SmallestCheapestSet (network s before) c (marks after)) (same_charges s before after p)
    (subst (λ (g : Graph Tie). SmallestCheapestSet g (charges after) (marks after)) (same_network s before after p) own)
