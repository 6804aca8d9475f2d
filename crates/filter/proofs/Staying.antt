-- A round leaves sound records sound, whatever led to them.
use Rattle.std.proofs.Common.{◌≡◌, ℕ, ◌+◌, ◌<◌, ◌≤◌, Bool, true, false, cond, eqb, leb, not, List, [], ◌∷◌, ℤ, pos, ◌+ℤ◌, ◌-ℤ◌, sym, refl, ap, ◌∙◌, subst, ap₂, ⊎_elim, arith}
use borrow.Author.Differences.{ints}
use Rattle.std.specs.List.{ContainsAt as Has, AllByRecursion as All}
use Rattle.std.proofs.lemmas.Bool.{cases_lt, cond_both, cond-true, cond-false, eqb-true, eq-eqb, ne_eqb, le-leb, lt-leb, and_parts, false≢true}
use Rattle.limits.specs.Limits.{most_class}
use Rattle.price.specs.Rules.{Rule}
use Rattle.theory.specs.Sums.{totalℤ}
use Rattle.theory.specs.Sets.{Charges}
use Rattle.theory.specs.Flows.{Flow, leaving, Reached, deficit, onward, forth, back}
use Rattle.theory.specs.Brackets.{middle, settled}
use Rattle.theory.proofs.Sums.{for_all}
use Rattle.tile.specs.declared.bracket.Bracket.{Bracket}
use Rattle.tile.specs.declared.cell.Cell.{Cell}
use Rattle.tile.specs.declared.shape.Shape.{Shape}
use Rattle.tile.specs.Halving.{half_below, half_above, halving, Holds}
use Rattle.tile.specs.Records.{stored_tie, stored_bracket, recharged}
use Rattle.tile.specs.Shapes.{cells}
use Rattle.tile.specs.Ties.{Tie, neighbour}
use Rattle.tile.specs.Tiles.{Tile, cell}
use Rattle.tile.proofs.Halves.{halving_holds, halving_alike, halving_more}
use Rattle.flow.specs.Networks.{brackets, charges, flow_on, network}
use Rattle.flow.specs.Points.{FourPoints}
use Rattle.flow.specs.Sides.{uncut}
use Rattle.flow.proofs.LiveTies.{live_tie}
use Rattle.passes.specs.Writing.{with_bracket}
use Rattle.passes.specs.Rounds.{charged, half_marked, narrowed}
use Rattle.passes.specs.Soundness.{SoundTie, SoundBracket, Sound}
use Rattle.passes.proofs.Rewrites.{cell_rewritten}
use Rattle.passes.proofs.Sounds.{sound_high}
use Rattle.filter.specs.Calls.{HalvedBy}
use Rattle.filter.proofs.Narrowing.{cut_kept, narrowed_kept}
use Rattle.filter.proofs.Keeping.{ties_same}

-- ---- a settled cell is never marked

-- a live tie ends at no settled cell
ends_open : (s : Shape) (t : Tile) (x : Tie) → Has (network s t).ties x → (settled (brackets t) x.cell ≡ false) × (settled (brackets t) (neighbour s x.cell x.side) ≡ false)
ends_open s t x h =
    let b = brackets t in
    let v : ℕ = neighbour s x.cell x.side in
    let alive = and_parts _ _ (live_tie s t x h).alive in
    let same = and_parts (eqb (b.low x.cell) (b.low v)) (eqb (b.high x.cell) (b.high v)) alive.0 in
    let here : settled b x.cell ≡ false = not_true (settled b x.cell) alive.1 in
    let low : b.low x.cell ≡ b.low v = eqb-true _ _ same.0 in
    let high : b.high x.cell ≡ b.high v = eqb-true _ _ same.1 in
    (here, ap₂ eqb (sym low) (sym high) ∙ here)
  where
    not_true : (y : Bool) → not y ≡ true → y ≡ false
    not_true true e = absurd (false≢true e)
    not_true false e = refl

zeros : {X : Type 0} (xs : List X) (f : X → ℤ) → All (λ x. f x ≡ pos 0) xs → totalℤ xs f ≡ pos 0
zeros [] f a = refl
zeros (x ∷ xs) f a = ap₂ (λ (y z : ℤ). y +ℤ z) a.0 (zeros xs f a.1)

-- an end that is not u
elsewhere : (t : Tile) (u v : ℕ) → settled (brackets t) u ≡ true → settled (brackets t) v ≡ false → eqb v u ≡ false
elsewhere t u v shut unshut = ne_eqb v u (λ (same : v ≡ u). false≢true (sym unshut ∙ ap (settled (brackets t)) same ∙ shut))

idle : (s : Shape) (t : Tile) (f : Flow Tie) (u : ℕ) → settled (brackets t) u ≡ true → totalℤ (network s t).ties (leaving (network s t) f u) ≡ pos 0
idle s t f u shut =
    zeros (network s t).ties (leaving (network s t) f u) (for_all _ (network s t).ties (λ x h.
    let both = ends_open s t x h in
    ap₂ (λ (y z : Bool). cond y (f x) (pos 0) -ℤ cond z (f x) (pos 0)) (elsewhere t u x.cell shut both.0) (elsewhere t u (neighbour s x.cell x.side) shut both.1)))

not_reached : (s : Shape) (t : Tile) (c : Charges) (f : Flow Tie) (u : ℕ) → settled (brackets t) u ≡ true → c u ≡ pos 0 → Reached (network s t) c f u → ⊥
not_reached s t c f u shut none (deficit l lack) = let e = idle s t f u shut in absurd (omega (arith, ints))
not_reached s t c f u shut none (onward r (forth x h near far room)) = false≢true (sym (ends_open s t x h).1 ∙ ap (settled (brackets t)) far ∙ shut)
not_reached s t c f u shut none (onward r (back x h far near room)) = false≢true (sym (ends_open s t x h).0 ∙ ap (settled (brackets t)) near ∙ shut)

-- ---- the halves of a sound bracket

open_ends : (top done : ℕ) (b : Bracket) → SoundBracket top done b → Holds b b.low
open_ends top done b k = subst (λ (z : Bracket). Holds z b.low) (sym k.halved) (halving_holds done top b.low k.height)

lower_sound : (top done : ℕ) (b : Bracket) → SoundBracket top done b → SoundBracket top (done + 1) (half_below b)
lower_sound top done b k =
    let w = open_ends top done b k in
    record {
      height = k.height;
      halved = sym (cond-true (leb b.low (middle b.low b.high)) (half_below b) (half_above b) (le-leb b.low (middle b.low b.high) (omega arith))) ∙ halving_more done top b.low b k.halved;
    }

upper_sound : (top done : ℕ) (b : Bracket) → SoundBracket top done b → b.low < b.high → SoundBracket top (done + 1) (half_above b)
upper_sound top done b k wide =
    let h : ℕ = middle b.low b.high + 1 in
    let inside : Holds (halving done top b.low) h = subst (λ (z : Bracket). Holds z h) k.halved (omega arith, omega arith) in
    record {
      height = omega (arith, sound_high top done b k);
      halved = sym (cond-false (leb h (middle b.low b.high)) (half_below b) (half_above b) (lt-leb h (middle b.low b.high) (omega arith))) ∙ halving_more done top h b (k.halved ∙ sym (halving_alike done top b.low h k.height inside));
    }

-- ---- a round

pub round_sound : (rule : Rule) (s : Shape) (done : ℕ) (t cut : Tile) → Sound s done t → FourPoints s (charged rule s t) cut → Sound s (done + 1) (narrowed s cut)
round_sound rule s done t cut sound four u l = record {
  reading = record {
    reading = subst (λ (v : ℕ). v ≤ s.top) (sym (kept (λ (c : Cell). c.reading) (λ b c. refl) (λ c. refl) (λ z c. refl))) (sound u l).reading.reading;
    class = subst (λ (q : ℕ). q ≤ most_class) (sym (kept (λ (c : Cell). c.class) (λ b c. refl) (λ c. refl) (λ z c. refl))) (sound u l).reading.class;
  };
  ties = λ d. subst (SoundTie s u d) (sym (kept (λ (c : Cell). stored_tie c d) (λ b c. ties_same (with_bracket b c) c refl refl d) (λ c. ties_same (uncut c) c refl refl d) (λ z c. ties_same (recharged z c) c refl refl d))) ((sound u l).ties d);
  bracket = subst (SoundBracket s.top (done + 1)) (sym (ap stored_bracket (cell_rewritten (cells s) _ cut u l))) half;
}
  where
    kept : {X : Type 0} (f : Cell → X) → ((b : Bracket) (c : Cell) → f (with_bracket b c) ≡ f c) → ((c : Cell) → f (uncut c) ≡ f c) → ((z : ℤ) (c : Cell) → f (recharged z c) ≡ f c) → f (cell (narrowed s cut) u) ≡ f (cell t u)
    kept f narrow clean charge = narrowed_kept s cut f narrow u ∙ cut_kept rule s t cut four f clean charge u l

    same : stored_bracket (cell cut u) ≡ stored_bracket (cell t u)
    same = cut_kept rule s t cut four stored_bracket (λ c. refl) (λ z c. refl) u l

    here : SoundBracket s.top done (stored_bracket (cell cut u))
    here = subst (SoundBracket s.top done) (sym same) (sound u l).bracket

    no_charge : settled (brackets t) u ≡ true → charges cut u ≡ pos 0
    no_charge shut =
        ap (λ (c : Cell). c.charge) (four.kept u l) ∙ ap (λ (c : Cell). c.charge) (cell_rewritten (cells s) _ t u l) ∙ cond-true (settled (brackets t) u) (pos 0) _ shut

    unsettled : eqb (cell cut u).mark 1 ≡ true → (cell cut u).low < (cell cut u).high
    unsettled e =
        ⊎_elim
        (λ (lt : (cell cut u).low < (cell cut u).high). lt)
        (λ (le : (cell cut u).high ≤ (cell cut u).low).
        let w = open_ends s.top done (stored_bracket (cell cut u)) here in
        let shut : settled (brackets cut) u ≡ true = eq-eqb (cell cut u).low (cell cut u).high (omega arith) in
        let before : settled (brackets t) u ≡ true = ap (λ (b : Bracket). eqb b.low b.high) (sym same) ∙ shut in
        absurd (not_reached s cut (charges cut) (flow_on cut) u shut (no_charge before) (four.reached u l (eqb-true _ 1 e))))
        (cases_lt (cell cut u).low (cell cut u).high)

    half : SoundBracket s.top (done + 1) (half_marked (cell cut u))
    half = cond_both (eqb (cell cut u).mark 1) (half_above (stored_bracket (cell cut u))) (half_below (stored_bracket (cell cut u))) (SoundBracket s.top (done + 1))
        (λ e. upper_sound s.top done (stored_bracket (cell cut u)) here (unsettled e)) (λ e. lower_sound s.top done (stored_bracket (cell cut u)) here)

-- the records that an accepted round leaves are sound for its answer
pub made_sound : (rule : Rule) (leaves : Shape → Tile → Tile → Type 0) → ((s : Shape) (before after : Tile) → leaves s before after → FourPoints s before after) → (s : Shape) (done : ℕ) (t t' : Tile) → Sound s done t →
    HalvedBy rule leaves s t t' → (s' : Shape) (done' : ℕ) → s' ≡ s → done' ≡ done + 1 → Sound s' done' t'
made_sound rule leaves keeps s done t t' sound a s' done' es ed =
    subst (λ (z : Shape). Sound z done' t') (sym es) (subst (λ (n : ℕ). Sound s n t') (sym ed) (subst (Sound s (done + 1)) (sym a.writes) (round_sound rule s done t a.cut sound (keeps _ _ _ a.left))))
