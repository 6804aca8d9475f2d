-- What a round that is not refused has and does.
use Rattle.std.proofs.Common.{◌≡◌, ℕ, ◌+◌, ◌^◌, ◌<◌, ◌≤◌, length, ℤ, Ok, Err, sym, refl, ap, ◌∙◌, subst, ⊎_elim, arith, pow_mono}
use mathlib.Core.Path.{fun_ext}
use Rattle.std.proofs.lemmas.Bool.{cases_lt}
use Rattle.limits.specs.Limits.{most_rounds}
use Rattle.limits.proofs.Outcomes.{Outcome, either, none_found}
use Rattle.price.specs.Rules.{Rule}
use Rattle.theory.specs.Sets.{SmallestCheapestSet}
use Rattle.tile.specs.declared.bracket.Bracket.{Bracket}
use Rattle.tile.specs.declared.cell.Cell.{Cell}
use Rattle.tile.specs.declared.shape.Shape.{Shape}
use Rattle.tile.specs.Halving.{RoundLeft}
use Rattle.tile.specs.Shapes.{cells}
use Rattle.tile.specs.Records.{stored_tie, recharged}
use Rattle.tile.specs.Tiles.{Tile, cell}
use Rattle.flow.specs.Networks.{network, marks}
use Rattle.flow.specs.Points.{FourPoints}
use Rattle.flow.specs.Sides.{uncut}
use Rattle.passes.specs.Writing.{with_bracket}
use Rattle.passes.specs.Rounds.{charge_in, charged, half_marked, Chargeable}
use Rattle.passes.specs.Soundness.{Sound}
use Rattle.passes.proofs.Rewrites.{rewritten_length, cell_past}
use Rattle.passes.proofs.Sounds.{sound_chargeable}
use Rattle.filter.specs.declared.states.Rounding.{Rounding}
use Rattle.filter.specs.declared.answers.Rounded.{Rounded}
use Rattle.filter.specs.Checks.{RoundChecked}
use Rattle.filter.specs.Calls.{HalvedBy, RoundedBy, SurveyKept}
use Rattle.filter.proofs.Narrowing.{cut_smallest, marks_narrowed, cut_kept, cut_past, narrowed_kept}
use Rattle.filter.proofs.Keeping.{ties_same}

-- what the checks of a round come to
abbrev pub ComesTo : Outcome → Shape → ℕ → Tile → ℕ → ℕ → Type 0
ComesTo o s done t entries greatest = RoundChecked s done t entries greatest (λ e. o ≡ Err e) (o ≡ Ok tt)

-- the same by the rule's own greatest level
pub at_greatest : (o : Outcome) (s : Shape) (done : ℕ) (t : Tile) (entries a b : ℕ) → a ≡ b → ComesTo o s done t entries a → ComesTo o s done t entries b
at_greatest o s done t entries a b e w = subst (ComesTo o s done t entries) e w

-- what an accepted round needs
pub ready : (s : Shape) (done : ℕ) (t : Tile) (entries greatest : ℕ) → ComesTo (Ok tt) s done t entries greatest → record { fit : Chargeable s t; reach : s.top ≤ greatest; room : cells s ≤ entries }
ready s done t entries greatest =
    either (λ why z. none_found why z) (λ whole. either (λ why z. none_found why z) (λ sound. either (λ why z. none_found why z) (λ room. either (λ why z. none_found why z) (λ reach _.
    record { fit = sound_chargeable s done t whole sound; reach = reach; room = room }))))

-- and what they found of its records
pub found_sound : (s : Shape) (done : ℕ) (t : Tile) (entries greatest : ℕ) → ComesTo (Ok tt) s done t entries greatest → Sound s done t
found_sound s done t entries greatest = either (λ why z. none_found why z) (λ _. either (λ why z. none_found why z) (λ sound _. sound))

-- while a round is left, fewer than the most rounds are done
left_few : (top done : ℕ) → top ≤ 1023 → RoundLeft top done → done < most_rounds
left_few top done low left =
    ⊎_elim (λ (l : done < 10). l) (λ (l : 10 ≤ done). let p : 2 ^ 10 ≤ 2 ^ done = pow_mono l in absurd (omega arith)) (cases_lt done 10)

pub few_left : (s : Shape) (done : ℕ) (t : Tile) (entries greatest : ℕ) → ComesTo (Ok tt) s done t entries greatest → done < most_rounds
few_left s done t entries greatest =
    either (λ why z. none_found why z) (λ _. either (λ why z. none_found why z) (λ _. either (λ why z. none_found why z) (λ _. either (λ why z. none_found why z) (λ _. either (λ why z. none_found why z) (λ left _.
    left_few s.top done s.high.1 left)))))

pub made_round : {rule : Rule} {leaves : Shape → Tile → Tile → Type 0} {t t' : Tile} (r : Rounding) (a : Rounded) → a.state.shape ≡ r.shape → a.state.done ≡ r.done + 1 → a.done ≡ r.done + 1 →
    HalvedBy rule leaves r.shape t t' → RoundedBy rule leaves r t (Ok a) t'
made_round r a es ed en halved = record {
  next = a.state;
  answers = ap (λ (n : ℕ). Ok (record { state = a.state; done = n })) en;
  shape = es;
  done = ed;
  halved = halved;
}

-- the marks that are left are those of the cut
pub made_smallest : (rule : Rule) (leaves : Shape → Tile → Tile → Type 0) → ((s : Shape) (before after : Tile) → leaves s before after → FourPoints s before after) → (s : Shape) (t t' : Tile) →
    HalvedBy rule leaves s t t' → SmallestCheapestSet (network s t) (charge_in rule s t) (marks t')
made_smallest rule leaves keeps s t t' a =
    subst (SmallestCheapestSet (network s t) (charge_in rule s t)) (marks_narrowed s a.cut ∙ ap marks (sym a.writes)) (cut_smallest rule s t a.cut (keeps _ _ _ a.left))

-- a record's reading, class and ties are kept, and all of a record past the cells
pub made_kept : (rule : Rule) (leaves : Shape → Tile → Tile → Type 0) → ((s : Shape) (before after : Tile) → leaves s before after → FourPoints s before after) → (s : Shape) (t t' : Tile) → cells s ≤ length t →
    HalvedBy rule leaves s t t' → SurveyKept s t t'
made_kept rule leaves keeps s t t' whole a =
    let four : FourPoints s (charged rule s t) a.cut = keeps _ _ _ a.left in
    let f : ℕ → Cell = λ u. recharged (charge_in rule s t u) (cell t u) in
    let k : ℕ → Cell = λ u. with_bracket (half_marked (cell a.cut u)) (cell a.cut u) in
    let long_cut : length a.cut ≡ length t = four.long ∙ rewritten_length f t (cells s) whole in
    let past : (u : ℕ) → cells s ≤ u → cell t' u ≡ cell t u = λ u l. ap (λ (z : Tile). cell z u) a.writes ∙ cell_past (cells s) k a.cut u l ∙ cut_past rule s t a.cut four u l in
    let kept : (p : Cell → ℕ) → ((b : Bracket) (c : Cell) → p (with_bracket b c) ≡ p c) → ((c : Cell) → p (uncut c) ≡ p c) → ((z : ℤ) (c : Cell) → p (recharged z c) ≡ p c) → (u : ℕ) → p (cell t' u) ≡ p (cell t u) =
    λ p narrow clean charge u.
    ⊎_elim
    (λ (l : u < cells s). ap (λ (z : Tile). p (cell z u)) a.writes ∙ narrowed_kept s a.cut p narrow u ∙ cut_kept rule s t a.cut four p clean charge u l)
    (λ (l : cells s ≤ u). ap p (past u l))
    (cases_lt u (cells s)) in
    record {
      long = ap length a.writes ∙ rewritten_length k a.cut (cells s) (omega (arith, long_cut)) ∙ long_cut;
      same = λ i. record {
        reading = fun_ext (kept (λ c. c.reading) (λ b c. refl) (λ c. refl) (λ z c. refl)) i;
        class = fun_ext (kept (λ c. c.class) (λ b c. refl) (λ c. refl) (λ z c. refl)) i;
        tie = fun_ext (λ u. fun_ext (λ d. kept (λ c. stored_tie c d) (λ b c. ties_same (with_bracket b c) c refl refl d) (λ c. ties_same (uncut c) c refl refl d) (λ z c. ties_same (recharged z c) c refl refl d) u)) i;
      };
      past = past;
    }
