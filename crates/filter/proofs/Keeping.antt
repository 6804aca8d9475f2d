-- What every run keeps, call by call.
use Rattle.std.proofs.Common.{◌≡◌, ℕ, suc, ◌+◌, ◌<◌, ◌≤◌, cond, eqb, [], ◌∷◌, length, set, sym, refl, ap, ◌∙◌, subst, inl, inr, add-one, arith}
use Rattle.std.proofs.lemmas.Bool.{cond_both, cases_lt, eqb-true, eqb-false}
use Rattle.std.proofs.lemmas.List.{get_or-set_same, get_or-set_other, length-set}
use Rattle.limits.specs.Limits.{most_class}
use Rattle.price.specs.Rules.{Rule, Lawful}
use Rattle.theory.specs.Grids.{Heights, LowestCheapestGrid}
use Rattle.theory.proofs.Locals.{lowest_same}
use Rattle.tile.specs.declared.bracket.Bracket.{Bracket}
use Rattle.tile.specs.declared.cell.Cell.{Cell}
use Rattle.tile.specs.declared.shape.Shape.{Shape}
use Rattle.tile.specs.declared.side.Side.{Side}
use Rattle.tile.specs.declared.side.Side.TheVariants.{Rightward, Downward}
use Rattle.tile.specs.Halving.{from_to, half_toward, halving, Holds, RoundsOver}
use Rattle.tile.specs.Records.{stored_tie, stored_bracket, recharged}
use Rattle.tile.specs.Shapes.{cells}
use Rattle.tile.specs.Tiles.{Tile, Survey, cell, blank, survey, problem, heights}
use Rattle.tile.proofs.Halves.{halving_holds, halving_over, halving_alike}
use Rattle.tile.proofs.Joins.{ties_join_cells}
use Rattle.flow.specs.Points.{FourPoints}
use Rattle.flow.specs.Sides.{uncut}
use Rattle.passes.specs.Writing.{with_reading, with_ties, with_bracket, fresh, reset, rewritten}
use Rattle.passes.specs.Soundness.{SoundReading, SoundTie, SoundTies, SoundSurvey, Sound}
use Rattle.passes.specs.Rounds.{charge_in, charged, half_marked, narrowed}
use Rattle.passes.proofs.Rewrites.{cell_rewritten, rewritten_length}
use Rattle.filter.specs.declared.states.Draft.{Draft}
use Rattle.filter.specs.declared.states.Rounding.{Rounding}
use Rattle.filter.specs.declared.states.Level.{Level}
use Rattle.filter.specs.Runs.{Accepted, put_at, tied_at, begun, rounded, finished, reopened, History, surveyed, State, draft, rounding, level, shape_of, done_of}
use Rattle.filter.specs.Laws.{Recorded}
use Rattle.filter.proofs.Grids.{exists}
use Rattle.filter.proofs.Narrowing.{Halved, cut_kept, narrowed_kept, narrows}

-- The records hold the survey y, and every bracket is the halving, for the rounds done, that holds the height of the lowest
-- cheapest grid.
pub record Held (rule : Rule) (s : Shape) (y : Survey) (done : ℕ) (t : Tile) : Type 0 where
  pub long : cells s ≤ length t
  pub recorded : Recorded s y t
  pub sound : SoundSurvey s y
  -- without a rule that reaches top no round is done
  pub idle : rule.greatest < s.top → done ≡ 0
  pub halved : (g : Heights) → (s.top ≤ rule.greatest → LowestCheapestGrid (problem rule s y) g) → Halved s t done g

-- the same of a run's state and records, for the survey of its history
pub record Inv (rule : Rule) (s : Shape) (h : History) (x : State) (t : Tile) : Type 0 where
  pub shaped : shape_of x ≡ s
  pub held : Held rule s (surveyed h) (done_of x) t
  pub ended : (k : History) → h ≡ finished ∷ k → RoundsOver s.top (done_of x)

-- it looks at the records of cells alone
pub on_slice : {rule : Rule} {s : Shape} {h : History} {x : State} (t t' : Tile) → cells s ≤ length t' → ((u : ℕ) → u < cells s → cell t' u ≡ cell t u) → Inv rule s h x t → Inv rule s h x t'
on_slice t t' long same inv = record {
  shaped = inv.shaped;
  held = record {
    long = long;
    recorded = record {
      reading = λ u l. ap (λ (c : Cell). c.reading) (same u l) ∙ inv.held.recorded.reading u l;
      class = λ u l. ap (λ (c : Cell). c.class) (same u l) ∙ inv.held.recorded.class u l;
      tie = λ u d l. ap (λ (c : Cell). stored_tie c d) (same u l) ∙ inv.held.recorded.tie u d l;
    };
    sound = inv.held.sound;
    idle = inv.held.idle;
    halved = λ g low u l. ap stored_bracket (same u l) ∙ inv.held.halved g low u l;
  };
  ended = inv.ended;
}

-- ---- one record written

-- a part of a cell's record after a write to the record p
written : {X : Type 0} (f : Cell → X) (t : Tile) (p : ℕ) (c : Cell) (u : ℕ) → p < length t → f (cell (set t p c) u) ≡ cond (eqb p u) (f c) (f (cell t u))
written f t p c u lp =
    cond_both (eqb p u) (f c) (f (cell t u)) (λ x. f (cell (set t p c) u) ≡ x)
    (λ e. let q : p ≡ u = eqb-true p u e in subst (λ z. f (cell (set t p c) z) ≡ f c) q (ap f (get_or-set_same t p c blank lp)))
    (λ e. ap f (get_or-set_other t p u c blank (λ q. eqb-false p u e (sym q))))

unwritten : {X : Type 0} (f : Cell → X) (t : Tile) (p : ℕ) (c : Cell) (u : ℕ) → p < length t → f c ≡ f (cell t p) → f (cell (set t p c) u) ≡ f (cell t u)
unwritten f t p c u lp same =
    written f t p c u lp ∙
    cond_both (eqb p u) (f c) (f (cell t u)) (λ x. x ≡ f (cell t u)) (λ e. same ∙ ap (λ z. f (cell t z)) (eqb-true p u e)) (λ e. refl)

-- ---- the ties of a record that is written

pub ties_same : (c e : Cell) → c.right ≡ e.right → c.down ≡ e.down → (d : Side) → stored_tie c d ≡ stored_tie e d
ties_same c e r w Rightward = r
ties_same c e r w Downward = w

now_tied : (c : Cell) (w : Side → ℕ) (d : Side) → stored_tie (with_ties w c) d ≡ w d
now_tied c w Rightward = refl
now_tied c w Downward = refl

no_ties : (top : ℕ) (d : Side) → stored_tie (fresh top) d ≡ 0
no_ties top Rightward = refl
no_ties top Downward = refl

-- ---- the last call accepted

-- is it finish?
abbrev is_finish : Accepted → ℕ
is_finish (put_at u v q) = 0
is_finish (tied_at u w) = 0
is_finish begun = 0
is_finish rounded = 0
is_finish finished = 1
is_finish reopened = 0

not_finish : {G : Type 0} (a : Accepted) (h k : History) → is_finish a ≡ 0 → a ∷ h ≡ finished ∷ k → G
not_finish a h k other e = let p : a ≡ finished = cc in let z : is_finish a ≡ 1 = ap is_finish p in absurd (omega arith)

-- ---- each call

module _ (rule : Rule) (law : Lawful rule) where
  -- a lowest cheapest grid, where there is one to speak of
  pub some_grid : {s : Shape} {y : Survey} {n : ℕ} {t : Tile} → Held rule s y n t →
      (g : Heights) × (s.top ≤ rule.greatest → LowestCheapestGrid (problem rule s y) g) × ((u : ℕ) → u < cells s → g u ≤ s.top)
  some_grid {s} {y} held =
      elim (cases_lt rule.greatest s.top) [
        | inl lt ↦ (λ u. 0, λ le. absurd (omega arith), λ u _. omega arith)
        | inr le ↦ let e = exists rule law s le y held.sound in (e.0, λ _. e.1, λ u l. e.1.least.grid u l)
      ]

  -- before the first round every bracket is 0..top
  pub drafted : (s : Shape) (y : Survey) (n : ℕ) (t : Tile) → Held rule s y n t → n ≡ 0 → (u : ℕ) → u < cells s → stored_bracket (cell t u) ≡ from_to 0 s.top
  drafted s y n t held none u l =
      let g = some_grid held in
      held.halved g.0 g.1 u l ∙ ap (λ n. halving n s.top (g.0 u)) none

  pub start_inv : (s : Shape) (d : Draft) (t : Tile) → d.shape ≡ s → cells s ≤ length t → Inv rule s [] (draft d) (rewritten (cells s) (λ _. fresh s.top) t)
  start_inv s d t es whole =
      let f : ℕ → Cell = λ _. fresh s.top in
      let is : (u : ℕ) → u < cells s → cell (rewritten (cells s) f t) u ≡ f u = λ u l. cell_rewritten (cells s) f t u l in
      record {
        shaped = es;
        held = record {
          long = omega (arith, rewritten_length f t (cells s) whole);
          recorded = record {
            reading = λ u l. ap (λ (c : Cell). c.reading) (is u l);
            class = λ u l. ap (λ (c : Cell). c.class) (is u l);
            tie = λ u d l. ap (λ (c : Cell). stored_tie c d) (is u l) ∙ no_ties s.top d;
          };
          sound = record {
            readings = λ u l. record { reading = omega arith; class = omega arith };
            ties = λ u l d. record { few = omega arith; edge = λ _. refl };
          };
          idle = λ _. refl;
          halved = λ g _ u l. ap stored_bracket (is u l);
        };
        ended = λ k e. let z : ◌≡◌ {A = ℕ} 0 1 = cc in absurd (omega arith);
      }

  pub put_inv : (h : History) (d : Draft) (t : Tile) (p v q : ℕ) → p < cells d.shape → SoundReading d.shape.top v q →
      Inv rule d.shape h (draft d) t → Inv rule d.shape (put_at p v q ∷ h) (draft d) (set t p (with_reading v q (cell t p)))
  put_inv h d t p v q lp ok inv =
      let c : Cell = with_reading v q (cell t p) in
      let l : p < length t = omega (arith, inv.held.long) in
      record {
        shaped = refl;
        held = record {
          long = simp length-set inv.held.long;
          recorded = record {
            reading = λ u lt. written (λ (z : Cell). z.reading) t p c u l ∙ ap (cond (eqb p u) v) (inv.held.recorded.reading u lt);
            class = λ u lt. written (λ (z : Cell). z.class) t p c u l ∙ ap (cond (eqb p u) q) (inv.held.recorded.class u lt);
            tie = λ u e lt. unwritten (λ (z : Cell). stored_tie z e) t p c u l (ties_same c (cell t p) refl refl e) ∙ inv.held.recorded.tie u e lt;
          };
          sound = record {
            readings = λ u lt. record {
              reading = cond_both (eqb p u) v ((surveyed h).reading u) (λ x. x ≤ d.shape.top) (λ _. ok.reading) (λ _. (inv.held.sound.readings u lt).reading);
              class = cond_both (eqb p u) q ((surveyed h).class u) (λ x. x ≤ most_class) (λ _. ok.class) (λ _. (inv.held.sound.readings u lt).class);
            };
            ties = inv.held.sound.ties;
          };
          idle = λ _. refl;
          halved = λ g _ u lt. unwritten stored_bracket t p c u l refl ∙ drafted d.shape (surveyed h) 0 t inv.held refl u lt;
        };
        ended = λ k e. not_finish (put_at p v q) h k refl e;
      }

  pub tie_inv : (h : History) (d : Draft) (t : Tile) (p : ℕ) (w : Side → ℕ) → p < cells d.shape → SoundTies d.shape p w →
      Inv rule d.shape h (draft d) t → Inv rule d.shape (tied_at p w ∷ h) (draft d) (set t p (with_ties w (cell t p)))
  tie_inv h d t p w lp ok inv =
      let c : Cell = with_ties w (cell t p) in
      let l : p < length t = omega (arith, inv.held.long) in
      record {
        shaped = refl;
        held = record {
          long = simp length-set inv.held.long;
          recorded = record {
            reading = λ u lt. unwritten (λ (z : Cell). z.reading) t p c u l refl ∙ inv.held.recorded.reading u lt;
            class = λ u lt. unwritten (λ (z : Cell). z.class) t p c u l refl ∙ inv.held.recorded.class u lt;
            tie = λ u e lt.
                written (λ (z : Cell). stored_tie z e) t p c u l ∙ ap (λ z. cond (eqb p u) z (stored_tie (cell t u) e)) (now_tied (cell t p) w e)
                ∙ ap (cond (eqb p u) (w e)) (inv.held.recorded.tie u e lt);
          };
          sound = record {
            readings = inv.held.sound.readings;
            ties = λ u lt e.
                cond_both (eqb p u) (w e) ((surveyed h).tie u e) (SoundTie d.shape u e) (λ same. subst (λ (n : ℕ). SoundTie d.shape n e (w e)) (eqb-true p u same) (ok e)) (λ _. inv.held.sound.ties u lt e);
          };
          idle = λ _. refl;
          halved = λ g _ u lt. unwritten stored_bracket t p c u l refl ∙ drafted d.shape (surveyed h) 0 t inv.held refl u lt;
        };
        ended = λ k e. not_finish (tied_at p w) h k refl e;
      }

  pub begin_inv : (h : History) (d : Draft) (r : Rounding) (t : Tile) → r.shape ≡ d.shape → r.done ≡ 0 → Inv rule d.shape h (draft d) t → Inv rule d.shape (begun ∷ h) (rounding r) t
  begin_inv h d r t es ed inv = record {
    shaped = es;
    held = subst (λ (n : ℕ). Held rule d.shape (surveyed h) n t) (sym ed) inv.held;
    ended = λ k e. not_finish begun h k refl e;
  }

  -- one round more, whatever led to the records
  pub round_held : (s : Shape) (y : Survey) (n : ℕ) (t cut : Tile) → s.top ≤ rule.greatest → FourPoints s (charged rule s t) cut → Held rule s y n t → Held rule s y (suc n) (narrowed s cut)
  round_held s y n t cut le four held =
      let f : ℕ → Cell = λ u. recharged (charge_in rule s t u) (cell t u) in
      let k : ℕ → Cell = λ u. with_bracket (half_marked (cell cut u)) (cell cut u) in
      let long_cut : cells s ≤ length cut = omega (arith, four.long, rewritten_length f t (cells s) held.long, held.long) in
      record {
        long = omega (arith, rewritten_length k cut (cells s) long_cut);
        recorded = record {
          reading = λ u l. narrowed_kept s cut (λ (c : Cell). c.reading) (λ b c. refl) u ∙ cut_kept rule s t cut four (λ (c : Cell). c.reading) (λ c. refl) (λ z c. refl) u l ∙ held.recorded.reading u l;
          class = λ u l. narrowed_kept s cut (λ (c : Cell). c.class) (λ b c. refl) u ∙ cut_kept rule s t cut four (λ (c : Cell). c.class) (λ c. refl) (λ z c. refl) u l ∙ held.recorded.class u l;
          tie = λ u d l.
              narrowed_kept s cut (λ (c : Cell). stored_tie c d) (λ b c. ties_same (with_bracket b c) c refl refl d) u
              ∙ cut_kept rule s t cut four (λ (c : Cell). stored_tie c d) (λ c. ties_same (uncut c) c refl refl d) (λ z c. ties_same (recharged z c) c refl refl d) u l ∙ held.recorded.tie u d l;
        };
        sound = held.sound;
        idle = λ lt. absurd (omega arith);
        halved = λ g low u l.
            ap stored_bracket (cell_rewritten (cells s) k cut u l)
            ∙ narrows rule law s le y held.sound g (low le) n t held.recorded (held.halved g low) cut four u l
            ∙ ap (λ (b : Bracket). half_toward b (g u)) (held.halved g low u l);
      }

  pub round_inv : (h : History) (r r' : Rounding) (t cut : Tile) → r'.shape ≡ r.shape → r'.done ≡ r.done + 1 → r.shape.top ≤ rule.greatest →
      FourPoints r.shape (charged rule r.shape t) cut → Inv rule r.shape h (rounding r) t → Inv rule r.shape (rounded ∷ h) (rounding r') (narrowed r.shape cut)
  round_inv h r r' t cut es ed le four inv = record {
    shaped = es;
    held = subst (λ (n : ℕ). Held rule r.shape (surveyed h) n (narrowed r.shape cut)) (sym (ed ∙ add-one r.done)) (round_held r.shape (surveyed h) r.done t cut le four inv.held);
    ended = λ o e. not_finish rounded h o refl e;
  }

  pub finish_inv : (h : History) (r : Rounding) (l : Level) (t : Tile) → l.shape ≡ r.shape → l.done ≡ r.done → RoundsOver r.shape.top r.done →
      Inv rule r.shape h (rounding r) t → Inv rule r.shape (finished ∷ h) (level l) t
  finish_inv h r l t es ed over inv = record {
    shaped = es;
    held = subst (λ (n : ℕ). Held rule r.shape (surveyed h) n t) (sym ed) inv.held;
    ended = λ k e. subst (RoundsOver r.shape.top) (sym ed) over;
  }

  pub reopen_inv : (s : Shape) (h : History) (x : State) (d : Draft) (t : Tile) → d.shape ≡ s → Inv rule s h x t →
      Inv rule s (reopened ∷ h) (draft d) (rewritten (cells s) (λ u. reset s.top (cell t u)) t)
  reopen_inv s h x d t es inv =
      let f : ℕ → Cell = λ u. reset s.top (cell t u) in
      let is : (u : ℕ) → u < cells s → cell (rewritten (cells s) f t) u ≡ f u = λ u l. cell_rewritten (cells s) f t u l in
      record {
        shaped = es;
        held = record {
          long = omega (arith, rewritten_length f t (cells s) inv.held.long, inv.held.long);
          recorded = record {
            reading = λ u l. ap (λ (c : Cell). c.reading) (is u l) ∙ inv.held.recorded.reading u l;
            class = λ u l. ap (λ (c : Cell). c.class) (is u l) ∙ inv.held.recorded.class u l;
            tie = λ u e l. ap (λ (c : Cell). stored_tie c e) (is u l) ∙ ties_same (f u) (cell t u) refl refl e ∙ inv.held.recorded.tie u e l;
          };
          sound = inv.held.sound;
          idle = λ _. refl;
          halved = λ g _ u l. ap stored_bracket (is u l);
        };
        ended = λ k e. not_finish reopened h k refl e;
      }

  -- ---- what is held

  -- sound records of a draft hold their own survey
  pub draft_held : (s : Shape) (t : Tile) → cells s ≤ length t → Sound s 0 t → Held rule s (survey t) 0 t
  draft_held s t whole sound = record {
    long = whole;
    recorded = record { reading = λ u l. refl; class = λ u l. refl; tie = λ u d l. refl };
    sound = record { readings = λ u l. (sound u l).reading; ties = λ u l. (sound u l).ties };
    idle = λ _. refl;
    halved = λ g _ u l. (sound u l).bracket.halved;
  }

  -- once the rounds are over each low end is the height in the lowest cheapest grid
  pub ends_at : {s : Shape} {y : Survey} {n : ℕ} {t : Tile} → s.top ≤ rule.greatest → RoundsOver s.top n → Held rule s y n t →
      (g : Heights) × LowestCheapestGrid (problem rule s y) g × ((u : ℕ) → u < cells s → stored_bracket (cell t u) ≡ from_to (g u) (g u))
  ends_at {s} {y} {n} {t} le over held =
      let g = exists rule law s le y held.sound in
      (g.0, g.1, λ u l. held.halved g.0 (λ _. g.1) u l ∙ halving_over n s.top (g.0 u) (g.1.least.grid u l) over)

  pub lowest_held : {s : Shape} {y : Survey} {n : ℕ} {t : Tile} → s.top ≤ rule.greatest → RoundsOver s.top n → Held rule s y n t → LowestCheapestGrid (problem rule s y) (heights t)
  lowest_held {s} {y} {n} {t} le over held =
      let e = ends_at le over held in
      lowest_same (problem rule s y) e.0 (heights t) (ties_join_cells s y.tie) (λ u l. sym (ap (λ (b : Bracket). b.low) (e.2 u l))) e.1

  -- every record is sound
  pub stays_sound : {s : Shape} {y : Survey} {n : ℕ} {t : Tile} → Held rule s y n t → Sound s n t
  stays_sound {s} {y} {n} {t} held u l =
      let g = some_grid held in
      let b : stored_bracket (cell t u) ≡ halving n s.top (g.0 u) = held.halved g.0 g.1 u l in
      let w : Holds (halving n s.top (g.0 u)) (g.0 u) = halving_holds n s.top (g.0 u) (g.2 u l) in
      let low : (cell t u).low ≡ (halving n s.top (g.0 u)).low = ap (λ (z : Bracket). z.low) b in
      record {
        reading = subst (λ (v : ℕ). SoundReading s.top v (cell t u).class) (sym (held.recorded.reading u l))
            (subst (λ (q : ℕ). SoundReading s.top (y.reading u) q) (sym (held.recorded.class u l)) (held.sound.readings u l));
        ties = λ d. subst (SoundTie s u d) (sym (held.recorded.tie u d l)) (held.sound.ties u l d);
        bracket = record {
          height = omega (arith, g.2 u l);
          halved = b ∙ sym (halving_alike n s.top (g.0 u) (cell t u).low (g.2 u l) (omega arith, omega arith));
        };
      }
