-- Tables of brackets.
use Rattle.std.proofs.Common.{◌≡◌, ℕ, zero, suc, ◌<◌, ◌≤◌, eqb, leb, ◌⊎◌, List, length, get_or, set, get_or-set_same, get_or-set_other, replicate, sym, refl, ap, ap₂, ◌∙◌, subst, ⊎_elim, arith}
use Rattle.std.proofs.lemmas.Bool.{cond-true, cond-false, le-leb, lt-leb, cases_lt, cases_eq, eq-eqb, ne_eqb}
use Rattle.std.proofs.lemmas.List.{get_or-replicate}
use Rattle.theory.specs.Brackets.{middle}
use Rattle.tile.specs.declared.bracket.Bracket.{Bracket}
use Rattle.tile.specs.Halving.{from_to, half_below, half_above, half_toward, halving, Holds}
use Rattle.tile.proofs.Halves.{halving_holds, halving_below}
use Rattle.passes.specs.Soundness.{SoundBracket}
use Rattle.passes.specs.Tables.{beside, HasBrackets, halved, Written}

-- ---- the half toward a height, by which side of the middle it lies on

lower_half : (b : Bracket) (h : ℕ) → h ≤ middle b.low b.high → half_toward b h ≡ half_below b
lower_half b h l = cond-true (leb h (middle b.low b.high)) (half_below b) (half_above b) (le-leb h (middle b.low b.high) l)

upper_half : (b : Bracket) (h : ℕ) → middle b.low b.high < h → half_toward b h ≡ half_above b
upper_half b h l = cond-false (leb h (middle b.low b.high)) (half_below b) (half_above b) (lt-leb h (middle b.low b.high) l)

-- a settled bracket stays
settled_stays : (r : ℕ) (b : Bracket) (h : ℕ) → b.low ≡ b.high → Holds b h → halved r b h ≡ b
settled_stays zero b h e w = refl
settled_stays (suc r) b h e w =
    let same : half_toward b h ≡ b = lower_half b h (omega arith) ∙ ap (λ k. from_to b.low k) (omega arith) in
    ap (λ z. halved r z h) same ∙ settled_stays r b h e w

-- ---- halvings of a bracket, from the first one or from the last one

halved_more : (r : ℕ) (b : Bracket) (h : ℕ) → halved (suc r) b h ≡ half_toward (halved r b h) h
halved_more zero b h = refl
halved_more (suc r) b h = halved_more r (half_toward b h) h

halved_whole : (r top h : ℕ) → halved r (from_to 0 top) h ≡ halving r top h
halved_whole zero top h = refl
halved_whole (suc r) top h = halved_more r (from_to 0 top) h ∙ ap (λ z. half_toward z h) (halved_whole r top h)

-- ---- what is written

-- a bracket that is not halved
pub written_one : (r : ℕ) (b : Bracket) (old new : List ℕ) → b.low ≤ b.high → b.high < length old → (r ≡ 0) ⊎ (b.low ≡ b.high) → new ≡ set old b.low b.high → Written r b old new
written_one r b hs new some room end e = subst (λ z. Written r b hs z) (sym e) (record {
  inside = λ h w. within h ∙ ap (λ z. beside z h (get_or hs h 0)) (sym (stays h w));
  below = λ h l. get_or-set_other hs b.low h b.high 0 (omega arith);
  above = λ h l. get_or-set_other hs b.low h b.high 0 (omega arith);
})
  where
    stays : (h : ℕ) → Holds b h → halved r b h ≡ b
    stays h w = ⊎_elim (λ (e : r ≡ 0). ap (λ n. halved n b h) e) (λ (e : b.low ≡ b.high). settled_stays r b h e w) end

    within : (h : ℕ) → get_or (set hs b.low b.high) h 0 ≡ beside b h (get_or hs h 0)
    within h =
        ⊎_elim
        (λ (e : b.low ≡ h).
        subst (λ k. get_or (set hs b.low b.high) k 0 ≡ b.high) e (get_or-set_same hs b.low b.high 0 (omega arith)) ∙ sym (cond-true (eqb b.low h) b.high (get_or hs h 0) (eq-eqb b.low h e)))
        (λ (e : ¬ b.low ≡ h). get_or-set_other hs b.low h b.high 0 (λ f. e (sym f)) ∙ sym (cond-false (eqb b.low h) b.high (get_or hs h 0) (ne_eqb b.low h e)))
        (cases_eq b.low h)

-- both halves
pub written_both : (r n : ℕ) (b : Bracket) (old mid new : List ℕ) → n ≡ suc r → b.low < b.high →
    Written r (half_toward b b.low) old mid → Written r (half_toward b b.high) mid new → Written n b old new
written_both r n b old mid new e wide one two =
    subst (λ k. Written k b old new) (sym e) (record { inside = inside; below = λ h l. u.below h (omega arith) ∙ d.below h l; above = λ h l. u.above h l ∙ d.above h (omega arith) })
  where
    d : Written r (half_below b) old mid
    d = subst (λ z. Written r z old mid) (lower_half b b.low (omega arith)) one

    u : Written r (half_above b) mid new
    u = subst (λ z. Written r z mid new) (upper_half b b.high (omega arith)) two

    inside : (h : ℕ) → Holds b h → get_or new h 0 ≡ beside (halved (suc r) b h) h (get_or old h 0)
    inside h w =
        ⊎_elim
        (λ (l : middle b.low b.high < h).
        u.inside h (omega arith, w.1) ∙ ap₂ (λ z k. beside (halved r z h) h k) (sym (upper_half b h l)) (d.above h l))
        (λ (l : h ≤ middle b.low b.high).
        u.below h (omega arith) ∙ d.inside h (w.0, l) ∙ ap (λ z. beside (halved r z h) h (get_or old h 0)) (sym (lower_half b h l)))
        (cases_lt (middle b.low b.high) h)

-- the halvings of 0..top, over zeros
pub table_filled : (top done n : ℕ) (old new : List ℕ) → old ≡ replicate n 0 → top < n → top < length new → Written done (from_to 0 top) old new → HasBrackets top done new
table_filled top done n old new e few room w = record { room = room; entries = λ h l. w.inside h (omega arith, l) ∙ ap₂ (λ z k. beside z h k) (halved_whole done top h) (zero_at h l) }
  where
    zero_at : (h : ℕ) → h ≤ top → get_or old h 0 ≡ 0
    zero_at h l = ap (λ z. get_or z h 0) e ∙ get_or-replicate n h 0 0 (omega arith)

-- ---- what a table tells

-- a bracket is sound if its high end stands at its low end, and no height below that
pub table_sound : (top done : ℕ) (hs : List ℕ) (b : Bracket) → HasBrackets top done hs → b.low ≤ b.high → b.high ≤ top → get_or hs b.low 0 ≡ b.high → SoundBracket top done b
table_sound top done hs b t some low e =
    let z : Bracket = halving done top b.low in
    ⊎_elim
    (λ (same : z.low ≡ b.low). record { height = omega arith; halved = ap₂ from_to (sym same) (sym e ∙ t.entries b.low (omega arith) ∙ cond-true (eqb z.low b.low) z.high 0 (eq-eqb z.low b.low same)) })
    (λ (other : ¬ z.low ≡ b.low).
    let none : b.high ≡ 0 = sym e ∙ t.entries b.low (omega arith) ∙ cond-false (eqb z.low b.low) z.high 0 (ne_eqb z.low b.low other) in
    absurd (other (omega (arith, halving_holds done top b.low (omega arith)))))
    (cases_eq z.low b.low)

-- and the other way round
pub sound_table : (top done : ℕ) (hs : List ℕ) (b : Bracket) → HasBrackets top done hs → SoundBracket top done b → (b.low ≤ b.high) × (b.high ≤ top) × (get_or hs b.low 0 ≡ b.high)
sound_table top done hs b t k =
    let z : Bracket = halving done top b.low in
    let low : b.low ≡ z.low = ap (λ (x : Bracket). x.low) k.halved in
    let high : b.high ≡ z.high = ap (λ (x : Bracket). x.high) k.halved in
    let holds : Holds z b.low = halving_holds done top b.low k.height in
    (omega arith, omega (arith, halving_below done top b.low k.height), t.entries b.low k.height ∙ cond-true (eqb z.low b.low) z.high 0 (eq-eqb z.low b.low (sym low)) ∙ sym high)
