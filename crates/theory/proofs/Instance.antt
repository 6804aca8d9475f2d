-- The certificate of the small instance, computed.
use Rattle.std.proofs.Common.{◌≡◌, ℕ, ◌<◌, ◌≤◌, pos, ◌<ℤ◌, sym, subst, ⊎_elim, arith}
use borrow.Author.Differences.{ints}
use Rattle.std.proofs.lemmas.Bool.{eqb-true, eq-eqb, cases_lt}
use Rattle.theory.specs.Flows.{remainder, forth, back, Reached, deficit, onward}
use Rattle.theory.specs.Instance.{two_cells, two_charges, six_back, CertificateCanBeMet}

-- only the second cell is in deficit, and the tie is full on the way back
pub only_second : {u : ℕ} → Reached two_cells two_charges six_back u → u ≡ 1
only_second (deficit {u} l h) =
    ⊎_elim
    (λ (k : u < 1). let z : u ≡ 0 = omega arith in absurd (five (subst (λ (v : ℕ). remainder two_cells two_charges six_back v <ℤ pos 0) z h)))
    (λ (k : 1 ≤ u). omega arith)
    (cases_lt u 1)
  where
    five : remainder two_cells two_charges six_back 0 <ℤ pos 0 → ⊥
    five h = omega (arith, ints, h)
only_second (onward r (forth x i near far w)) = absurd (omega (arith, only_second r, near))
only_second (onward r (back x i far near w)) = absurd (omega (arith, ints, w))

second_short : (u : ℕ) → u ≡ 1 → remainder two_cells two_charges six_back u <ℤ pos 0
second_short u e = subst (λ (v : ℕ). remainder two_cells two_charges six_back v <ℤ pos 0) (sym e) below
  where
    below : remainder two_cells two_charges six_back 1 <ℤ pos 0
    below = omega (arith, ints)

pub certificate_met : CertificateCanBeMet
certificate_met = (
  λ x i. (omega arith, omega arith),
  record {
    fits = λ x i. (omega (arith, ints), omega (arith, ints));
    marked = λ u l r. eq-eqb u 1 (only_second r);
    reached = λ u l e. deficit l (second_short u (eqb-true u 1 e));
    no_surplus = λ u l e more. let less = second_short u (eqb-true u 1 e) in omega (arith, ints, more, less);
  },
)
