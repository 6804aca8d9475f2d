-- A test over all numbers below a bound, and what follows when it passes.
use Rattle.std.proofs.Common.{◌≡◌, ℕ, zero, suc, ◌<◌, ◌≤◌, Bool, true, ◌&&◌, subst, ⊎_elim, arith}
use Rattle.std.proofs.lemmas.Bool.{and_parts, cases_lt}

-- does the test pass at every number below n?
abbrev pub every : ℕ → (ℕ → Bool) → Bool
every zero test = true
every (suc n) test = every n test && test n

-- then it passes at each of them
pub every_passes : (n : ℕ) (test : ℕ → Bool) → every n test ≡ true → (u : ℕ) → u < n → test u ≡ true
every_passes zero test e u l = absurd (omega arith)
every_passes (suc n) test e u l =
    let both = and_parts (every n test) (test n) e in
    ⊎_elim
    (λ (k : u < n). every_passes n test both.0 u k)
    (λ (k : n ≤ u). subst (λ (v : ℕ). test v ≡ true) (omega arith) both.1)
    (cases_lt u n)
