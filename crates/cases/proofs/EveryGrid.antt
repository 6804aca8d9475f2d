-- A test over all grids, and what follows when it passes.
use Rattle.std.proofs.Common.{◌≡◌, ℕ, zero, suc, ◌<◌, ◌≤◌, Bool, true, List, [], ◌∷◌, get_or, refl, arith}
use Rattle.theory.specs.Grids.{Heights}
use Rattle.theory.proofs.Every.{every, every_passes}

-- does the test pass at every list of n heights from 0 to top?
abbrev pub every_grid : ℕ → ℕ → (List ℕ → Bool) → Bool
every_grid top zero test = test []
every_grid top (suc n) test = every (suc top) (λ a. every_grid top n (λ hs. test (a ∷ hs)))

-- the heights of the first n cells
abbrev pub listed : ℕ → Heights → List ℕ
listed zero k = []
listed (suc n) k = k 0 ∷ listed n (λ u. k (suc u))

-- the list has the height of each of them
pub listed_at : (n : ℕ) (k : Heights) (u : ℕ) → u < n → get_or (listed n k) u 0 ≡ k u
listed_at zero k u l = absurd (omega arith)
listed_at (suc n) k zero l = refl
listed_at (suc n) k (suc u) l = listed_at n (λ v. k (suc v)) u (omega arith)

-- a test that passes at every list of heights passes at the listed heights of any grid
pub every_grid_passes : (top n : ℕ) (test : List ℕ → Bool) → every_grid top n test ≡ true → (k : Heights) → ((u : ℕ) → u < n → k u ≤ top) → test (listed n k) ≡ true
every_grid_passes top zero test e k low = e
every_grid_passes top (suc n) test e k low =
    every_grid_passes top n (λ hs. test (k 0 ∷ hs))
    (every_passes (suc top) (λ a. every_grid top n (λ hs. test (a ∷ hs))) e (k 0) (omega (arith, low 0 (omega arith))))
    (λ u. k (suc u)) (λ u l. low (suc u) (omega arith))
