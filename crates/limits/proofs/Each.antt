-- The checks of cells, one cell after the other.
use Rattle.std.proofs.Common.{◌≡◌, ℕ, zero, suc, ◌<◌, ◌≤◌, ⊎_elim, subst, arith, below_more}
use Rattle.std.proofs.lemmas.Bool.{cases_lt}
use Rattle.limits.specs.Checking.{EachChecked}

-- with other outcomes
pub each_mapped : (One One' : ℕ → Type 0 → Type 0) (Rest Rest' : Type 0) (n : ℕ) → ((u : ℕ) (R R' : Type 0) → (R → R') → One u R → One' u R') → (Rest → Rest') → EachChecked One n Rest → EachChecked One' n Rest'
each_mapped One One' Rest Rest' zero map rest w = rest w
each_mapped One One' Rest Rest' (suc u) map rest w = each_mapped One One' (One u Rest) (One' u Rest') u map (map u Rest Rest' rest) w

-- every cell passes
pub each_passed : (One : ℕ → Type 0 → Type 0) (Rest : Type 0) (n : ℕ) → ((u : ℕ) → u < n → (R : Type 0) → R → One u R) → Rest → EachChecked One n Rest
each_passed One Rest zero passes rest = rest
each_passed One Rest (suc u) passes rest = each_passed One (One u Rest) u (λ v l. passes v (omega arith)) (passes u (omega arith) Rest rest)

-- the cell i is the first that does not
pub each_refused : (One : ℕ → Type 0 → Type 0) (Rest : Type 0) (n i : ℕ) → i < n → ((u : ℕ) → u < i → (R : Type 0) → R → One u R) → ((R : Type 0) → One i R) → EachChecked One n Rest
each_refused One Rest zero i l passes w = absurd (omega arith)
each_refused One Rest (suc u) i l passes w =
    ⊎_elim
    (λ (lt : i < u). each_refused One (One u Rest) u i lt passes w)
    (λ (le : u ≤ i).
    let same : i ≡ u = omega arith in
    each_passed One (One u Rest) u (λ v m. passes v (omega arith)) (subst (λ (k : ℕ). One k Rest) same (w Rest)))
    (cases_lt i u)

-- what each cell passed
pub each_found : (One : ℕ → Type 0 → Type 0) (P : ℕ → Type 0) (Rest : Type 0) (n : ℕ) → ((u : ℕ) (R : Type 0) → One u R → P u × R) → EachChecked One n Rest → ((u : ℕ) → u < n → P u) × Rest
each_found One P Rest zero found w = (λ u l. absurd (omega arith), w)
each_found One P Rest (suc u) found w =
    let first = each_found One P (One u Rest) u found w in
    let here = found u Rest first.1 in
    (λ v l. below_more P u first.0 here.0 v (omega arith), here.1)

-- where every cell's checks come to their rest, so do all of them
pub each_surely : (One : ℕ → Type 0 → Type 0) (Rest : Type 0) (n : ℕ) → ((u : ℕ) → u < n → (R : Type 0) → One u R → R) → EachChecked One n Rest → Rest
each_surely One Rest zero sure w = w
each_surely One Rest (suc u) sure w = sure u (omega arith) Rest (each_surely One (One u Rest) u (λ v l. sure v (omega arith)) w)
