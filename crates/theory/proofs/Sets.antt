-- The theorems on cheapest sets.
use Rattle.std.proofs.Common.{refl, arith}
use borrow.Author.Differences.{ints}
use Rattle.theory.specs.Graphs.{Graph}
use Rattle.theory.specs.Sets.{Charges, meet, join, CostIsSubmodular, SmallestCheapestSetExists, SmallestCheapestSetIsUnique, HigherChargesShrinkTheSet}
use Rattle.theory.proofs.Sums.{for_all}
use Rattle.theory.proofs.Least.{Submodular, least_exists, least_compared, within_both}
use Rattle.theory.proofs.Prices.{pays, pays_same, SameTies, mixed, prices, own_prices, to_set, from_set}

pub same_ties : {X : Type 0} (g : Graph X) (c d : Charges) → SameTies g (prices g c) (prices g d)
same_ties g c d = for_all _ g.ties (λ x _. (refl, refl))

pays_submodular : {X : Type 0} (g : Graph X) (c : Charges) → Submodular (pays g (prices g c))
pays_submodular g c s t = omega (arith, mixed g (prices g c) (prices g c) s t (same_ties g c c) (λ u l. omega arith))

pub submodular : {X : Type 0} → CostIsSubmodular X
submodular g c s t =
    let e = own_prices g c in
    omega (arith, ints, pays_submodular g c s t, e s, e t, e (meet s t), e (join s t))

pub smallest_exists : {X : Type 0} → SmallestCheapestSetExists X
smallest_exists g c o =
    let r = least_exists g.cells (pays g (prices g c)) (pays_same g (prices g c) o) (pays_submodular g c) in
    (r.0, to_set g (prices g c) g c (own_prices g c) r.0 r.1)

pub smallest_unique : {X : Type 0} → SmallestCheapestSetIsUnique X
smallest_unique g c s t a b = within_both g.cells s t (a.smallest t b.cheapest) (b.smallest s a.cheapest)

pub compared : {X : Type 0} → HigherChargesShrinkTheSet X
compared g c d s t le a b =
    let p = prices g c in
    let q = prices g d in
    least_compared g.cells (pays g p) (pays g q) s t (mixed g p q s t (same_ties g c d) (λ u l. omega (arith, ints, le u l)))
    (from_set g p g c (own_prices g c) s a) (from_set g q g d (own_prices g d) t b)
