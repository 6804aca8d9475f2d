-- The breadth-first search from the deficit cells, which ranks the cells it reaches: deficit cells highest, and one less over
-- each residual arc. What waits is a list of entries, each with a cell and perhaps the direction back to where it was reached from.
use Rattle.std.specs.Prelude.{◌≡◌, ℕ, ◌+◌, ◌-◌, ◌<◌, ◌≤◌, ◌⊎◌, List, [], ◌∷◌, map, length, pos, ◌<ℤ◌, Bool, true, false, Some, Option, MatchOption}
use Rattle.std.specs.List.{AllByRecursion}
use Rattle.queue.specs.declared.Queue.{Queue}
use Rattle.queue.specs.Queue.{waits, capacity}
use Rattle.tile.specs.Tiles.{Tile}
use Rattle.flow.specs.declared.direction.Direction.{Direction}
use Rattle.flow.specs.declared.flows.Flows.{Flows}
use Rattle.flow.specs.Sides.{beside, room, InDeficit, InSurplus, SameFlows, Eased}
use Rattle.flow.specs.Lent.{SameRows}
use Rattle.cut.specs.Ranks.{rank_of, ranked}
use Rattle.cut.specs.Lent.{Leveled}

abbrev pub Among : ℕ → List ℕ → Type 0
Among u [] = ⊥
Among u (x ∷ xs) = (x ≡ u) ⊎ Among u xs

-- a residual arc leads to u from a cell that is one rank higher
pub record Parent (c : ℕ) (t : Tile) (u : ℕ) : Type 0 where
  pub from : ℕ
  pub side : Direction
  pub inside : from < length t
  pub to : beside c side from ≡ u
  pub open' : pos 0 <ℤ room t c side from
  pub higher : rank_of t from ≡ rank_of t u + 1

abbrev pub Grown : ℕ → Tile → ℕ → Type 0
Grown c t u = InDeficit t c u ⊎ Parent c t u

-- every cell that a residual arc out of u leads to has a rank
abbrev pub Spread : ℕ → Tile → ℕ → Type 0
Spread c t u = (h : Direction) → pos 0 <ℤ room t c h u → 0 < rank_of t (beside c h u)

-- the state of a search: the cells of q wait, and the cells below `seen` have been looked at for a deficit
pub record Searching (c : ℕ) (t : Tile) (q : List ℕ) (seen : ℕ) : Type 0 where
  pub tree : (u : ℕ) → u < length t → 0 < rank_of t u → Grown c t u
  pub deficits : (u : ℕ) → u < seen → InDeficit t c u → 0 < rank_of t u
  pub closed : (u : ℕ) → u < length t → 0 < rank_of t u → Among u q ⊎ Spread c t u
  pub inside : AllByRecursion (λ x. (x < length t) × (0 < rank_of t x)) q
  pub deep : (u : ℕ) → u < length t → 0 < rank_of t u → length t < rank_of t u + ranked t
  pub few : length q ≤ ranked t
  pub high : (u : ℕ) → u < length t → rank_of t u ≤ length t

-- ranks that a whole search has given
abbrev pub Ranked : ℕ → Tile → Type 0
Ranked c t = Searching c t [] (length t)

-- a cell without a rank, which a residual arc out of u leads to in this direction
pub record Fresh (c : ℕ) (t : Tile) (u : ℕ) (h : Direction) (v : ℕ) : Type 0 where
  pub at : v ≡ beside c h u
  pub inside : v < length t
  pub open' : pos 0 <ℤ room t c h u
  pub none : rank_of t v ≡ 0

-- here is one; or the cell that a residual arc leads to has a rank
abbrev pub FoundFresh : ℕ → Tile → ℕ → Direction → Option ℕ → Type 0
FoundFresh c t u h r = MatchOption r (pos 0 <ℤ room t c h u → 0 < rank_of t (beside c h u)) (Fresh c t u h)

-- what is left to do: the measure of a search
abbrev pub load : Tile → List ℕ → ℕ
load t q = (length t - ranked t) + length q

-- ranks once given stay, and nothing but ranks has changed
pub record Grows (t t' : Tile) : Type 0 where
  pub level : SameFlows t t'
  pub ranks : (u : ℕ) → 0 < rank_of t u → rank_of t' u ≡ rank_of t u

-- the cells that wait
abbrev pub spots : {X : Type 0} → (X → ℕ) → Queue X → List ℕ
spots spot q = map spot (waits q)

-- the direction back leads to a cell that has a rank
abbrev pub BackTo : ℕ → Tile → ℕ → Option Direction → Type 0
BackTo c t u came = (h : Direction) → came ≡ Some h → 0 < rank_of t (beside c h u)

abbrev pub Backed : {X : Type 0} → (X → ℕ) → (X → Option Direction) → ℕ → Tile → X → Type 0
Backed spot came c t e = BackTo c t (spot e) (came e)

-- every cell that waits is a cell
abbrev pub AllInside : {X : Type 0} → (X → ℕ) → Tile → Queue X → Type 0
AllInside spot t q = AllByRecursion (λ e. spot e < length t) (waits q)

-- the same records are borrowed, flow has moved with no cell further below 0, and cells have come to wait
pub record Eases {X : Type 0} (spot : X → ℕ) (f f' : Flows) (q q' : Queue X) : Type 0 where
  pub rows : SameRows f f'
  pub eased : Eased f.columns f.tile.now f'.tile.now
  pub inside : AllInside spot f.tile.now q → AllInside spot f.tile.now q'

-- u has been fetched, and the search is to go on from it
pub record Looks {X : Type 0} (spot : X → ℕ) (came : X → Option Direction) (c u : ℕ) (from : Option Direction) (t : Tile) (q : Queue X) : Type 0 where
  pub search : Searching c t (u ∷ spots spot q) (length t)
  pub rooms : length t ≤ capacity q
  pub back_to : BackTo c t u from
  pub backs : AllByRecursion (Backed spot came c t) (waits q)

-- the search has gone over one direction out of u
pub record Visited {X : Type 0} (spot : X → ℕ) (came : X → Option Direction) (c u : ℕ) (h : Direction) (t t' : Tile) (q q' : Queue X) : Type 0 where
  pub grows : Grows t t'
  pub keeps : Searching c t' (u ∷ spots spot q') (length t')
  pub done : pos 0 <ℤ room t' c h u → 0 < rank_of t' (beside c h u)
  pub load_same : load t' (spots spot q') ≤ load t (spots spot q)
  pub backs : AllByRecursion (Backed spot came c t') (waits q')
  pub olds : (x : ℕ) → Among x (spots spot q) → Among x (spots spot q')
  pub news : (x : ℕ) → 0 < rank_of t' x → (0 < rank_of t x) ⊎ Among x (spots spot q')

-- and over all directions
pub record Visits {X : Type 0} (spot : X → ℕ) (came : X → Option Direction) (c u : ℕ) (t t' : Tile) (q q' : Queue X) : Type 0 where
  pub grows : Grows t t'
  pub keeps : Searching c t' (spots spot q') (length t')
  pub load_same : load t' (spots spot q') ≤ load t (spots spot q)
  pub backs : AllByRecursion (Backed spot came c t') (waits q')
  pub olds : (x : ℕ) → Among x (spots spot q) → Among x (spots spot q')
  pub news : (x : ℕ) → 0 < rank_of t' x → (0 < rank_of t x) ⊎ Among x (spots spot q')

-- the search goes over one direction out of u, which it reached from another, over the same borrowed records
pub record Goes {X : Type 0} (spot : X → ℕ) (came : X → Option Direction) (u : ℕ) (from : Option Direction) (h : Direction) (f f' : Flows) (q q' : Queue X) : Type 0 where
  pub level : Leveled f f'
  pub rooms : capacity q' ≡ capacity q
  pub inside : AllInside spot f.tile.now q → AllInside spot f.tile.now q'
  pub search : Looks spot came f.columns u from f.tile.now q → Visited spot came f.columns u h f.tile.now f'.tile.now q q'

-- the same if that is wanted; else nothing changes
abbrev pub GoesIf : {X : Type 0} → Bool → (X → ℕ) → (X → Option Direction) → ℕ → Option Direction → Direction → Flows → Flows → Queue X → Queue X → Type 0
GoesIf true spot came u from h f f' q q' = Goes spot came u from h f f' q q'
GoesIf false spot came u from h f f' q q' = (f' ≡ f) × (q' ≡ q)

-- and over all directions
pub record GoesOn {X : Type 0} (spot : X → ℕ) (came : X → Option Direction) (u : ℕ) (from : Option Direction) (f f' : Flows) (q q' : Queue X) : Type 0 where
  pub level : Leveled f f'
  pub rooms : capacity q' ≡ capacity q
  pub inside : AllInside spot f.tile.now q → AllInside spot f.tile.now q'
  pub search : Looks spot came f.columns u from f.tile.now q → Visits spot came f.columns u f.tile.now f'.tile.now q q'

-- the deficit cells wait, and no other cell has a rank
pub record Started {X : Type 0} (spot : X → ℕ) (came : X → Option Direction) (c : ℕ) (t : Tile) (q : Queue X) : Type 0 where
  pub search : Searching c t (spots spot q) (length t)
  pub rooms : length t ≤ capacity q
  pub backs : AllByRecursion (Backed spot came c t) (waits q)
  pub roots : (x : ℕ) → 0 < rank_of t x → InSurplus t c x → ⊥
