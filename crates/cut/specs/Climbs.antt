-- The climb: a surplus cell that has a rank draws flow over residual arcs, each from a cell one rank higher, up to a deficit cell.
use Rattle.std.specs.Prelude.{◌≡◌, ℕ, ◌+◌, ◌<◌, ◌≤◌, Bool, true, false, length, ℤ, pos, ◌<ℤ◌, Option, MatchOption}
use Rattle.tile.specs.Tiles.{Tile}
use Rattle.flow.specs.declared.direction.Direction.{Direction}
use Rattle.flow.specs.Sides.{beside, has_beside, opposite, room, total_lack, InSurplus, SameFlows, Eased}
use Rattle.cut.specs.declared.entry.Step.{Step}
use Rattle.cut.specs.Ranks.{rank_of}
use Rattle.cut.specs.Searches.{Grown, Ranked}

-- a cell that has a rank is in surplus
abbrev pub RankedSurplus : ℕ → Tile → ℕ → Type 0
RankedSurplus c t u = (0 < rank_of t u) × InSurplus t c u

-- the cell in this direction is in surplus, and there is room to it
abbrev pub Taker : ℕ → Tile → ℕ → Direction → Type 0
Taker c t u h = InSurplus t c (beside c h u) × (pos 0 <ℤ room t c h u)

-- no cell that has a rank is in surplus
abbrev pub NoneInSurplus : ℕ → Tile → Type 0
NoneInSurplus c t = (u : ℕ) → u < length t → 0 < rank_of t u → InSurplus t c u → ⊥

-- none is; or here is one
abbrev pub FoundSurplus : ℕ → Tile → Option ℕ → Type 0
FoundSurplus c t r = MatchOption r (NoneInSurplus c t) (λ v. (v < length t) × (0 < rank_of t v) × InSurplus t c v)

-- a cell one rank higher lies in this direction, with room towards v
pub record Higher (c : ℕ) (t : Tile) (v : ℕ) (h : Direction) : Type 0 where
  pub reach : has_beside c (length t) h v ≡ true
  pub inside : beside c h v < length t
  pub leads : has_beside c (length t) (opposite h) (beside c h v) ≡ true
  pub comes : beside c (opposite h) (beside c h v) ≡ v
  pub rank_up : rank_of t (beside c h v) ≡ rank_of t v + 1
  pub roomy : pos 0 <ℤ room t c (opposite h) (beside c h v)

-- u lies in this direction, one rank higher
pub record OneAbove (c : ℕ) (t : Tile) (v : ℕ) (h : Direction) (u : ℕ) : Type 0 where
  pub reach : has_beside c (length t) h v ≡ true
  pub at : u ≡ beside c h v
  pub inside : u < length t
  pub rank_up : rank_of t u ≡ rank_of t v + 1
  pub few : rank_of t v < 65535

abbrev pub FoundAbove : ℕ → Tile → ℕ → Direction → Option ℕ → Type 0
FoundAbove c t v h r = MatchOption r (has_beside c (length t) h v ≡ true → rank_of t (beside c h v) ≡ rank_of t v + 1 → ⊥) (OneAbove c t v h)

-- and it has room towards v
pub record IsHigher (c : ℕ) (t : Tile) (v : ℕ) (h : Direction) (u : ℕ) : Type 0 where
  pub at : u ≡ beside c h v
  pub higher : Higher c t v h
  pub few : rank_of t v < 65535

abbrev pub FoundHigherBeside : ℕ → Tile → ℕ → Direction → Option ℕ → Type 0
FoundHigherBeside c t v h r = MatchOption r (Higher c t v h → ⊥) (IsHigher c t v h)

abbrev pub FoundHigher : ℕ → Tile → ℕ → Option (ℕ × Direction) → Type 0
FoundHigher c t v r = MatchOption r ((h : Direction) → Higher c t v h → ⊥) (λ p. IsHigher c t v p.1 p.0)

-- from rank k on, each cell that has a rank is in deficit or has a parent
abbrev pub Above : ℕ → Tile → ℕ → Type 0
Above c t k = (u : ℕ) → u < length t → k ≤ rank_of t u → Grown c t u

-- no cell is further below 0, and some cell less far
pub record Relieved (c : ℕ) (t t' : Tile) : Type 0 where
  pub eased : Eased c t t'
  pub fewer : total_lack t' c < total_lack t c

-- what a path to e can carry: something, where from the rank of e on the ranks are those of a search
abbrev pub Carries : ℕ → Tile → ℕ → Option ℤ → Type 0
Carries c t e r = MatchOption r (Above c t (rank_of t e) → ⊥) (λ f. pos 0 <ℤ f)

-- the ranks are those of a search, and no cell that has a rank is in surplus
pub record Settled (c : ℕ) (t t' : Tile) : Type 0 where
  pub eased : Eased c t t'
  pub ranked : Ranked c t'
  pub no_surplus : NoneInSurplus c t'

-- a search that stops at a surplus cell: it met none and is complete; or here is one, and from its rank on the ranks are those of a search
abbrev pub Sought : ℕ → Tile → Option Step → Type 0
Sought c t r = MatchOption r (Ranked c t × NoneInSurplus c t) (λ s. (s.cell < length t) × InSurplus t c s.cell × Above c t (rank_of t s.cell))

-- one sweep: it met no surplus cell, and moved nothing; or it moved flow
pub record Swept (c : ℕ) (t t' : Tile) (r : Bool) : Type 0 where
  pub none : r ≡ false → SameFlows t t' × Ranked c t' × NoneInSurplus c t'
  pub met : r ≡ true → Relieved c t t'
