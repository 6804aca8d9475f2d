-- What every run keeps, and what checks come to where it is known whether they hold.
use Rattle.std.proofs.Common.{◌≡◌, ℕ, ◌≤◌, length, take, Ok, Err, Result, refl, subst, arith}
use Rattle.std.proofs.lemmas.List.{get_or-take}
use Rattle.price.specs.Rules.{Rule, Lawful}
use Rattle.tile.specs.declared.cell.Cell.{Cell}
use Rattle.tile.specs.declared.shape.Shape.{Shape}
use Rattle.tile.specs.Shapes.{cells}
use Rattle.tile.specs.Tiles.{Tile, blank}
use Rattle.passes.specs.Soundness.{Sound, SoundCell}
use Rattle.filter.specs.Runs.{History, State, shape_of, done_of, Lent, Run}
use Rattle.filter.specs.Laws.{EveryRunKeepsTheLaw}

-- ---- checks

-- an answer is not both
pub not_both : {X E G : Type 0} (answer : Result X E) (x : X) (e : E) → answer ≡ Ok x → answer ≡ Err e → G
not_both answer x e p q = let z : ◌≡◌ {A = ℕ} 0 1 = cc in absurd (omega arith)

-- ---- runs

-- the state of a run has the run's shape
pub run_shape : EveryRunKeepsTheLaw → (rule : Rule) → Lawful rule → {s : Shape} {h : History} {x : State} {r : Tile} → Run rule s h x r → shape_of x ≡ s
run_shape law rule lawful {s} {h} {x} {r} run = (law rule lawful s h x r run).shape_stays

-- the records of a run are sound where they begin a slice
pub sound_slice : EveryRunKeepsTheLaw → (rule : Rule) → Lawful rule → (s : Shape) (h : History) (x : State) (t : Tile) → Run rule s h x (take (cells s) t) → Sound s (done_of x) t
sound_slice law rule lawful s h x t run u l =
    subst (λ (c : Cell). SoundCell s (done_of x) u c) (get_or-take (cells s) t u blank l) ((law rule lawful s h x (take (cells s) t) run).records_stay_sound u l)

-- ---- lending

-- a slice with enough records begins with the run's
pub lent_whole : {n : ℕ} {r t t' r' : Tile} → n ≤ length t → Lent n r t t' r' → (r ≡ take n t) × (r' ≡ take n t')
lent_whole le (Lent.all _) = (refl, refl)
lent_whole le (Lent.part lt) = absurd (omega arith)
