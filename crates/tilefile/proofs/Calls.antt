-- Records written as a file says, and the run of calls that writes the same.
use Rattle.std.proofs.Common.{◌≡◌, ℕ, zero, suc, ◌+◌, ◌/◌, ◌%◌, ◌<◌, ◌≤◌, [], ◌∷◌, ◌++◌, length, take, drop, map, set, Ok, refl, sym, ap, ◌∙◌, subst, arith}
use Rattle.std.specs.List.{range_with_len}
use Rattle.std.proofs.lemmas.List.{drop_at, set-set, get_or-set_same, length-set}
use Rattle.std.proofs.lemmas.List.FromFn.{length-map-range_with_len, get_or-map-range_with_len, fill_by_all}
use Rattle.limits.specs.Checking.{passed}
use Rattle.price.specs.Rules.{Rule, Lawful}
use Rattle.tile.specs.declared.cell.Cell.{Cell}
use Rattle.tile.specs.declared.side.Side.{Side}
use Rattle.tile.specs.Shapes.{cells}
use Rattle.tile.specs.Tiles.{Tile, Survey, cell, blank}
use Rattle.passes.specs.Soundness.{SoundReading, SoundTies, SoundSurvey}
use Rattle.passes.specs.Writing.{with_reading, with_ties, fresh, rewritten}
use Rattle.passes.proofs.Rewrites.{rewritten_length, rewritten_more, cell_past}
use Rattle.filter.specs.declared.states.Draft.{Draft}
use Rattle.filter.specs.Checks.{place}
use Rattle.filter.specs.Calls.{PutDoes, TieDoes}
use Rattle.filter.specs.Runs.{put_at, tied_at, History, draft, Lent, Call, Run}
use Rattle.filter.proofs.Keeps.{every_run}
use Rattle.filter.proofs.Places.{place_of, inside_of}
use Rattle.filter.proofs.RunsKept.{sound_slice}
use Rattle.tilefile.specs.Files.{survey_calls}
use Rattle.tilefile.specs.Survey.{cell_record}

-- records written anew twice
pub rewritten_twice : (n : ℕ) (f g : ℕ → Cell) (t : Tile) → rewritten n g (rewritten n f t) ≡ rewritten n g t
rewritten_twice n f g t = ap (λ z. map g (range_with_len 0 n) ++ z) (drop_at (map f (range_with_len 0 n)) (drop n t) n (length-map-range_with_len f 0 n))

-- records written anew the same
pub rewritten_same : (n : ℕ) (f g : ℕ → Cell) (t : Tile) → ((u : ℕ) → u < n → f u ≡ g u) → rewritten n f t ≡ rewritten n g t
rewritten_same n f g t same =
    ap (λ z. z ++ drop n t)
    (fill_by_all g (map f (range_with_len 0 n)) n blank (length-map-range_with_len f 0 n) (λ u l. get_or-map-range_with_len f 0 n u u blank l (omega arith) ∙ same u l))

-- ---- one call of a run

put_step : (rule : Rule) → Lawful rule → (d : Draft) (h : History) (l : Tile) (u v q : ℕ) → u < cells d.shape → cells d.shape ≤ length l → SoundReading d.shape.top v q →
    Run rule d.shape h (draft d) (take (cells d.shape) l) → Run rule d.shape (put_at u v q ∷ h) (draft d) (take (cells d.shape) (set l u (with_reading v q (cell l u))))
put_step rule lawful d h l u v q inside long sound run =
    subst (λ p. Run rule d.shape (put_at p v q ∷ h) (draft d) (take (cells d.shape) (set l p (with_reading v q (cell l p))))) (place_of d.shape u)
    (Run.then run (Lent.all long) (Call.put d (u / d.shape.columns) (u % d.shape.columns) v q (Ok d) does))
  where
    p : ℕ
    p = place d.shape (u / d.shape.columns) (u % d.shape.columns)

    does : PutDoes d l (u / d.shape.columns) (u % d.shape.columns) v q (Ok d) (set l p (with_reading v q (cell l p)))
    does = passed long (passed (sound_slice every_run rule lawful d.shape h (draft d) l run) (passed (inside_of d.shape u inside) (passed sound (refl, refl))))

tie_step : (rule : Rule) → Lawful rule → (d : Draft) (h : History) (l : Tile) (u : ℕ) (w : Side → ℕ) → u < cells d.shape → cells d.shape ≤ length l → SoundTies d.shape u w →
    Run rule d.shape h (draft d) (take (cells d.shape) l) → Run rule d.shape (tied_at u w ∷ h) (draft d) (take (cells d.shape) (set l u (with_ties w (cell l u))))
tie_step rule lawful d h l u w inside long sound run =
    subst (λ p. Run rule d.shape (tied_at p w ∷ h) (draft d) (take (cells d.shape) (set l p (with_ties w (cell l p))))) (place_of d.shape u)
    (Run.then run (Lent.all long) (Call.tie d (u / d.shape.columns) (u % d.shape.columns) w (Ok d) does))
  where
    p : ℕ
    p = place d.shape (u / d.shape.columns) (u % d.shape.columns)

    does : TieDoes d l (u / d.shape.columns) (u % d.shape.columns) w (Ok d) (set l p (with_ties w (cell l p)))
    does = passed long (passed (sound_slice every_run rule lawful d.shape h (draft d) l run) (passed (inside_of d.shape u inside)
        (passed (subst (λ k. SoundTies d.shape k w) (sym (place_of d.shape u)) sound) (refl, refl))))

-- ---- a put and a tie for each of the first cells

-- a put and a tie of one cell write its record
both_written : (g : ℕ → Cell) (t : Tile) (u v q top : ℕ) (w : Side → ℕ) → u < length t → cell t u ≡ fresh top → g u ≡ with_ties w (with_reading v q (fresh top)) →
    set (set (rewritten u g t) u (with_reading v q (cell (rewritten u g t) u))) u (with_ties w (cell (set (rewritten u g t) u (with_reading v q (cell (rewritten u g t) u))) u)) ≡ rewritten (u + 1) g t
both_written g t u v q top w lt first made =
    let l : Tile = rewritten u g t in
    let a : Cell = with_reading v q (cell l u) in
    let long : u < length l = omega (arith, rewritten_length g t u (omega arith)) in
    let old : cell l u ≡ fresh top = cell_past u g t u (omega arith) ∙ first in
    let new : cell (set l u a) u ≡ with_reading v q (fresh top) = get_or-set_same l u a blank long ∙ ap (with_reading v q) old in
    set-set l u a (with_ties w (cell (set l u a) u)) ∙ rewritten_more g t u (with_ties w (cell (set l u a) u)) lt (ap (with_ties w) new ∙ sym made)

pub laid_run : (rule : Rule) → Lawful rule → (d : Draft) (y : Survey) (t : Tile) → cells d.shape ≤ length t → ((u : ℕ) → u < cells d.shape → cell t u ≡ fresh d.shape.top) → SoundSurvey d.shape y →
    Run rule d.shape [] (draft d) (take (cells d.shape) t) → (u : ℕ) → u ≤ cells d.shape → Run rule d.shape (survey_calls y u) (draft d) (take (cells d.shape) (rewritten u (cell_record d.shape.top y) t))
laid_run rule lawful d y t whole first sound run zero le = run
laid_run rule lawful d y t whole first sound run (suc u) le =
    let g : ℕ → Cell = cell_record d.shape.top y in
    let l : Tile = rewritten u g t in
    let long : cells d.shape ≤ length l = omega (arith, rewritten_length g t u (omega arith)) in
    let before = laid_run rule lawful d y t whole first sound run u (omega arith) in
    let a : Cell = with_reading (y.reading u) (y.class u) (cell l u) in
    let one_more : u + 1 ≡ suc u = omega arith in
    let put = put_step rule lawful d (survey_calls y u) l u (y.reading u) (y.class u) (omega arith) long (sound.readings u (omega arith)) before in
    let tied = tie_step rule lawful d (put_at u (y.reading u) (y.class u) ∷ survey_calls y u) (set l u a) u (y.tie u) (omega arith) (omega (arith, length-set l u a)) (sound.ties u (omega arith)) put in
    subst (λ z. Run rule d.shape (survey_calls y (suc u)) (draft d) (take (cells d.shape) z)) (both_written g t u (y.reading u) (y.class u) d.shape.top (y.tie u) (omega arith) (first u (omega arith)) refl ∙ ap (λ k. rewritten k g t) one_more) tied
