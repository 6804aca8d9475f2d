-- Records that are filled with a survey.
use Rattle.std.proofs.Common.{◌≡◌, ℕ, ◌<◌, ◌≤◌, [], length, take, Ok, refl, sym, ap, ◌∙◌, subst, arith}
use Rattle.limits.specs.Checking.{passed}
use Rattle.price.specs.Rules.{Rule}
use Rattle.tile.specs.declared.shape.Shape.{Shape}
use Rattle.tile.specs.Shapes.{cells}
use Rattle.tile.specs.Tiles.{Tile, Survey, cell}
use Rattle.passes.specs.Soundness.{SoundSurvey}
use Rattle.passes.specs.Writing.{fresh, rewritten}
use Rattle.passes.proofs.Rewrites.{rewritten_length, cell_rewritten}
use Rattle.filter.specs.declared.states.Draft.{Draft}
use Rattle.filter.specs.Runs.{draft, Run}
use Rattle.tilefile.specs.Survey.{Writable, cell_record}
use Rattle.tilefile.specs.Files.{FillDoes, survey_calls, LedTo}
use Rattle.tilefile.proofs.Calls.{rewritten_twice, laid_run}

-- started, and then written
pub filled : (s : Shape) (y : Survey) (t t' t'' : Tile) (d : Draft) → cells s ≤ length t → d.shape ≡ s → t' ≡ rewritten (cells s) (λ _. fresh s.top) t → t'' ≡ rewritten (cells s) (cell_record s.top y) t' → FillDoes s y t (Ok d) t''
filled s y t t' t'' d whole shape first second = passed whole (record {
  draft = d;
  answers = refl;
  shape = shape;
  writes = second ∙ ap (rewritten (cells s) (cell_record s.top y)) first ∙ rewritten_twice (cells s) (λ _. fresh s.top) (cell_record s.top y) t;
})

pub fill_led : (s : Shape) (y : Survey) (t t' t'' : Tile) (d : Draft) → Writable s y → cells s ≤ length t → d.shape ≡ s → t' ≡ rewritten (cells s) (λ _. fresh s.top) t → t'' ≡ rewritten (cells s) (cell_record s.top y) t' →
    ((rule : Rule) → Run rule d.shape [] (draft d) (take (cells d.shape) t')) → LedTo d y t''
fill_led s y t t' t'' d writable whole shape first second begins rule lawful =
    subst (λ z. Run rule d.shape (survey_calls y (cells d.shape)) (draft d) (take (cells d.shape) z)) (sym written) (laid_run rule lawful d y t' long fresh_first (subst (λ (x : Shape). SoundSurvey x y) (sym shape) writable.sound) (begins rule) (cells d.shape) (omega arith))
  where
    same : cells d.shape ≡ cells s
    same = ap cells shape

    long : cells d.shape ≤ length t'
    long = omega (arith, same, whole, ap length first, rewritten_length (λ _. fresh s.top) t (cells s) whole)

    fresh_first : (u : ℕ) → u < cells d.shape → cell t' u ≡ fresh d.shape.top
    fresh_first u l = ap (λ z. cell z u) first ∙ cell_rewritten (cells s) (λ _. fresh s.top) t u (omega (arith, same)) ∙ ap (λ (x : Shape). fresh x.top) (sym shape)

    written : t'' ≡ rewritten (cells d.shape) (cell_record d.shape.top y) t'
    written = second ∙ ap (λ (x : Shape). rewritten (cells x) (cell_record x.top y) t') (sym shape)
