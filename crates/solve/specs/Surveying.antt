-- Samples, the survey that they are, and what surveying and solving them answers and leaves.
use Rattle.std.specs.Prelude.{◌≡◌, ℕ, ◌/◌, ◌%◌, ◌<◌, ◌≤◌, List, length, take, Result, IsOkAnd, slice_index_or, codes}
use Rattle.limits.specs.Limits.{most_rows}
use Rattle.limits.specs.Refusals.{number, refusal_text}
use Rattle.limits.specs.declared.refusal.Refusal.{Refusal}
use Rattle.limits.specs.declared.refusal.Refusal.TheVariants.{Reading, Tie}
use Rattle.limits.specs.Checking.{Checked, CheckedBy, EachChecked, RefusedAs}
use Rattle.price.specs.Rules.{Rule, Lawful}
use Rattle.theory.specs.Grids.{LowestCheapestGrid}
use Rattle.tile.specs.declared.shape.Shape.{Shape}
use Rattle.tile.specs.declared.side.Side.{Side}
use Rattle.tile.specs.Shapes.{cells, MadeOf}
use Rattle.tile.specs.Tiles.{Tile, Survey, problem, heights}
use Rattle.passes.specs.Soundness.{SoundReading, SoundTies, Sound}
use Rattle.passes.specs.Writing.{weights}
use Rattle.filter.specs.declared.states.Draft.{Draft}
use Rattle.filter.specs.declared.states.Level.{Level}
use Rattle.filter.specs.Checks.{StartChecked}
use Rattle.filter.specs.Laws.{Recorded}
use Rattle.filter.specs.Runs.{draft}
use Rattle.solve.specs.declared.samples.Sample.{Sample}
use Rattle.solve.specs.declared.samples.SamplesRefusal.{SamplesRefusal}
use Rattle.solve.specs.declared.samples.SamplesRefusal.TheVariants.{FewSamples, Call}
use Rattle.solve.specs.Solving.{RoundsChecked, Solved, FinishedRun, Led}

-- ---- samples

-- the sample of the cell u; zeros where there is none
abbrev pub sample : List Sample → ℕ → Sample
sample xs u = slice_index_or xs u (record { reading = 0; class = 0; right = 0; down = 0 })

-- the weight of its tie on each side
abbrev pub ties : Sample → Side → ℕ
ties x = weights x.right x.down

-- the survey that the samples are, one for each cell
abbrev pub sampled : List Sample → Survey
sampled xs = record { reading = λ u. (sample xs u).reading; class = λ u. (sample xs u).class; tie = λ u. ties (sample xs u) }

-- ---- why they are not solved

-- the number that a refusal is reported by; 0 where the table of refusals has none
abbrev pub samples_refusal_number : SamplesRefusal → ℕ
samples_refusal_number FewSamples = 0
samples_refusal_number (Call e) = number e

abbrev pub samples_refusal_text : SamplesRefusal → List ℕ
samples_refusal_text FewSamples = codes "fewer samples than cells"
samples_refusal_text (Call e) = refusal_text e

-- the checks of one sample: its reading and class, and then its ties
abbrev pub SampleChecked : Shape → ℕ → Sample → (Refusal → Type 0) → Type 0 → Type 0
SampleChecked s u x Left Rest = Checked 5 Reading (SoundReading s.top x.reading x.class) Left (Checked 6 Tie (SoundTies s u (ties x)) Left Rest)

-- those of the samples of the first n cells, cell by cell
abbrev pub SamplesChecked : Shape → List Sample → ℕ → (Refusal → Type 0) → Type 0 → Type 0
SamplesChecked s xs n Left Rest = EachChecked (λ u. SampleChecked s u (sample xs u) Left) n Rest

-- after those of start, over the shape that was asked for: a sample for each cell, sound samples, and the checks of rounds
abbrev pub SurveyChecked : (rows columns top records : ℕ) → List Sample → (entries greatest : ℕ) → (SamplesRefusal → Type 0) → (Shape → Type 0) → Type 0
SurveyChecked rows columns top records xs entries greatest Left Rest =
    StartChecked rows columns top records (λ e. Left (Call e)) ((s : Shape) × MadeOf most_rows rows columns top s ×
    CheckedBy samples_refusal_number 0 FewSamples (cells s ≤ length xs) Left
    (SamplesChecked s xs (cells s) (λ e. Left (Call e)) (RoundsChecked s entries greatest (λ e. Left (Call e)) (Rest s))))

-- ---- surveying and solving

-- The samples of the shape s were written into the draft `drafted`, in which no round was done, and that was solved: the low ends are the lowest cheapest grid of
-- the samples, and a finished run of their survey led to the records.
pub record SampledAndSolved (rule : Rule) (leaves : Shape → Tile → Tile → Type 0) (s : Shape) (y : Survey) (answered : Level) (t' : Tile) : Type 0 where
  pub drafted : Tile
  pub recorded : Recorded s y drafted
  pub undone : Sound s 0 drafted
  pub solved : Solved rule leaves s drafted answered t'
  pub lowest_cheapest : LowestCheapestGrid (problem rule s y) (heights t')
  pub run : FinishedRun rule s y answered (take (cells s) t')

-- every refusal leaves the tile as it was
abbrev pub SamplesDo : Rule → (Shape → Tile → Tile → Type 0) → (rows columns top : ℕ) → List Sample → Tile → (entries : ℕ) → Result Level SamplesRefusal → Tile → Type 0
SamplesDo rule leaves rows columns top xs t entries answer t' =
    SurveyChecked rows columns top (length t) xs entries rule.greatest (RefusedAs t answer t') (λ s. IsOkAnd answer (λ l. SampledAndSolved rule leaves s (sampled (take (cells s) xs)) l t'))

-- ---- steps: writing samples into a draft

-- the row and the column of the cell u
pub record At (s : Shape) (u i j : ℕ) : Type 0 where
  pub row : i ≡ u / s.columns
  pub column : j ≡ u % s.columns

-- a sample that put and tie accept for the cell u
pub record SoundSample (s : Shape) (u : ℕ) (x : Sample) : Type 0 where
  pub reading : SoundReading s.top x.reading x.class
  pub ties : SoundTies s u (ties x)

-- under every lawful rule a run of the survey y led to the draft and the first records of the tile
pub record WrittenTo (d : Draft) (t : Tile) (y : Survey) : Type 0 where
  pub whole : cells d.shape ≤ length t
  pub led : (rule : Rule) → Lawful rule → Led rule d.shape y (draft d) (take (cells d.shape) t)

-- there is a sound sample for each cell
pub record AllSound (s : Shape) (xs : List Sample) : Type 0 where
  pub enough : cells s ≤ length xs
  pub sound : (u : ℕ) → u < cells s → SoundSample s u (sample xs u)

-- the samples of the cells before u are written, and that of u is to be
pub record SampleReady (d : Draft) (t : Tile) (xs : List Sample) (u : ℕ) : Type 0 where
  pub before : WrittenTo d t (sampled (take u xs))
  pub inside : u < cells d.shape
  pub all : AllSound d.shape xs
