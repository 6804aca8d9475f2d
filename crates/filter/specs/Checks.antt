-- The checks of a call, in their order, and what they come to.
use Rattle.std.specs.Prelude.{ℕ, ◌+◌, ◌*◌, ◌<◌, ◌≤◌, length}
use Rattle.limits.specs.Limits.{most_rows}
use Rattle.limits.specs.Checking.{CheckedBy, Checked}
use Rattle.limits.specs.Refusals.{number}
use Rattle.limits.specs.declared.refusal.Refusal.{Refusal}
use Rattle.limits.specs.declared.refusal.Refusal.TheVariants.{Range, FewRecords, Corrupt, Outside, Reading, Tie, FewEntries, Ceiling, NoRoundLeft, RoundsLeft}
use Rattle.tile.specs.declared.shape.Shape.{Shape}
use Rattle.tile.specs.declared.side.Side.{Side}
use Rattle.tile.specs.Halving.{RoundsOver, RoundLeft}
use Rattle.tile.specs.Shapes.{cells, Ranged}
use Rattle.tile.specs.Tiles.{Tile}
use Rattle.passes.specs.Soundness.{SoundReading, SoundTies, Sound}

-- ---- the checks of each call; Left says what a refusal leaves, and Rest what acceptance comes to

-- the checks of start, over so many records, with these two refusals: rows, columns and top in their ranges, and a record for each cell
abbrev pub StartCheckedBy : {E : Type 0} → (E → ℕ) → (range few : E) → (rows columns top records : ℕ) → (E → Type 0) → Type 0 → Type 0
StartCheckedBy number_of range few rows columns top records Left Rest =
    CheckedBy number_of 1 range (Ranged most_rows rows columns top) Left (CheckedBy number_of 2 few (rows * columns ≤ records) Left Rest)

-- start
abbrev pub StartChecked : (rows columns top records : ℕ) → (Refusal → Type 0) → Type 0 → Type 0
StartChecked = StartCheckedBy number Range FewRecords

-- every other call begins with these, and begin and reopen have no more: a record for each cell, and all of them sound
abbrev pub TileChecked : Shape → (done : ℕ) → Tile → (Refusal → Type 0) → Type 0 → Type 0
TileChecked s done t Left Rest = Checked 2 FewRecords (cells s ≤ length t) Left (Checked 3 Corrupt (Sound s done t) Left Rest)

-- a row and a column of the shape
abbrev pub Inside : Shape → ℕ → ℕ → Type 0
Inside s row column = (row < s.rows) × (column < s.columns)

-- the number of their cell
abbrev pub place : Shape → ℕ → ℕ → ℕ
place s row column = row * s.columns + column

-- put, with the reading v of class q
abbrev pub PutChecked : Shape → Tile → (row column v q : ℕ) → (Refusal → Type 0) → Type 0 → Type 0
PutChecked s t row column v q Left Rest = TileChecked s 0 t Left (Checked 4 Outside (Inside s row column) Left (Checked 5 Reading (SoundReading s.top v q) Left Rest))

-- tie, with a weight w for each side
abbrev pub TieChecked : Shape → Tile → (row column : ℕ) → (Side → ℕ) → (Refusal → Type 0) → Type 0 → Type 0
TieChecked s t row column w Left Rest = TileChecked s 0 t Left (Checked 4 Outside (Inside s row column) Left (Checked 6 Tie (SoundTies s (place s row column) w) Left Rest))

-- round, with so many entries of workspace under a rule of this greatest level
abbrev pub RoundChecked : Shape → (done : ℕ) → Tile → (entries greatest : ℕ) → (Refusal → Type 0) → Type 0 → Type 0
RoundChecked s done t entries greatest Left Rest =
    TileChecked s done t Left
    (Checked 7 FewEntries (cells s ≤ entries) Left
    (Checked 8 Ceiling (s.top ≤ greatest) Left
    (Checked 9 NoRoundLeft (RoundLeft s.top done) Left Rest)))

-- finish
abbrev pub FinishChecked : Shape → (done : ℕ) → Tile → (Refusal → Type 0) → Type 0 → Type 0
FinishChecked s done t Left Rest = TileChecked s done t Left (Checked 10 RoundsLeft (RoundsOver s.top done) Left Rest)

-- height
abbrev pub HeightChecked : Shape → (done : ℕ) → Tile → (row column : ℕ) → (Refusal → Type 0) → Type 0 → Type 0
HeightChecked s done t row column Left Rest = TileChecked s done t Left (Checked 4 Outside (Inside s row column) Left Rest)

-- cost, under a rule of this greatest level
abbrev pub CostChecked : Shape → (done : ℕ) → Tile → (greatest : ℕ) → (Refusal → Type 0) → Type 0 → Type 0
CostChecked s done t greatest Left Rest = TileChecked s done t Left (Checked 8 Ceiling (s.top ≤ greatest) Left Rest)
