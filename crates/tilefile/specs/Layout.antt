-- Tile files as they are laid out: a letter, a shape and a survey as bytes.
use Rattle.std.specs.Prelude.{◌≡◌, ℕ, ◌≤◌, List, [], ◌∷◌, ◌++◌, length, Ok, Result}
use Rattle.std.specs.Int.{w16, to_be_bytes}
use Rattle.std.specs.List.{flat_map, range_with_len}
use Rattle.tile.specs.declared.shape.Shape.{Shape}
use Rattle.tile.specs.declared.side.Side.TheVariants.{Rightward, Downward}
use Rattle.tile.specs.Shapes.{cells}
use Rattle.tile.specs.Tiles.{Tile, Survey}
use Rattle.passes.specs.Writing.{rewritten}
use Rattle.filter.specs.declared.states.Draft.{Draft}
use Rattle.filter.specs.Laws.{SameShape}
use Rattle.tilefile.specs.declared.fault.Fault.{Fault}
use Rattle.tilefile.specs.declared.letter.Letter.{Letter}
use Rattle.tilefile.specs.Letters.{letter_byte}
use Rattle.tilefile.specs.Survey.{Writable, cell_record}
use Rattle.tilefile.specs.Files.{file_survey}

-- a number in two bytes, the high one first
abbrev pub two : ℕ → List ℕ
two n = to_be_bytes w16 n

-- an entry for each of n cells, in the order of their numbers
abbrev pub entries : (ℕ → List ℕ) → ℕ → List ℕ
entries one n = flat_map one (range_with_len 0 n)

-- ---- the sections, each after its count

abbrev pub rule_section : Letter → List ℕ
rule_section letter = two 1 ++ letter_byte letter ∷ []

abbrev pub shape_section : Shape → List ℕ
shape_section s = two 3 ++ two s.rows ++ two s.columns ++ two s.top

abbrev pub reading_entry : Survey → ℕ → List ℕ
reading_entry y u = two (y.reading u) ++ y.class u ∷ []

abbrev pub readings_section : Shape → Survey → List ℕ
readings_section s y = two (cells s) ++ entries (reading_entry y) (cells s)

abbrev pub ties_entry : Survey → ℕ → List ℕ
ties_entry y u = two (y.tie u Rightward) ++ two (y.tie u Downward)

abbrev pub ties_section : Shape → Survey → List ℕ
ties_section s y = two (cells s) ++ entries (ties_entry y) (cells s)

-- ---- the file

abbrev pub layout : Letter → Shape → Survey → List ℕ
layout letter s y = rule_section letter ++ shape_section s ++ readings_section s y ++ ties_section s y

-- the file f is the layout of the letter, the shape and what it says
pub record IsLayout (f : List ℕ) (letter : Letter) (s : Shape) : Type 0 where
  pub writable : Writable s (file_survey s f)
  pub bytes : f ≡ layout letter s (file_survey s f)

-- the answer to the layout of a letter, a shape and a survey: a draft of that shape, over records of that survey, and that letter
pub record LayoutRead (letter : Letter) (s : Shape) (y : Survey) (t : Tile) (answer : Result (Draft × Letter) Fault) (t' : Tile) : Type 0 where
  pub draft : Draft
  pub answers : answer ≡ Ok (draft, letter)
  pub shape : SameShape draft.shape s
  pub writes : t' ≡ rewritten (cells s) (cell_record s.top y) t

-- every such layout is accepted, where there are records enough
abbrev pub AcceptsLayouts : List ℕ → Tile → Result (Draft × Letter) Fault → Tile → Type 0
AcceptsLayouts f t answer t' = (letter : Letter) (s : Shape) (y : Survey) → Writable s y → cells s ≤ length t → f ≡ layout letter s y → LayoutRead letter s y t answer t'
