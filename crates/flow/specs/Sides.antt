-- Flows as the cells see them, by their four sides and with no column arithmetic: a tie off the edge weighs nothing, so
-- nothing ever runs over it. A tile here is a whole list of records in rows of c.
use Rattle.std.specs.Prelude.{◌≡◌, ℕ, ◌+◌, ◌-◌, ◌*◌, ◌<◌, ◌≤◌, Bool, true, false, cond, Some, None, Option, length, ℤ, pos, ◌+ℤ◌, ◌-ℤ◌, neg_ℤ, ◌≤ℤ◌, ◌<ℤ◌, int_lt, nat_le, nat_lt, slice_set, unsigned_abs}
use Rattle.std.specs.Int.{int_min}
use borrow.Author.Differences.{down}
use Rattle.limits.specs.Limits.{most_charge, most_tie, most_columns, most_strip_rows}
use Rattle.tile.specs.declared.cell.Cell.{Cell}
use Rattle.tile.specs.declared.side.Side.{Side}
use Rattle.tile.specs.declared.side.Side.TheVariants.{Rightward, Downward}
use Rattle.tile.specs.Records.{stored_tie, stored_flow, recharged, share_bracket}
use Rattle.tile.specs.Ties.{offset}
use Rattle.tile.specs.Tiles.{Tile, cell}
use Rattle.theory.specs.Sums.{sum_below}
use Rattle.flow.specs.declared.direction.Direction.{Direction}
use Rattle.flow.specs.declared.direction.Direction.TheVariants.{Right, Down, Left, Up}

-- the other way
abbrev pub opposite : Direction → Direction
opposite Right = Left
opposite Down = Up
opposite Left = Right
opposite Up = Down

-- the cell in this direction
abbrev pub beside : ℕ → Direction → ℕ → ℕ
beside c Right u = u + 1
beside c Down u = u + c
beside c Left u = u - 1
beside c Up u = u - c

-- is there a record in this direction, among n
abbrev pub has_beside : ℕ → ℕ → Direction → ℕ → Bool
has_beside c n Right u = nat_lt (u + 1) n
has_beside c n Down u = nat_lt (u + c) n
has_beside c n Left u = nat_le 1 u
has_beside c n Up u = nat_le c u

-- the cell in this direction, where there is a record
abbrev pub found_beside : ℕ → ℕ → Direction → ℕ → Option ℕ
found_beside c n h u = cond (has_beside c n h u) (Some (beside c h u)) None

-- the side on which a tie in this direction is stored, its two cells with the one that stores it first, and the flow over it out of
-- the cell, when it is f away from the cell that stores it
abbrev pub side_of : Direction → Side
side_of Right = Rightward
side_of Down = Downward
side_of Left = Rightward
side_of Up = Downward

abbrev pub storing_first : Direction → ℕ → ℕ → ℕ × ℕ
storing_first Right u v = (u, v)
storing_first Down u v = (u, v)
storing_first Left u v = (v, u)
storing_first Up u v = (v, u)

abbrev pub flow_out : Direction → ℤ → ℤ
flow_out Right f = f
flow_out Down f = f
flow_out Left f = neg_ℤ f
flow_out Up f = neg_ℤ f

-- two cells have the same bracket and are not settled
abbrev pub live_pair : Tile → ℕ → ℕ → Bool
live_pair t a b = share_bracket (cell t a) (cell t b)

-- how much more the tie stored at a takes forwards, and backwards; none where it is not live
abbrev pub room_forth : Tile → ℕ → Side → ℕ → ℤ
room_forth t c d a = cond (live_pair t a (a + offset c d)) (pos (stored_tie (cell t a) d) -ℤ stored_flow (cell t a) d) (pos 0)

abbrev pub room_back : Tile → ℕ → Side → ℕ → ℤ
room_back t c d a = cond (live_pair t a (a + offset c d)) (pos (stored_tie (cell t a) d) +ℤ stored_flow (cell t a) d) (pos 0)

-- the room of the residual arc out of u in this direction
abbrev pub room : Tile → ℕ → Direction → ℕ → ℤ
room t c Right u = cond (nat_lt (u + 1) (length t)) (room_forth t c Rightward u) (pos 0)
room t c Down u = cond (nat_lt (u + c) (length t)) (room_forth t c Downward u) (pos 0)
room t c Left u = cond (nat_le 1 u) (room_back t c Rightward (u - 1)) (pos 0)
room t c Up u = cond (nat_le c u) (room_back t c Downward (u - c)) (pos 0)

-- the remainder of u: its charge, plus what leaves it to the right and down, minus what enters it from the left and from above
abbrev pub remains : Tile → ℕ → ℕ → ℤ
remains t c u = ((cell t u).charge +ℤ (cell t u).right_flow +ℤ (cell t u).down_flow) -ℤ cond (nat_le 1 u) (cell t (u - 1)).right_flow (pos 0) -ℤ cond (nat_le c u) (cell t (u - c)).down_flow (pos 0)

abbrev pub InDeficit : Tile → ℕ → ℕ → Type 0
InDeficit t c u = remains t c u <ℤ pos 0

abbrev pub InSurplus : Tile → ℕ → ℕ → Type 0
InSurplus t c u = pos 0 <ℤ remains t c u

-- how far a cell is below 0, and how far all cells together
abbrev pub lack : Tile → ℕ → ℕ → ℕ
lack t c u = down (remains t c u)

abbrev pub total_lack : Tile → ℕ → ℕ
total_lack t c = sum_below (length t) (lack t c)

-- a record with more flow on one side
abbrev pub with_more_flow : Side → ℤ → Cell → Cell
with_more_flow Rightward z c = record { reading = c.reading; class = c.class; right = c.right; down = c.down; right_flow = c.right_flow +ℤ z; down_flow = c.down_flow; low = c.low; high = c.high; charge = c.charge; mark = c.mark; rank = c.rank }
with_more_flow Downward z c = record { reading = c.reading; class = c.class; right = c.right; down = c.down; right_flow = c.right_flow; down_flow = c.down_flow +ℤ z; low = c.low; high = c.high; charge = c.charge; mark = c.mark; rank = c.rank }

abbrev pub add_flow : Tile → Side → ℕ → ℤ → Tile
add_flow t d a z = slice_set t a (with_more_flow d z (cell t a))

-- f more out of u in this direction: one flow changes, at the far end of a tie by its negative
abbrev pub pushed : Tile → ℕ → Direction → ℕ → ℤ → Tile
pushed t c Right u f = add_flow t Rightward u f
pushed t c Down u f = add_flow t Downward u f
pushed t c Left u f = add_flow t Rightward (u - 1) (neg_ℤ f)
pushed t c Up u f = add_flow t Downward (u - c) (neg_ℤ f)

-- a record without what a cut writes; and without its mark and rank alone
abbrev pub uncut : Cell → Cell
uncut c = recharged c.charge c

abbrev pub unranked : Cell → Cell
unranked c = record { reading = c.reading; class = c.class; right = c.right; down = c.down; right_flow = c.right_flow; down_flow = c.down_flow; low = c.low; high = c.high; charge = c.charge; mark = 0; rank = 0 }

-- nothing but flows, marks and ranks has changed
pub record SameSurvey (t t' : Tile) : Type 0 where
  pub long : length t' ≡ length t
  pub same : (b : ℕ) → uncut (cell t' b) ≡ uncut (cell t b)

-- nothing but marks and ranks has changed
pub record SameFlows (t t' : Tile) : Type 0 where
  pub long : length t' ≡ length t
  pub same : (b : ℕ) → unranked (cell t' b) ≡ unranked (cell t b)

-- what every step of a cut needs and keeps: bounds, and flows within the weights of live ties
pub record Admissible (c : ℕ) (t : Tile) : Type 0 where
  pub wide : 0 < c
  pub wide_few : c ≤ most_columns
  pub few : length t ≤ most_strip_rows * most_columns
  pub charges : (b : ℕ) → unsigned_abs (cell t b).charge ≤ most_charge
  pub weights : (d : Side) (b : ℕ) → stored_tie (cell t b) d ≤ most_tie
  pub bounded : (d : Side) (b : ℕ) → unsigned_abs (stored_flow (cell t b) d) ≤ stored_tie (cell t b) d
  pub idle : (d : Side) (b : ℕ) → live_pair t b (b + offset c d) ≡ false → stored_flow (cell t b) d ≡ pos 0

-- flow has moved, and no cell is further below 0
pub record Eased (c : ℕ) (t t' : Tile) : Type 0 where
  pub still : SameSurvey t t'
  pub sound : Admissible c t'
  pub less : (b : ℕ) → lack t' c b ≤ lack t c b

-- u has given f to the cell in this direction, or nothing could be given
pub record Sent (c : ℕ) (h : Direction) (u : ℕ) (t t' : Tile) (r : Bool) : Type 0 where
  pub moved : r ≡ true → (f : ℤ) × (pos 0 <ℤ f) × (f ≤ℤ room t c h u) × (f ≤ℤ remains t c (beside c h u)) × (t' ≡ pushed t c h u f)
  pub none : r ≡ false → t' ≡ t
  pub sure : pos 0 <ℤ room t c h u → InSurplus t c (beside c h u) → r ≡ true
  pub eased : Eased c t t'

-- how much can be sent out of u in this direction: the least of what remains of the cell there, of the most that is asked for,
-- and of the room; nothing where that is not above 0
abbrev pub what_fits : Tile → ℕ → Direction → ℕ → ℤ → ℤ
what_fits t c h u most = int_min (int_min (remains t c (beside c h u)) most) (room t c h u)

-- u has given exactly f, if that is above 0, and r tells whether it is; else nothing has changed
pub record Given (c : ℕ) (h : Direction) (u : ℕ) (f : ℤ) (t t' : Tile) (r : Bool) : Type 0 where
  pub told : r ≡ int_lt (pos 0) f
  pub tile : t' ≡ cond r (pushed t c h u f) t

-- deficit cells, and the cells that residual arcs reach from one
pub data Reach (c : ℕ) (t : Tile) : ℕ → Type 0 where
  starts : {u : ℕ} → u < length t → InDeficit t c u → Reach c t u
  goes : {u v : ℕ} (h : Direction) → Reach c t u → pos 0 <ℤ room t c h u → beside c h u ≡ v → Reach c t v

-- a finished cut of a whole list of records, by their sides
pub record Cut (c : ℕ) (t t' : Tile) : Type 0 where
  pub still : SameSurvey t t'
  pub sound : Admissible c t'
  pub bit : (u : ℕ) → u < length t' → (cell t' u).mark ≤ 1
  pub marked : (u : ℕ) → Reach c t' u → (cell t' u).mark ≡ 1
  pub reached : (u : ℕ) → u < length t' → (cell t' u).mark ≡ 1 → Reach c t' u
  pub no_surplus : (u : ℕ) → u < length t' → (cell t' u).mark ≡ 1 → InSurplus t' c u → ⊥
