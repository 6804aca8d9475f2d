-- The records that a value of flows borrows.
use Rattle.std.specs.Prelude.{◌≡◌}
use Rattle.flow.specs.declared.flows.Flows.{Flows}

-- the same records are borrowed, in rows of as many columns: `ghost_name` tells one `&mut` from another
pub record SameRows (f f' : Flows) : Type 0 where
  pub columns : f'.columns ≡ f.columns
  pub lent : f'.tile.ghost_name ≡ f.tile.ghost_name
