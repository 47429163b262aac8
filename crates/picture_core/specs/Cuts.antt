-- Runs that are cut into columns.
use Rattle.std.specs.Prelude.{◌<◌, ◌≤◌, ◌+◌, ◌^◌, IfSome, length}
use Rattle.picture_core.specs.declared.cut.Cutter.{Cutter}

-- No more pieces are drawn than there are columns before the first free one, and that is at most the one behind the last. Short runs
-- wait for a column that is free.
pub record IsCut (c : Cutter) : Type 0 where
  pub few : length c.pieces.items ≤ c.free
  pub within : c.free ≤ c.last + 1
  pub waits : IfSome c.short (λ short. (c.free ≤ short.column) × (short.column ≤ c.last))
  pub bound : c.last + 1 < 2 ^ 32
