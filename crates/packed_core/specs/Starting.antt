-- A row without bits.
use Rattle.std.specs.Prelude.{◌≡◌, ℕ, List, slice_index_or}
use Rattle.packed_core.specs.declared.room.Room.{Room}
use Rattle.packed_core.specs.Words.{IsRow}

pub record IsBlank (room : Room) (row : List ℕ) : Type 0 where
  pub packed : IsRow room row
  pub zeros : (j : ℕ) → slice_index_or row j 0 ≡ 0
