-- Events in columns.
use Rattle.std.specs.Prelude.{ℕ, zero, suc, ◌-◌, ◌/◌, ◌^◌, min}
use Rattle.picture_core.specs.declared.scale.Scale.{Scale}

-- the column of an event, where so many events are in each
abbrev pub column_in : ℕ → ℕ → ℕ
column_in zero event = event
column_in (suc n) event = event / suc n

-- the column behind the last event
abbrev pub last_column : Scale → ℕ
last_column s = min (column_in s.each s.events) (2 ^ 32 - 2)
