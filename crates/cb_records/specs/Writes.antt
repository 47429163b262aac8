-- Fields of a record that can be read and written. (This profile)
use Rattle.std.specs.Prelude.{◌≡◌, ℕ, ◌+◌, ◌≤◌, false, List, length}
use Rattle.cb_meaning.specs.declared.layout.Field.{Field}
use Rattle.cb_meaning.specs.declared.layout.Layout.{Layout}
use Rattle.cb_meaning.specs.declared.layout.TheConstants.{RECORD_BYTES}
use Rattle.cb_meaning.specs.Fields.{byte_at, is_in}

-- a field lies in the record
abbrev pub IsWithin : Field → Type 0
IsWithin f = f.at + f.width ≤ RECORD_BYTES

-- a number has at most four bytes
pub record HoldsNumber (f : Field) : Type 0 where
  pub few : f.width ≤ 4
  pub within : IsWithin f

-- the numbers of a layout can be read and written
pub record FitsRecord (l : Layout) : Type 0 where
  pub link : HoldsNumber l.link
  pub first_step : HoldsNumber l.first_step
  pub steps : HoldsNumber l.steps
  pub next_step : HoldsNumber l.next_step
  pub first_dd : HoldsNumber l.first_dd
  pub dds : HoldsNumber l.dds
  pub next_dd : HoldsNumber l.next_dd
  pub below : HoldsNumber l.below
  pub cards : HoldsNumber l.cards
  pub expiry_kind : HoldsNumber l.expiry_kind
  pub expiry_days : HoldsNumber l.expiry_days
  pub next_cards : HoldsNumber l.next_cards

-- one field of a record changes, and no other byte
pub record ChangesOnly (f : Field) (old new : List ℕ) : Type 0 where
  pub size : length new ≡ length old
  pub others : (k : ℕ) → is_in f k ≡ false → byte_at new k ≡ byte_at old k
