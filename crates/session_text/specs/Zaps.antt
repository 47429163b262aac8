-- The values of a zap as the reading of a text takes them. (This profile)
use Rattle.std.specs.Prelude.{ℕ, ◌-◌, nat_le, List, length, Option, Some, None, if◌then◌else◌}
use Rattle.cb_meaning.specs.declared.layout.TheConstants.{RECORD_BYTES}
use Rattle.session_input.specs.declared.event.TheConstants.{MOST_ZAPPED}

-- the last byte of a record
abbrev pub last_open : ℕ
last_open = RECORD_BYTES - 1

-- bytes that are no more than one zap may write
abbrev pub few_of : Option (List ℕ) → Option (List ℕ)
few_of None = None
few_of (Some bytes) = if nat_le (length bytes) MOST_ZAPPED then Some bytes else None
