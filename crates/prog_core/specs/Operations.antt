-- Operations under way on volumes. (This profile)
use Rattle.std.specs.Prelude.{◌≡◌, ℕ, ◌<◌, Bool, false, not, ◌==◌, List, [], ◌∷◌, length, filter, Option, Some, None, if◌then◌else◌}
use Rattle.std.specs.List.{list_any}
use Rattle.std.specs.Str.{bytes_eq}
use Rattle.prog_core.specs.declared.units.Operation.{Operation}

-- an operation is under way on the volume
abbrev pub is_busy : List Operation → Option (List ℕ) → Bool
is_busy operations None = false
is_busy operations (Some serial) = list_any (λ o. bytes_eq o.serial serial) operations

abbrev pub is_owner : ℕ → Option ℕ → Bool
is_owner job None = false
is_owner job (Some owner) = owner == job

-- the job waits for an operation
abbrev pub has_operation : List Operation → ℕ → Bool
has_operation operations job = list_any (λ o. is_owner job o.owner) operations

-- the operation on the volume is over
abbrev pub without_operation : List Operation → List ℕ → List Operation
without_operation operations serial = filter (λ o. not (bytes_eq o.serial serial)) operations

-- an operation goes on without its owner
abbrev pub without_owner : ℕ → Operation → Operation
without_owner job o = if is_owner job o.owner then record o { owner = None } else o

-- on each volume one operation at most
abbrev pub OneEach : List Operation → Type 0
OneEach [] = Unit {0}
OneEach (o ∷ operations) = (is_busy operations (Some o.serial) ≡ false) × OneEach operations

-- where the volume is free there is room for one more
abbrev pub IsRoomFor : List Operation → List ℕ → Type 0
IsRoomFor operations serial = is_busy operations (Some serial) ≡ false → length operations < 16
