-- What a generation data group means, over its generations, the newest first.
use Rattle.std.specs.Prelude.{ℕ, Bool, ◌+◌, ◌<◌, ◌≤◌, ◌==◌, nat_lt, nat_le, List, [], ◌∷◌, length, Option, Some, None, Result, Ok, Err, slice_get, if◌then◌else◌, ◌≡◌}
use Rattle.std.specs.Str.{bytes_eq}
use Rattle.jname_core.specs.declared.key.Sign.{Sign}
use Rattle.jname_core.specs.declared.key.Sign.TheVariants.{Plus, Minus}
use Rattle.group_core.specs.declared.group.Generation.{Generation}
use Rattle.group_core.specs.declared.group.Rolled.{Rolled}
use Rattle.group_core.specs.declared.group.Rolled.TheVariants.{Entered, Removed, Lowest, Same}
use Rattle.group_core.specs.declared.group.GroupFault.{GroupFault}
use Rattle.group_core.specs.declared.group.GroupFault.TheVariants as fault

pub record GroupState : Type 0 where
  pub limit : ℕ
  pub scratch : Bool
  pub generations : List Generation

-- the numbers fall, from below a bound to above 0
abbrev pub IsFalling : ℕ → List Generation → Type 0
IsFalling bound [] = Unit {0}
IsFalling bound (g ∷ gs) = (g.number < bound) × (0 < g.number) × IsFalling g.number gs

-- the volume of a generation
abbrev pub serial_of : List Generation → ℕ → Option (List ℕ)
serial_of [] number = None
serial_of (g ∷ gs) number = if g.number == number then Some g.serial else serial_of gs number

abbrev pub newest_of : List Generation → ℕ
newest_of [] = 0
newest_of (g ∷ gs) = g.number

abbrev pub number_or_fault : Option Generation → Result ℕ GroupFault
number_or_fault None = Err fault.NoGeneration
number_or_fault (Some g) = Ok g.number

abbrev pub checked : ℕ → Result ℕ GroupFault
checked number = if nat_le number 9999 then Ok number else Err fault.TooHigh

-- 0 and -n stand in the list, the newest at 0; +n lies n after the newest
abbrev pub resolved : List Generation → Sign → ℕ → Result ℕ GroupFault
resolved gs Minus amount = number_or_fault (slice_get gs amount)
resolved gs Plus amount = if amount == 0 then number_or_fault (slice_get gs 0) else checked (newest_of gs + amount)

-- a generation in its place
abbrev pub inserted : Generation → List Generation → List Generation
inserted g [] = g ∷ []
inserted g (h ∷ hs) = if nat_lt h.number g.number then g ∷ h ∷ hs else h ∷ inserted g hs

abbrev pub without : List Generation → ℕ → List Generation
without [] number = []
without (g ∷ gs) number = if g.number == number then gs else g ∷ without gs number

abbrev pub lowest_of : List Generation → Option Generation
lowest_of [] = None
lowest_of (g ∷ []) = Some g
lowest_of (g ∷ h ∷ hs) = lowest_of (h ∷ hs)

-- a number that is there already
abbrev pub entered_again : List ℕ → List ℕ → Result Rolled GroupFault
entered_again there serial = if bytes_eq there serial then Ok Same else Err fault.Elsewhere

-- a new number in a full group
abbrev pub rolled_off : Option Generation → ℕ → Rolled
rolled_off None number = Lowest
rolled_off (Some low) number = if nat_lt number low.number then Lowest else Removed low.number low.serial

abbrev pub entered_by : Option (List ℕ) → GroupState → ℕ → List ℕ → Result Rolled GroupFault
entered_by (Some there) g number serial = entered_again there serial
entered_by None g number serial =
    if nat_lt (length g.generations) g.limit then Ok Entered else Ok (rolled_off (lowest_of g.generations) number)

-- what entering a generation answers
abbrev pub entered : GroupState → ℕ → List ℕ → Result Rolled GroupFault
entered g number serial = entered_by (serial_of g.generations number) g number serial

-- and what it leaves
abbrev pub left_by : Result Rolled GroupFault → GroupState → Generation → GroupState
left_by (Ok Entered) g new = record g { generations = inserted new g.generations }
left_by (Ok (Removed low serial)) g new = record g { generations = inserted new (without g.generations low) }
left_by (Ok Lowest) g new = g
left_by (Ok Same) g new = g
left_by (Err f) g new = g

abbrev pub with_entered : GroupState → ℕ → List ℕ → GroupState
with_entered g number serial = left_by (entered g number serial) g (record { number = number; serial = serial })

-- a number that was removed is one of a generation
abbrev pub RollsInRange : Rolled → Type 0
RollsInRange Entered = Unit {0}
RollsInRange (Removed low serial) = (0 < low) × (low ≤ 9999)
RollsInRange Lowest = Unit {0}
RollsInRange Same = Unit {0}

-- the lowest generation is gone, and a new one in its place
abbrev pub IsRolled : List Generation → Generation → List Generation → Type 0
IsRolled old added new = (low : Generation) → lowest_of old ≡ Some low → new ≡ inserted added (without old low.number)

-- there is no generation of a number
abbrev pub LacksGeneration : List Generation → ℕ → GroupFault → Type 0
LacksGeneration generations number told = (told ≡ fault.NoGeneration) × (serial_of generations number ≡ None)
