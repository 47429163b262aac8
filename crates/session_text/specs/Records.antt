-- Records as lines spell them. (This profile)
use Rattle.std.specs.Prelude.{ℕ, ◌-◌, Bool, not, ◌||◌, nat_lt, List, ◌++◌, length, replicate, Option, Some, None, if◌then◌else◌}
use Rattle.std.specs.List.{list_any}
use Rattle.jname_core.specs.Characters.{is_between}

-- at most 80 bytes, each 20 to 7E, hexadecimal
abbrev pub is_no_record : List ℕ → Bool
is_no_record line = nat_lt 80 (length line) || list_any (λ b. not (is_between 32 126 b)) line

-- a record is filled with blanks to 80 columns
abbrev pub filled : List ℕ → List ℕ
filled line = line ++ replicate (80 - length line) 32

abbrev pub record_in : List ℕ → Option (List ℕ)
record_in line = if is_no_record line then None else Some (filled line)
