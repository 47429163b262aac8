-- What a catalog says of a name, by what it has for the name and for the name's base.
use Rattle.std.specs.Prelude.{ℕ, zero, suc, List, Option, Some, None}
use Rattle.group_core.specs.declared.entry.CatEntry.{CatEntry}
use Rattle.group_core.specs.declared.entry.CatEntry.TheVariants.{Volume, Group}
use Rattle.group_core.specs.Groups.{GroupState, serial_of}

abbrev pub volume_in : Option CatEntry → Option (List ℕ)
volume_in None = None
volume_in (Some (Volume serial)) = Some serial
volume_in (Some (Group g)) = None

abbrev pub group_in : Option CatEntry → Option GroupState
group_in None = None
group_in (Some (Volume serial)) = None
group_in (Some (Group g)) = Some g

-- a number in a group: where the name has the form of a generation, not of number 0, and its base is a group
abbrev pub Member : Type 0
Member = ℕ × GroupState

abbrev pub member_by : Option ℕ → Option GroupState → Option Member
member_by (Some (suc n)) (Some g) = Some (suc n, g)
member_by (Some (suc n)) None = None
member_by (Some zero) g = None
member_by None g = None

-- the volume of a name: its number's in the group, else that of its own entry
abbrev pub found_by : Option Member → Option CatEntry → Option (List ℕ)
found_by (Some m) entry = serial_of m.1.generations m.0
found_by None entry = volume_in entry
