-- A number entered in the group of a base.
use Rattle.std.specs.Prelude.{◌≡◌, ℕ, List, Option, Some, None, Ok, IsOk}
use Rattle.group_core.specs.declared.entry.CatEntry.TheVariants.{Group}
use Rattle.group_core.specs.declared.group.Rolled.{Rolled}
use Rattle.group_core.specs.Groups.{GroupState, entered, with_entered}
use Rattle.jcl_meaning.specs.Stores.{Store, group_of, with_entry}

-- there is a group, and it refuses the number for no other volume
abbrev pub TakesNumber : Option GroupState → ℕ → List ℕ → Type 0
TakesNumber None number serial = ⊥
TakesNumber (Some g) number serial = IsOk (entered g number serial)

-- what entering it did
abbrev pub EntersNumber : Option GroupState → ℕ → List ℕ → Rolled → Type 0
EntersNumber None number serial rolled = ⊥
EntersNumber (Some g) number serial rolled = entered g number serial ≡ Ok rolled

abbrev pub with_number_by : Option GroupState → Store → List ℕ → ℕ → List ℕ → Store
with_number_by None s base number serial = s
with_number_by (Some g) s base number serial = with_entry s base (Some (Group (with_entered g number serial)))

-- the store with it
abbrev pub with_number : Store → List ℕ → ℕ → List ℕ → Store
with_number s base number serial = with_number_by (group_of s base) s base number serial
