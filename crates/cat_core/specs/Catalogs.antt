-- What the catalog holds: a finite map from names to a volume or a group, and what each call means over it.
use Rattle.std.specs.Prelude.{◌≡◌, ℕ, Bool, true, false, ◌&&◌, List, [], Option, Some, None, Result, Ok, Err, is_some, IsOk, if◌then◌else◌}
use Rattle.std.specs.BTreeMap.{is_at}
use Rattle.std.specs.BTreeMap.Range.{range_contains}
use Rattle.std.specs.List.{list_any}
use Rattle.std.specs.Map.{lookup}
use Rattle.std.specs.Str.{bytes_eq}
use Rattle.std.specs.Coded.{Coded, coded_list, coded_ℕ}
use Rattle.std.specs.FinMap.{FinMap, code, entries, from_entries, get, insert, remove}
use Rattle.std.specs.Ordering.{nat_cmp}
use Rattle.std.specs.declared.cmp.Ordering.{Ordering}
use Rattle.std.specs.declared.ops.Bound.{Bound}
use Rattle.std.specs.Cmp.Lexicographic.{slice_cmp}
use Rattle.jname_core.specs.declared.key.Sign.{Sign}
use Rattle.jname_core.specs.Generations.{base_of, generation_of}
use Rattle.group_core.specs.declared.group.GroupFault.{GroupFault}
use Rattle.group_core.specs.declared.group.GroupFault.TheVariants as refused
use Rattle.group_core.specs.declared.group.Rolled.{Rolled}
use Rattle.group_core.specs.declared.group.Rolled.TheVariants.{Entered}
use Rattle.group_core.specs.Groups.{GroupState, entered, resolved, serial_of, with_entered, without}
use Rattle.group_core.specs.declared.entry.CatEntry.{CatEntry}
use Rattle.group_core.specs.declared.entry.CatEntry.TheVariants.{Volume, Group}
use Rattle.group_core.specs.Entries.{Member, found_by, group_in, member_by, volume_in}
use Rattle.cat_core.specs.Codes.{coded_entry}
use Rattle.cat_core.specs.declared.fault.CatFault.{CatFault}
use Rattle.cat_core.specs.declared.fault.CatFault.TheVariants as fault

-- names in byte order
abbrev pub name_cmp : List ℕ → List ℕ → Ordering
name_cmp = slice_cmp nat_cmp

abbrev pub Contents : Type 0
Contents = FinMap name_cmp CatEntry

abbrev pub contents_of : List (List ℕ × CatEntry) → Contents
contents_of entries = from_entries entries

abbrev pub coded_contents : Coded Contents
coded_contents = code (coded_list coded_ℕ) coded_entry

-- the entry of a name among some in order, and in a catalog where the name lies between two bounds
abbrev pub entry_among : List (List ℕ × CatEntry) → List ℕ → Option CatEntry
entry_among entries name = lookup (is_at (name_cmp name)) entries

abbrev pub entry_within : Bound (List ℕ) → Bound (List ℕ) → Contents → List ℕ → Option CatEntry
entry_within low high c name = if range_contains name_cmp low high name then get c name else None

-- the group of a base
abbrev pub group_of : Contents → List ℕ → Option GroupState
group_of c base = group_in (get c base)

-- a number in the group of a name's base
abbrev pub member_of : Contents → List ℕ → Option Member
member_of c name = member_by (generation_of name) (group_of c (base_of name))

-- the volume entered for a name
abbrev pub found : Contents → List ℕ → Option (List ℕ)
found c name = found_by (member_of c name) (get c name)

-- a name is entered, as a group's base too
abbrev pub is_entered : Contents → List ℕ → Bool
is_entered c name = if is_some (group_of c name) then true else is_some (found c name)

-- a group's refusals in the catalog's words
abbrev pub catalog_fault : GroupFault → CatFault
catalog_fault refused.Elsewhere = fault.There
catalog_fault refused.NoGeneration = fault.NoGeneration
catalog_fault refused.TooHigh = fault.TooHigh

abbrev pub in_catalog : {X : Type 0} → Result X GroupFault → Result X CatFault
in_catalog (Ok x) = Ok x
in_catalog (Err f) = Err (catalog_fault f)

abbrev pub relative_by : Option GroupState → Sign → ℕ → Result ℕ CatFault
relative_by None sign amount = Err fault.NoGroup
relative_by (Some g) sign amount = in_catalog (resolved g.generations sign amount)

abbrev pub relative : Contents → List ℕ → Sign → ℕ → Result ℕ CatFault
relative c base sign amount = relative_by (group_of c base) sign amount

-- entering a generation
abbrev pub generation_entered_by : Option GroupState → ℕ → List ℕ → Result Rolled CatFault
generation_entered_by None number serial = Err fault.NoGroup
generation_entered_by (Some g) number serial = in_catalog (entered g number serial)

abbrev pub generation_entered : Contents → List ℕ → ℕ → List ℕ → Result Rolled CatFault
generation_entered c base number serial = generation_entered_by (group_of c base) number serial

abbrev pub with_generation_by : Option GroupState → Contents → List ℕ → ℕ → List ℕ → Contents
with_generation_by None c base number serial = c
with_generation_by (Some g) c base number serial = insert c base (Group (with_entered g number serial))

abbrev pub with_generation : Contents → List ℕ → ℕ → List ℕ → Contents
with_generation c base number serial = with_generation_by (group_of c base) c base number serial

-- and the entry that has the group
abbrev pub entry_with : CatEntry → ℕ → List ℕ → CatEntry
entry_with (Volume there) number serial = Volume there
entry_with (Group g) number serial = Group (with_entered g number serial)

-- entering a name: of a group's generation the number
abbrev pub entered_name_by : Option Member → List ℕ → Result Rolled CatFault
entered_name_by (Some m) serial = in_catalog (entered m.1 m.0 serial)
entered_name_by None serial = Ok Entered

abbrev pub entered_name : Contents → List ℕ → List ℕ → Result Rolled CatFault
entered_name c name serial = if is_entered c name then Err fault.There else entered_name_by (member_of c name) serial

abbrev pub with_name_by : Option Member → Contents → List ℕ → List ℕ → Contents
with_name_by (Some m) c name serial = insert c (base_of name) (Group (with_entered m.1 m.0 serial))
with_name_by None c name serial = insert c name (Volume serial)

abbrev pub with_name : Contents → List ℕ → List ℕ → Contents
with_name c name serial = with_name_by (member_of c name) c name serial

-- what is not there is not removed
abbrev pub unless_found : Option (List ℕ) → CatFault → Result (Unit {0}) CatFault
unless_found (Some serial) f = Ok tt
unless_found None f = Err f

-- the number of a generation taken out of its group
abbrev pub without_number_by : Option GroupState → Contents → List ℕ → ℕ → Contents
without_number_by None c base number = c
without_number_by (Some g) c base number = insert c base (Group (record g { generations = without g.generations number }))

abbrev pub without_number : Contents → List ℕ → ℕ → Contents
without_number c base number = without_number_by (group_of c base) c base number

-- and the entry that has the group
abbrev pub entry_without : CatEntry → ℕ → CatEntry
entry_without (Volume there) number = Volume there
entry_without (Group g) number = Group (record g { generations = without g.generations number })

-- removing a name
abbrev pub name_removed_by : Option Member → Option CatEntry → Result (Unit {0}) CatFault
name_removed_by (Some m) entry = unless_found (serial_of m.1.generations m.0) fault.NoGeneration
name_removed_by None entry = unless_found (volume_in entry) fault.NotThere

abbrev pub name_removed : Contents → List ℕ → Result (Unit {0}) CatFault
name_removed c name = name_removed_by (member_of c name) (get c name)

abbrev pub without_name_by : Option Member → Contents → List ℕ → Contents
without_name_by (Some m) c name = insert c (base_of name) (Group (record m.1 { generations = without m.1.generations m.0 }))
without_name_by None c name = remove c name

abbrev pub without_name : Contents → List ℕ → Contents
without_name c name = without_name_by (member_of c name) c name

-- a generation of the base is entered as a plain name; a group whose base has that form is none
abbrev pub is_generation_of : List ℕ → List ℕ → Bool
is_generation_of base name = is_some (generation_of name) && bytes_eq (base_of name) base

abbrev pub is_volume : CatEntry → Bool
is_volume (Volume serial) = true
is_volume (Group g) = false

abbrev pub enters_generation_of : List ℕ → List ℕ × CatEntry → Bool
enters_generation_of base e = is_volume e.1 && is_generation_of base e.0

abbrev pub has_generation_entered : Contents → List ℕ → Bool
has_generation_entered c base = list_any (enters_generation_of base) (entries c)

-- making a group
abbrev pub group_made : Contents → List ℕ → Result (Unit {0}) CatFault
group_made c base =
    if is_entered c base then Err fault.There
    else (if has_generation_entered c base then Err fault.There
    else Ok tt)

abbrev pub with_group : Contents → List ℕ → ℕ → Bool → Contents
with_group c base limit scratch = insert c base (Group (record { limit = limit; scratch = scratch; generations = [] }))

-- an answer is the one denoted; memory may be wanting where that is no refusal
abbrev pub Gives : {X : Type 0} → Result X CatFault → Result X CatFault → Type 0
Gives (Ok x) denoted = denoted ≡ Ok x
Gives (Err fault.Memory) denoted = IsOk denoted
Gives (Err f) denoted = denoted ≡ Err f
