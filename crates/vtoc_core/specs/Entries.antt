-- The table of contents: sets by their keys.
use Rattle.std.specs.Prelude.{◌≡◌, ℕ, Bool, false, ◌&&◌, ◌==◌, List, [], Option, Some, None, if◌then◌else◌}
use Rattle.std.specs.BTreeMap.{is_at}
use Rattle.std.specs.BTreeMap.Range.{range_contains}
use Rattle.std.specs.Cmp.Lexicographic.{slice_cmp}
use Rattle.std.specs.Coded.{Coded}
use Rattle.std.specs.FinMap.{FinMap, code, from_entries, get, insert}
use Rattle.std.specs.Map.{lookup}
use Rattle.std.specs.Ordering.{nat_cmp, ordering_then}
use Rattle.std.specs.Str.{bytes_eq}
use Rattle.std.specs.declared.cmp.Ordering.{Ordering}
use Rattle.std.specs.declared.cmp.Ordering.TheVariants.{Less, Greater}
use Rattle.std.specs.declared.ops.Bound.{Bound}
use Rattle.vtoc_core.specs.Codes.{coded_entry, coded_key}
use Rattle.extent_core.specs.declared.extent.Extent.{Extent}
use Rattle.vtoc_core.specs.declared.entry.SetEntry.{SetEntry}
use Rattle.vtoc_core.specs.declared.entry.SetKey.{SetKey}
use Rattle.vtoc_core.specs.declared.entry.SetKey.TheVariants.{Named, Temporary, Unnamed}

abbrev pub same_key : SetKey → SetKey → Bool
same_key (Named a) (Named b) = bytes_eq a b
same_key (Temporary i a) (Temporary j b) = i == j && bytes_eq a b
same_key (Unnamed i s d) (Unnamed j t e) = i == j && s == t && d == e
same_key _ _ = false

-- names in byte order
abbrev pub name_cmp : List ℕ → List ℕ → Ordering
name_cmp = slice_cmp nat_cmp

-- keys in order: named sets by name, then temporary ones by job and name, then those without a name by job, step and DD
abbrev pub key_cmp : SetKey → SetKey → Ordering
key_cmp (Named a) (Named b) = name_cmp a b
key_cmp (Named a) _ = Less
key_cmp (Temporary i a) (Named b) = Greater
key_cmp (Temporary i a) (Temporary j b) = ordering_then (nat_cmp i j) (name_cmp a b)
key_cmp (Temporary i a) (Unnamed j t e) = Less
key_cmp (Unnamed i s d) (Unnamed j t e) = ordering_then (nat_cmp i j) (ordering_then (nat_cmp s t) (nat_cmp d e))
key_cmp (Unnamed i s d) _ = Greater

-- the sets of a volume
abbrev pub Sets : Type 0
Sets = FinMap key_cmp SetEntry

abbrev pub sets_of : List (SetKey × SetEntry) → Sets
sets_of entries = from_entries entries

abbrev pub coded_sets : Coded Sets
coded_sets = code coded_key coded_entry

-- the set of a key among some in order, and on a volume where the key lies between two bounds
abbrev pub set_among : List (SetKey × SetEntry) → SetKey → Option SetEntry
set_among sets key = lookup (is_at (key_cmp key)) sets

abbrev pub set_within : Bound SetKey → Bound SetKey → Sets → SetKey → Option SetEntry
set_within low high sets key = if range_contains key_cmp low high key then get sets key else None

-- the set of a key, where there is one, is changed
abbrev pub changed_by : Option SetEntry → Sets → SetKey → (SetEntry → SetEntry) → Sets
changed_by None sets key change = sets
changed_by (Some e) sets key change = insert sets key (change e)

abbrev pub changed : Sets → SetKey → (SetEntry → SetEntry) → Sets
changed sets key change = changed_by (get sets key) sets key change

-- with other extents, with other records
abbrev pub with_extents : (List Extent → List Extent) → SetEntry → SetEntry
with_extents f e = record e { extents = record { items = f e.extents.items } }

abbrev pub with_records : (List (List ℕ) → List (List ℕ)) → SetEntry → SetEntry
with_records f e = record e { records = f e.records }

-- a set without a record, or none
abbrev pub LacksRecords : Option SetEntry → Type 0
LacksRecords None = Unit {0}
LacksRecords (Some e) = e.records ≡ []
