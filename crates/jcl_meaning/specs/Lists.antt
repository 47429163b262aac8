-- The store's lists: which entry is at a place, and a list without those.
use Rattle.std.specs.Prelude.{ℕ, Bool, not, ◌&&◌, List, filter, Option, Some, None}
use Rattle.std.specs.Borrow.{Bor}
use Rattle.std.specs.Str.{bytes_eq}
use Rattle.jname_core.specs.declared.key.Key.{Key}
use Rattle.group_core.specs.Entries.{Member}
use Rattle.group_core.specs.Groups.{GroupState}
use Rattle.jcl_meaning.specs.declared.store.SoloEntry.{SoloEntry}
use Rattle.jcl_meaning.specs.declared.store.SoloSet.{SoloSet}
use Rattle.jcl_meaning.specs.Names.{same_key}

abbrev pub is_at : Key → List ℕ → SoloSet → Bool
is_at key serial x = same_key key x.key && bytes_eq serial x.serial

abbrev pub is_of : List ℕ → SoloEntry → Bool
is_of name x = bytes_eq name x.name

abbrev pub without_sets : List SoloSet → Key → List ℕ → List SoloSet
without_sets sets key serial = filter (λ x. not (is_at key serial x)) sets

abbrev pub without_entries : List SoloEntry → List ℕ → List SoloEntry
without_entries entries name = filter (λ x. not (is_of name x)) entries

-- a member by what a reference points to
abbrev pub member_copied : Option (ℕ × Bor GroupState) → Option Member
member_copied None = None
member_copied (Some m) = Some (m.0, m.1.now)
