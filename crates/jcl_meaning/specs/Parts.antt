-- What of a store a job can see, and when it sees the same of two stores. (This profile)
use Rattle.std.specs.Prelude.{◌≡◌, ℕ, Bool, true, false, ◌&&◌, List, [], Option, Some, None, if◌then◌else◌}
use Rattle.std.specs.List.{list_any}
use Rattle.std.specs.Str.{bytes_eq}
use Rattle.jname_core.specs.declared.key.Key.{Key}
use Rattle.jname_core.specs.declared.key.Key.TheVariants.{Named, Temporary, Unnamed}
use Rattle.jname_core.specs.Generations.{base_of}
use Rattle.group_core.specs.declared.entry.CatEntry.{CatEntry}
use Rattle.group_core.specs.declared.entry.CatEntry.TheVariants.{Volume, Group}
use Rattle.jcl_meaning.specs.declared.names.HeldName.{HeldName}
use Rattle.jcl_meaning.specs.declared.store.DataSet.{DataSet}
use Rattle.jcl_meaning.specs.Names.{held_under}
use Rattle.jcl_meaning.specs.Stores.{Store}

-- a name is held under one of these, itself or its base
abbrev pub is_among : List HeldName → List ℕ → Bool
is_among names name = list_any (λ h. bytes_eq h.name name) names

abbrev pub is_held_by : Option (List ℕ) → List HeldName → Bool
is_held_by None names = true
is_held_by (Some name) names = is_among names name

-- a key that a job with these names sees: one held under them, or one of its own
abbrev pub sees_key : List HeldName → Key → Bool
sees_key names key = is_held_by (held_under key) names

-- that a name is a group's base, and nothing of its generations
abbrev pub some_group : CatEntry
some_group = Group (record { limit = 0; scratch = false; generations = [] })

-- What it sees of a name's entry. A name is held under its base, which is the name itself where it is no generation. A volume is seen
-- where the base is held; a group is seen whole where its own name is held, and else, where the base is, only that it is one.
abbrev pub seen_entry : List HeldName → List ℕ → Option CatEntry → Option CatEntry
seen_entry names name None = None
seen_entry names name (Some (Volume serial)) = if is_among names (base_of name) then Some (Volume serial) else None
seen_entry names name (Some (Group g)) =
    if is_among names name then Some (Group g) else (if is_among names (base_of name) then Some some_group else None)

-- the part of a store under names: the sets of those names on any volume, their entries, and the job's own sets
abbrev pub part_of : List HeldName → Store → Store
part_of names s = record {
  set = λ key serial. if sees_key names key then s.set key serial else None;
  catalog = λ name. seen_entry names name (s.catalog name);
}

-- a name is held alone
abbrev pub is_alone : List HeldName → List ℕ → Bool
is_alone names name = list_any (λ h. h.exclusive && bytes_eq h.name name) names

-- What is the same of a set in two stores of equal parts: all of one whose name is held alone, and of one that others may share all but its
-- tracks, which another job may cut down (RLSE) and no job reads.
abbrev pub but_for_tracks : Option DataSet → Option DataSet
but_for_tracks None = None
but_for_tracks (Some set) = Some (record set { tracks = 0 })

abbrev pub compared : List HeldName → List ℕ → Option DataSet → Option DataSet
compared names name there = if is_alone names (base_of name) then there else but_for_tracks there

-- equal parts under names, but for the tracks of shared sets
pub record SamePart (names : List HeldName) (s t : Store) : Type 0 where
  pub named : (name serial : List ℕ) → is_among names (base_of name) ≡ true →
      compared names name (s.set (Named name) serial) ≡ compared names name (t.set (Named name) serial)
  pub temporary : (name serial : List ℕ) → s.set (Temporary name) serial ≡ t.set (Temporary name) serial
  pub unnamed : (step dd : ℕ) (serial : List ℕ) → s.set (Unnamed step dd) serial ≡ t.set (Unnamed step dd) serial
  pub catalog : (name : List ℕ) → seen_entry names name (s.catalog name) ≡ seen_entry names name (t.catalog name)
