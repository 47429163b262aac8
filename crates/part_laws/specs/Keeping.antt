-- What a job changes of the store, and what another sees of it.
use Rattle.std.specs.Prelude.{◌≡◌, ℕ, true, false, List, IsTrue, Some, is_some}
use Rattle.std.specs.List.{list_all}
use Rattle.jname_core.specs.declared.key.Key.TheVariants.{Named}
use Rattle.jname_core.specs.Generations.{base_of}
use Rattle.group_core.specs.declared.entry.CatEntry.TheVariants.{Group}
use Rattle.group_core.specs.Entries.{volume_in}
use Rattle.group_core.specs.Groups.{GroupState, IsFalling}
use Rattle.jcl_meaning.specs.declared.names.HeldName.{HeldName}
use Rattle.jcl_meaning.specs.Names.{agree}
use Rattle.jcl_meaning.specs.Parts.{but_for_tracks, compared, is_alone, is_among, seen_entry}
use Rattle.jcl_meaning.specs.Stores.{Store, group_of}

-- the numbers of each group are 1 to 9999 and fall
abbrev pub HasSoundGroups : Store → Type 0
HasSoundGroups s = (base : List ℕ) (g : GroupState) → s.catalog base ≡ Some (Group g) → IsFalling 10000 g.generations

-- What a job with these names may change from one store to the next. A named set stays as it is where its name is not held, and where the
-- name is not held alone all but its tracks does. The volume of a name stays where its base is not held alone, and a group where its own
-- name is not. No group comes or goes.
pub record StaysWithin (names : List HeldName) (s t : Store) : Type 0 where
  pub unheld : (name serial : List ℕ) → is_among names (base_of name) ≡ false → s.set (Named name) serial ≡ t.set (Named name) serial
  pub shared : (name serial : List ℕ) → is_alone names (base_of name) ≡ false →
      but_for_tracks (s.set (Named name) serial) ≡ but_for_tracks (t.set (Named name) serial)
  pub volumes : (name : List ℕ) → is_alone names (base_of name) ≡ false → volume_in (s.catalog name) ≡ volume_in (t.catalog name)
  pub groups : (name : List ℕ) → is_alone names name ≡ false → group_of s name ≡ group_of t name
  pub bases : (name : List ℕ) → is_some (group_of s name) ≡ is_some (group_of t name)

-- What a job with these names sees of named sets and of the catalog is the same in both: the part of it beside the sets of its own.
pub record SameNamed (names : List HeldName) (s t : Store) : Type 0 where
  pub named : (name serial : List ℕ) → is_among names (base_of name) ≡ true →
      compared names name (s.set (Named name) serial) ≡ compared names name (t.set (Named name) serial)
  pub catalog : (name : List ℕ) → seen_entry names name (s.catalog name) ≡ seen_entry names name (t.catalog name)

-- Each name of both lists is shared in both: where they are the names of two jobs, the jobs are compatible.
abbrev pub AreCompatible : List HeldName → List HeldName → Type 0
AreCompatible names others = IsTrue (list_all (λ a. list_all (agree a) others) names)
