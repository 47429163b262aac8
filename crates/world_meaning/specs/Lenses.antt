-- The store of all jobs, and what one job sees of it: its own temporary and unnamed sets stand there under its number.
use Rattle.std.specs.Prelude.{ℕ, ◌==◌, ◌&&◌, List, Option, Some, None, if◌then◌else◌}
use Rattle.std.specs.Str.{bytes_eq}
use Rattle.jname_core.specs.declared.key.Key.{Key}
use Rattle.jname_core.specs.declared.key.Key.TheVariants as key
use Rattle.group_core.specs.declared.entry.CatEntry.{CatEntry}
use Rattle.vtoc_core.specs.declared.entry.SetKey.{SetKey}
use Rattle.vtoc_core.specs.declared.entry.SetKey.TheVariants as world
use Rattle.vtoc_core.specs.Entries.{same_key}
use Rattle.jcl_meaning.specs.declared.store.DataSet.{DataSet}
use Rattle.jcl_meaning.specs.Stores.{Store}

-- the sets of all jobs, each by its key and the serial of its volume, and what the catalog has for a name
pub record WorldStore : Type 0 where
  pub set : SetKey → List ℕ → Option DataSet
  pub catalog : List ℕ → Option CatEntry

-- what stands for a job under a key; a relative number names nothing until it is resolved
abbrev pub seen_set : ℕ → WorldStore → Key → List ℕ → Option DataSet
seen_set job w (key.Named name) serial = w.set (world.Named name) serial
seen_set job w (key.Relative base sign amount) serial = None
seen_set job w (key.Temporary name) serial = w.set (world.Temporary job name) serial
seen_set job w (key.Unnamed step dd) serial = w.set (world.Unnamed job step dd) serial

-- the store as a job sees it
abbrev pub seen : ℕ → WorldStore → Store
seen job w = record { set = λ k serial. seen_set job w k serial; catalog = w.catalog }

-- what stands under a key of the world once a job's store is this
abbrev pub written_set : ℕ → WorldStore → Store → SetKey → List ℕ → Option DataSet
written_set job w s (world.Named name) serial = s.set (key.Named name) serial
written_set job w s (world.Temporary owner name) serial =
    if owner == job then s.set (key.Temporary name) serial else w.set (world.Temporary owner name) serial
written_set job w s (world.Unnamed owner step dd) serial =
    if owner == job then s.set (key.Unnamed step dd) serial else w.set (world.Unnamed owner step dd) serial

-- the store of all jobs, with what a job did to what it sees
abbrev pub put_back : ℕ → WorldStore → Store → WorldStore
put_back job w s = record { set = λ k serial. written_set job w s k serial; catalog = s.catalog }

-- the key in the store of all jobs under which a job's key stands
abbrev pub world_key : ℕ → Key → Option SetKey
world_key job (key.Named name) = Some (world.Named name)
world_key job (key.Relative base sign amount) = None
world_key job (key.Temporary name) = Some (world.Temporary job name)
world_key job (key.Unnamed step dd) = Some (world.Unnamed job step dd)

-- the store of all jobs with this at a place, or nothing there
abbrev pub with_world_set : WorldStore → SetKey → List ℕ → Option DataSet → WorldStore
with_world_set w k serial there = record {
  set = λ other v. if same_key other k && bytes_eq v serial then there else w.set other v;
  catalog = w.catalog;
}
