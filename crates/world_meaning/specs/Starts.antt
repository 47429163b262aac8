-- The machine of a configuration, before its first event.
use Rattle.std.specs.Prelude.{◌≡◌, ℕ, ◌<◌, ◌≤◌, ◌==◌, true, false, List, [], ◌∷◌, length, map, None, All}
use Rattle.std.specs.List.{list_any}
use Rattle.jcl_meaning.specs.WellFormed.{AreWellFormedPrograms}
use Rattle.vtoc_core.specs.declared.entry.SetKey.TheVariants as world
use Rattle.cb_meaning.specs.declared.layout.TheConstants.{RECORD_BYTES}
use Rattle.cb_meaning.specs.Spelled.{Records, jct}
use Rattle.cb_meaning.specs.Walks.{is_free, kind_of, owner_of}
use Rattle.world_meaning.specs.Lenses.{WorldStore}
use Rattle.world_meaning.specs.Records.{IsQueueLayout}
use Rattle.world_meaning.specs.Worlds.{Config, Shared, Waiting, World}
use Rattle.jcl_meaning.specs.WellFormed.{IsEntry}
use Rattle.plain.specs.Lists.{Differ, are_different}

-- entries stand under names, and no job has a set of its own yet
pub record IsWellFormed (w : WorldStore) : Type 0 where
  pub entries : (name : List ℕ) → IsEntry name (w.catalog name)
  pub no_temporary : (job : ℕ) (name serial : List ℕ) → w.set (world.Temporary job name) serial ≡ None
  pub no_unnamed : (job step dd : ℕ) (serial : List ℕ) → w.set (world.Unnamed job step dd) serial ≡ None

-- nothing is selected, held, kept, under way or spooled
pub record IsUnused (s : Shared) : Type 0 where
  pub kept : (serial : List ℕ) → s.kept serial ≡ []
  pub holds : s.holds ≡ []
  pub operations : s.operations ≡ []
  pub cancels : s.cancels ≡ []
  pub spool : s.spool ≡ []

-- the records in use are those of the jobs that wait
pub record AreOfWaiting (c : Config) (q : Records) (waiting : List Waiting) : Type 0 where
  pub once : are_different q.free ≡ true
  pub within : All (λ n. (1 ≤ n) × (n ≤ c.layout.most_records)) q.free
  pub sizes : (n : ℕ) → is_free q n ≡ false → length (q.at n) ≡ RECORD_BYTES
  pub owned : (n : ℕ) → 1 ≤ n → n ≤ c.layout.most_records → is_free q n ≡ false → list_any (λ w. w.job == owner_of q n) waiting ≡ true

-- A job that waits at the start has a JCT that is in use and its own. What its records denote is read at its selection.
pub record IsQueued (c : Config) (q : Records) (w : Waiting) : Type 0 where
  pub within : (1 ≤ w.first) × (w.first ≤ c.layout.most_records)
  pub used : is_free q w.first ≡ false
  pub kind : kind_of q w.first ≡ jct
  pub owner : owner_of q w.first ≡ w.job

abbrev pub AreInOrder : ℕ → List Waiting → Type 0
AreInOrder last [] = Unit {0}
AreInOrder last (w ∷ ws) = (last < w.job) × AreInOrder w.job ws

-- Serials, and numbers of initiators, are each given once.
pub record IsStart (w : World) : Type 0 where
  pub layout : IsQueueLayout w.config.layout
  pub serials : Differ w.config.volumes
  pub programs : AreWellFormedPrograms w.config.programs
  pub store : IsWellFormed w.shared.store
  pub unused : IsUnused w.shared
  pub records : AreOfWaiting w.config w.shared.records w.waiting
  pub waiting : All (IsQueued w.config w.shared.records) w.waiting
  pub in_order : AreInOrder 0 w.waiting
  pub numbered : All (λ x. x.job ≤ w.jobs) w.waiting
  pub initiators : Differ (map (λ x. x.number) w.initiators)
  pub idle : All (λ x. x.running ≡ None) w.initiators
  pub first_event : w.events ≡ 0
