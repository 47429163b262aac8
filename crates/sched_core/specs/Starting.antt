-- The machine of a configuration, before its first event.
use Rattle.std.specs.Prelude.{◌≡◌, ℕ, ◌<◌, Bool, List, [], ◌∷◌, All, map}
use Rattle.cb_chain.specs.Written.{HasDays, HoldsJobs}
use Rattle.cb_meaning.specs.declared.layout.Layout.{Layout}
use Rattle.config_core.specs.Configs.{Configuration, unit_names}
use Rattle.cb_queue.specs.RecordQueues.{RecordQueue, shown}
use Rattle.config_core.specs.declared.start.Fixed.{Fixed}
use Rattle.shared_core.specs.declared.store.SharedStore.{SharedStore}
use Rattle.config_core.specs.Configured.{IsConfigured}
use Rattle.config_core.specs.Starts.{IsTakenApart, start_of, start_with}
use Rattle.jcl_refs.specs.Plans.{most_steps}
use Rattle.world_meaning.specs.Records.{IsQueueLayout}
use Rattle.queue_core.specs.declared.queue.Queued.{Queued}
use Rattle.queued_job.specs.declared.backlog.Listing.{Listing}
use Rattle.world_meaning.specs.Starts.{IsStart}
use Rattle.world_meaning.specs.Worlds.{Waiting, World}
use Rattle.sched_core.specs.Systems.{Machine, world_of}
use Rattle.sched_core.specs.declared.start.TheConstants.{FIRST_DAY}

-- the jobs of decks can be written and read in records of this layout, and its links lie apart from all else
pub record IsForMachine (l : Layout) : Type 0 where
  pub holds : HoldsJobs l
  pub days : HasDays l
  pub link : IsQueueLayout l
  pub steps : l.most_steps ≡ most_steps

-- It is a start of the machine's definitions, on the first day, with the volumes as they are configured; decks are read with the units and the
-- procedures of the configuration.
pub record IsStarted (c : Configuration) (refuses : Bool) (views : ℕ) (explains : Bool) (l : Layout) (m : Machine) : Type 0 where
  pub is_start : IsStart (start_of c refuses views explains l FIRST_DAY)
  pub world : world_of m ≡ start_of c refuses views explains l FIRST_DAY
  pub unit_names : m.unit_names ≡ unit_names c.units
  pub library : m.library ≡ c.library
  pub volumes : m.parts.store.volumes ≡ c.volumes

-- numbers, each less than those behind it
abbrev pub AreRising : List ℕ → Type 0
AreRising [] = Unit {0}
AreRising (n ∷ ns) = All (λ m. n < m) ns × AreRising ns

-- a job of the queue, of which nothing was written yet
abbrev pub waiting_at_start : Queued → Waiting
waiting_at_start x = record { job = x.job; class = x.class; priority = x.priority; first = x.jct; listing = [] }

abbrev pub no_lines : ℕ → Listing
no_lines job = record { job = job; lines = [] }

-- the machine before its first event with a queue, whose jobs wait; so many job numbers were given
abbrev pub start_in : Configuration → Bool → ℕ → Bool → RecordQueue → ℕ → World
start_in c refuses views explains q last =
    start_with c refuses views explains q.layout FIRST_DAY (shown q) (map waiting_at_start q.waiting) last

-- so of each configuration that was taken apart into this store and what is fixed
abbrev pub OfEachTakenApart : SharedStore → Fixed → (Configuration → Type 0) → Type 0
OfEachTakenApart store fixed Of = (c : Configuration) → IsConfigured c → IsTakenApart c store fixed → Of c

-- It is such a start; and the volumes, the units and the procedures are those of the configuration.
pub record IsOpened (c : Configuration) (refuses : Bool) (views : ℕ) (explains : Bool) (q : RecordQueue) (last : ℕ) (m : Machine) : Type 0 where
  pub is_start : IsStart (start_in c refuses views explains q last)
  pub world : world_of m ≡ start_in c refuses views explains q last
  pub unit_names : m.unit_names ≡ unit_names c.units
  pub library : m.library ≡ c.library
  pub volumes : m.parts.store.volumes ≡ c.volumes
