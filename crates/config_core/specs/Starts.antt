-- The start of the machine: what it begins with, and what stays fixed, of a configuration.
use Rattle.std.specs.Prelude.{◌≡◌, ℕ, ◌≤◌, Bool, List, [], All, map, None}
use Rattle.std.specs.FinMap as finite
use Rattle.cb_meaning.specs.declared.layout.Layout.{Layout}
use Rattle.cb_meaning.specs.Spelled.{Records}
use Rattle.cb_queue.specs.RecordQueues.{empty_queue, shown}
use Rattle.machine_meaning.specs.declared.config.ConfiguredInitiator.{ConfiguredInitiator}
use Rattle.shared_core.specs.declared.store.SharedStore.{SharedStore}
use Rattle.shared_core.specs.Shown.{mounted_in, set_on}
use Rattle.shared_core.specs.Tracks.{free_on}
use Rattle.world_meaning.specs.Records.{IsQueueLayout}
use Rattle.world_meaning.specs.Starts.{AreInOrder, AreOfWaiting, IsQueued, IsStart}
use Rattle.world_meaning.specs.Worlds.{Config, Initiator, Shared, Waiting, World}
use Rattle.config_core.specs.Configs.{Configuration, unit_volumes}
use Rattle.config_core.specs.Configured.{IsConfigured, serials_of}
use Rattle.config_core.specs.declared.start.Fixed.{Fixed}

-- the store has the catalog and the volumes, and the rest stays as it is
pub record IsTakenApart (c : Configuration) (store : SharedStore) (fixed : Fixed) : Type 0 where
  pub catalog : store.catalog ≡ c.catalog
  pub volumes : store.volumes ≡ c.volumes
  pub serials : fixed.serials ≡ serials_of c.volumes
  pub units : fixed.units ≡ c.units
  pub library : fixed.library ≡ c.library
  pub programs : fixed.programs ≡ c.programs
  pub initiators : fixed.initiators ≡ c.initiators

-- what a configuration fixes, with whether jobs that may fail are refused, the limit of views, whether a risk's path is shown, and the layout of the
-- queue's records
abbrev pub start_config : Configuration → Bool → ℕ → Bool → Layout → Config
start_config c refuses views explains l = record {
  volumes = serials_of c.volumes;
  units = unit_volumes c.units;
  programs = c.programs;
  layout = l;
  refuses = refuses;
  most_views = views;
  explains = explains;
}

-- its sets, catalog and free tracks; these are the records, and nothing is kept, held, under way, cancelled or spooled
abbrev pub start_shared : Configuration → Records → ℕ → Shared
start_shared c q date = record {
  store = record { set = λ k serial. set_on (mounted_in c.volumes serial) k; catalog = λ name. finite.get c.catalog name };
  free = λ serial. free_on c.volumes serial;
  kept = λ serial. [];
  records = q;
  holds = [];
  operations = [];
  cancels = [];
  spool = [];
  date = date;
}

abbrev pub idle : ConfiguredInitiator → Initiator
idle x = record { number = x.number; classes = x.classes; running = None }

-- the machine before its first event, with jobs that wait in these records; so many job numbers were given
abbrev pub start_with : Configuration → Bool → ℕ → Bool → Layout → ℕ → Records → List Waiting → ℕ → World
start_with c refuses views explains l date q waiting jobs = record {
  config = start_config c refuses views explains l;
  shared = start_shared c q date;
  initiators = map idle c.initiators;
  waiting = waiting;
  jobs = jobs;
  events = 0;
}

-- the machine before its first event, in which all records are free and nobody waits
abbrev pub start_of : Configuration → Bool → ℕ → Bool → Layout → ℕ → World
start_of c refuses views explains l date = start_with c refuses views explains l date (shown (empty_queue l)) [] 0

-- what holds of the jobs that wait at a start, and of their records
pub record WaitAtStart (c : Config) (q : Records) (waiting : List Waiting) (jobs : ℕ) : Type 0 where
  pub records : AreOfWaiting c q waiting
  pub queued : All (IsQueued c q) waiting
  pub in_order : AreInOrder 0 waiting
  pub numbered : All (λ w. w.job ≤ jobs) waiting

-- the start of a configuration is one of the machine's
abbrev pub StartsOfConfigurations : Type 0
StartsOfConfigurations = (c : Configuration) (refuses : Bool) (views : ℕ) (explains : Bool) (date : ℕ) (l : Layout) → IsConfigured c → IsQueueLayout l →
    IsStart (start_of c refuses views explains l date)

-- and so is that with jobs which may wait there
abbrev pub StartsWithJobs : Type 0
StartsWithJobs = (c : Configuration) (refuses : Bool) (views : ℕ) (explains : Bool) (date : ℕ) (l : Layout) (q : Records) (waiting : List Waiting)
    (jobs : ℕ) → IsConfigured c → IsQueueLayout l → WaitAtStart (start_config c refuses views explains l) q waiting jobs →
    IsStart (start_with c refuses views explains l date q waiting jobs)
