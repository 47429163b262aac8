-- Machines of one volume with two initiators, and what follows in them.
use Rattle.std.specs.Prelude.{◌≡◌, ℕ, false, ◌&&◌, List, [], ◌∷◌, map, codes, Option, Some, None, if◌then◌else◌}
use Rattle.std.specs.Str.{bytes_eq}
use Rattle.jname_core.specs.declared.key.Key.TheVariants.{Named}
use Rattle.group_core.specs.declared.entry.CatEntry.{CatEntry}
use Rattle.vtoc_core.specs.declared.entry.SetKey.TheVariants as world
use Rattle.vtoc_core.specs.Entries.{same_key}
use Rattle.jcl_plan.specs.declared.entry.Entry.{Entry}
use Rattle.jcl_plan.specs.declared.plan.AfterAbend.TheVariants as after
use Rattle.jcl_plan.specs.declared.plan.DdKind.TheVariants as kind
use Rattle.jcl_plan.specs.declared.plan.DdPlan.{DdPlan}
use Rattle.jcl_plan.specs.declared.plan.Expiry.TheVariants as expiry
use Rattle.jcl_plan.specs.declared.plan.JobPlan.{JobPlan}
use Rattle.jcl_plan.specs.declared.plan.SetPlan.{SetPlan}
use Rattle.jcl_plan.specs.declared.plan.Status.TheVariants as status
use Rattle.jcl_plan.specs.declared.plan.StepPlan.{StepPlan}
use Rattle.jcl_plan.specs.declared.plan.VolumePlan.TheVariants as volume
use Rattle.jcl_plan.specs.Lines.{entry_text}
use Rattle.jcl_meaning.specs.declared.program.SoloProgram.{SoloProgram}
use Rattle.jcl_meaning.specs.declared.state.KeyMeaning.{KeyMeaning}
use Rattle.jcl_meaning.specs.declared.state.Own.{Own}
use Rattle.jcl_meaning.specs.declared.state.Place.{Place}
use Rattle.jcl_meaning.specs.declared.state.Resolution.TheVariants.{Means}
use Rattle.jcl_meaning.specs.declared.store.DataSet.{DataSet}
use Rattle.jcl_meaning.specs.States.{Fixed}
use Rattle.cb_meaning.specs.declared.layout.Layout.{Layout}
use Rattle.cb_meaning.specs.declared.layout.TheConstants.{LAYOUT_1}
use Rattle.world_meaning.specs.declared.event.Event.{Event}
use Rattle.world_meaning.specs.Lenses.{WorldStore}
use Rattle.world_meaning.specs.Readings.{Denoting}
use Rattle.world_meaning.specs.Transitions.{Transition}
use Rattle.world_meaning.specs.Worlds.{Admitted, Config, Initiator, Running, Shared, Wanting, World}

abbrev pub serial : List ℕ
serial = codes "VOL001"

-- the records of the queue are few here
abbrev pub few_records : Layout
few_records = record LAYOUT_1 { most_records = 8 }

abbrev pub config : List SoloProgram → Config
config programs = record { volumes = serial ∷ []; units = (serial ∷ []) ∷ []; programs = programs; layout = few_records; refuses = false; most_views = 1024; explains = false }

-- jobs
abbrev pub step_with : Option (List ℕ) → List ℕ → List DdPlan → StepPlan
step_with name program dds = record {
  name = name;
  procedure_step = None;
  program = program;
  after_abend = after.Unsaid;
  tests = record { items = [] };
  dds = dds;
}

abbrev pub job_with : List ℕ → List StepPlan → JobPlan
job_with name steps = record { name = name; class = 65; priority = 6; message_class = 65; tests = record { items = [] }; steps = steps }

abbrev pub dd_with : List ℕ → SetPlan → DdPlan
dd_with name p = record { name = Some name; kind = kind.Set p }

abbrev pub shared_set : List ℕ → SetPlan
shared_set name = record {
  key = Named name;
  status = status.Shr;
  normal = None;
  conditional = None;
  volume = volume.NotCoded;
  units = None;
  space = None;
  expiry = expiry.NotCoded;
}

-- stores
abbrev pub set_of : ℕ → List (List ℕ) → DataSet
set_of tracks records = record { tracks = tracks; expires = None; records = records }

abbrev pub store_with : List ℕ → DataSet → (List ℕ → Option CatEntry) → WorldStore
store_with name set catalog = record { set = λ k v. if same_key k (world.Named name) && bytes_eq v serial then Some set else None; catalog = catalog }

-- a job whose records are read, at an initiator
abbrev pub reads : ℕ → JobPlan → Running
reads job plan = record { job = job; listing = []; stage = Wanting plan }

abbrev pub initiator : ℕ → Option Running → Initiator
initiator number running = record { number = number; classes = 65 ∷ []; running = running }

-- a job that is admitted without an analysis, and has done nothing yet
abbrev pub fixed_with : List Place → List KeyMeaning → Fixed
fixed_with places meanings = record { job_tests = []; volumes = serial ∷ []; places = places; meanings = meanings; date = 25567 }

abbrev pub means : ℕ → ℕ → List ℕ → KeyMeaning
means step dd name = record { step = step; dd = dd; means = Means (Named name) }

abbrev pub stands_at : ℕ → JobPlan → Fixed → ℕ → Own → Running
stands_at job plan fixed count own = record { job = job; listing = []; stage = Admitted plan (record { fixed = fixed; assured = false }) count own }

-- the free tracks of the volume
abbrev pub free_tracks : ℕ → List ℕ → ℕ
free_tracks n v = if bytes_eq v serial then n else 0

abbrev pub shared_with : WorldStore → ℕ → Shared
shared_with store free = record {
  store = store;
  free = free_tracks free;
  kept = λ v. [];
  records = record { at = λ n. []; free = 1 ∷ 2 ∷ 3 ∷ 4 ∷ 5 ∷ 6 ∷ 7 ∷ 8 ∷ [] };
  holds = [];
  operations = [];
  cancels = [];
  spool = [];
  date = 25567;
}

abbrev pub machine : List SoloProgram → WorldStore → ℕ → Option Running → Option Running → World
machine programs store free one other = record {
  config = config programs;
  shared = shared_with store free;
  initiators = initiator 1 one ∷ initiator 2 other ∷ [];
  waiting = [];
  jobs = 2;
  events = 4;
}

-- an event, and the lines that it writes
pub record Did : Type 0 where
  pub event : Event
  pub lines : List (List ℕ)

abbrev pub is_silent : Event → Did
is_silent e = record { event = e; lines = [] }

abbrev pub says : Event → List ℕ → Did
says e line = record { event = e; lines = line ∷ [] }

-- they follow one another, and lead to another machine
abbrev pub Reach : Denoting → World → List Did → World → Type 0
Reach job_of w [] end = w ≡ end
Reach job_of w (d ∷ ds) end =
    (lines : List Entry) × (new : World) × Transition job_of w d.event lines new × (map entry_text lines ≡ d.lines) × Reach job_of new ds end

pub record Follow (job_of : Denoting) (w : World) (ds : List Did) : Type 0 where
  pub end : World
  pub reach : Reach job_of w ds end
