-- The machine of a configuration, before its first event, and the run that its steps are.
use Rattle.std.proofs.Common.{Global, ◌≡◌, ℕ, Bool, List, [], ◌∷◌, map, None, refl, ap, subst, ◌∙◌}
use Rattle.cb_meaning.specs.declared.layout.TheConstants.{QUEUE_LAYOUT}
use Rattle.cb_queue.specs.RecordQueues.{RecordQueue, empty_queue}
use Rattle.config_core.specs.Configs.{Configuration, unit_names}
use Rattle.config_core.specs.Configured.{IsConfigured}
use Rattle.config_core.proofs.Starting.{nothing_on}
use Rattle.config_core.specs.Starts.{StartsOfConfigurations, idle, start_config, start_of}
use Rattle.cb_queue.proofs.Changing.{sound_empty}
use Rattle.cb_read.proofs.Sound.{all_records}
use Rattle.session_input.specs.declared.event.Event.{Event}
use Rattle.jcl_job.specs.Jobs.{job_of}
use Rattle.jcl_plan.specs.declared.entry.Entry.{Entry}
use Rattle.machine_meaning.specs.declared.config.ConfiguredInitiator.{ConfiguredInitiator}
use Rattle.shared_core.proofs.Showing.{nothing_shown}
use Rattle.shared_core.specs.Shown.{mounted_in}
use Rattle.shared_core.specs.Tracks.{kept_shown}
use Rattle.sched_core.specs.Machines.{shown_initiator}
use Rattle.sched_core.specs.Starting.{IsForMachine, IsStarted}
use Rattle.sched_core.specs.Promised.{ChainsAreRuns}
use Rattle.sched_core.specs.Systems.{Drives, IsWhole, Machine, denoting, meant_by, world_of}
use Rattle.sched_core.specs.declared.start.TheConstants.{FIRST_DAY}
use Rattle.sched_core.specs.declared.state.Initiator.{Initiator}
use Rattle.session_text.specs.declared.statement.Statement.{Statement}
use Rattle.world_meaning.specs.Transitions.{Runs}
use Rattle.world_meaning.specs.Worlds.{Config, World}
use Rattle.session_core.specs.Running.{choice_of, options_in}
use Rattle.session_core.specs.Sessions.{configuration_of, denoting_in, denoting_of, is_refusal, refuses_in, world_at_start}
use Rattle.run_options.specs.declared.Options.{Options}
use Rattle.run_options.specs.declared.RiskChoice.{RiskChoice}
use Rattle.run_options.specs.declared.RiskChoice.TheVariants as risk

abbrev pub IsFirst : Options → Configuration → Machine → Type 0
IsFirst o c first = IsStarted c (refuses_in o) o.views o.explains QUEUE_LAYOUT first

abbrev without_job : ConfiguredInitiator → Initiator
without_job x = record { number = x.number; classes = x.classes; running = None }

idle_shown : (c : Config) (queue : RecordQueue) (xs : List ConfiguredInitiator) → map (shown_initiator c queue) (map without_job xs) ≡ map idle xs
idle_shown c queue [] = refl
idle_shown c queue (x ∷ xs) = ap (λ ys. idle x ∷ ys) (idle_shown c queue xs)

-- all allocators are one
allocator : Global
allocator = record { memory = record { seal = tt } }

abbrev begun : Bool → ℕ → Bool → Configuration → Machine
begun refuses views explains c = record {
  config = start_config c refuses views explains QUEUE_LAYOUT;
  unit_names = unit_names c.units;
  library = c.library;
  parts = record {
    store = record { alloc = allocator; catalog = c.catalog; volumes = c.volumes };
    queue = empty_queue QUEUE_LAYOUT;
    names = [];
    units = [];
    cancels = [];
    spool = [];
    date = FIRST_DAY;
  };
  initiators = map without_job c.initiators;
  backlog = [];
  jobs = 0;
  events = 0;
}

-- on volumes as they are configured no tracks are kept
nothing_kept : (c : Configuration) → IsConfigured c → (serial : List ℕ) → kept_shown c.volumes serial ≡ []
nothing_kept c k serial = nothing_shown (mounted_in c.volumes serial) (nothing_on c.volumes k.kept serial)

begun_so : StartsOfConfigurations → IsForMachine QUEUE_LAYOUT → (refuses : Bool) (views : ℕ) (explains : Bool) (c : Configuration) → IsConfigured c →
    IsStarted c refuses views explains QUEUE_LAYOUT (begun refuses views explains c)
begun_so law for_machine refuses views explains c k = record {
  is_start = law c refuses views explains FIRST_DAY QUEUE_LAYOUT k for_machine.link;
  world = λ i. record (start_of c refuses views explains QUEUE_LAYOUT FIRST_DAY) {
    shared = record (start_of c refuses views explains QUEUE_LAYOUT FIRST_DAY).shared { kept = λ serial. nothing_kept c k serial i };
    initiators = idle_shown (start_config c refuses views explains QUEUE_LAYOUT) (empty_queue QUEUE_LAYOUT) c.initiators i;
  };
  unit_names = refl;
  library = refl;
  volumes = refl;
}

begun_whole : IsForMachine QUEUE_LAYOUT → (refuses : Bool) (views : ℕ) (explains : Bool) (c : Configuration) → IsConfigured c → IsWhole (begun refuses views explains c)
begun_whole for_machine refuses views explains c k = record {
  serials = refl;
  laid_out = k.laid_out;
  records = all_records (empty_queue QUEUE_LAYOUT) (sound_empty QUEUE_LAYOUT for_machine.holds.own_link);
}

pub machine_begun : StartsOfConfigurations → IsForMachine QUEUE_LAYOUT → (o : Options) (c : Configuration) → IsConfigured c →
    (first : Machine) × IsFirst o c first × IsWhole first
machine_begun law for_machine o c k = (
  begun (refuses_in o) o.views o.explains c,
  begun_so law for_machine (refuses_in o) o.views o.explains c k,
  begun_whole for_machine (refuses_in o) o.views o.explains c k,
)

-- the options that a machine was started with are those in what is fixed of it
same_choice : (choice : RiskChoice) → choice_of (is_refusal choice) ≡ choice
same_choice risk.Run = refl
same_choice risk.Refuse = refl

pub same_options : (o : Options) (c : Configuration) (first : Machine) → IsFirst o c first → options_in first.config ≡ o
same_options o c first started =
    ap (λ (w : World). options_in w.config) started.world ∙ ap (λ (choice : RiskChoice). record { risk = choice; views = o.views; explains = o.explains }) (same_choice o.risk)

-- a machine that was started so, with an empty queue of the first layout
pub first_of : (o : Options) (c : Configuration) (refuses : Bool) (views : ℕ) (q : RecordQueue) (first : Machine) → refuses ≡ refuses_in o → views ≡ o.views →
    q ≡ empty_queue QUEUE_LAYOUT → IsStarted c refuses views o.explains q.layout first → IsFirst o c first × (options_in first.config ≡ o)
first_of o c refuses views q first chosen viewed empty started =
    let by_choice : IsStarted c (refuses_in o) views o.explains q.layout first = subst (λ (b : Bool). IsStarted c b views o.explains q.layout first) chosen started in
    let by_views : IsStarted c (refuses_in o) o.views o.explains q.layout first = subst (λ (n : ℕ). IsStarted c (refuses_in o) n o.explains q.layout first) viewed by_choice in
    let so : IsFirst o c first = subst (λ (x : RecordQueue). IsStarted c (refuses_in o) o.views o.explains x.layout first) empty by_views in
    (so, same_options o c first so)

denotes : (o : Options) (c : Configuration) (first : Machine) → IsFirst o c first → denoting first ≡ denoting_in c
denotes o c first started = λ i. job_of (started.unit_names i) (started.library i)

-- steps of machine after machine are a run of what was configured
pub configured_run : ChainsAreRuns → (o : Options) (config : List Statement) (first last : Machine) (events : List Event) (entries : List (List Entry)) →
    IsFirst o (configuration_of config) first → Drives first events entries last →
    Runs (denoting_of config) (world_at_start o config) (map meant_by events) entries (world_of last)
configured_run law o config first last events entries started d =
    subst (λ job. Runs job (world_at_start o config) (map meant_by events) entries (world_of last)) (denotes o (configuration_of config) first started)
    (subst (λ w. Runs (denoting first) w (map meant_by events) entries (world_of last)) started.world (law first events entries last d))
