-- The machine as its callers see it: the parts' values, and the world that they are.
use Rattle.std.specs.Prelude.{◌≡◌, ℕ, ◌≤◌, List, [], ◌∷◌, map, length, take, Result, Ok, Err}
use Rattle.cb_queue.specs.RecordQueues.{RecordQueue, shown as records_of}
use Rattle.session_input.specs.declared.event.Event.{Event}
use Rattle.session_input.specs.declared.event.Event.TheVariants as input
use Rattle.jcl_job.specs.Jobs.{job_of}
use Rattle.jcl_plan.specs.declared.entry.Entry.{Entry}
use Rattle.jcl_plan.specs.declared.entry.Entry.TheVariants as entry
use Rattle.proc_library.specs.declared.library.LibraryProcedure.{LibraryProcedure}
use Rattle.world_meaning.specs.declared.event.Event as meant
use Rattle.world_meaning.specs.declared.event.Event.TheVariants as event
use Rattle.world_meaning.specs.Readings.{Denoting}
use Rattle.world_meaning.specs.Worlds.{Config, World}
use Rattle.walk_laws.specs.WalkLaws.{AreRecords}
use Rattle.shared_core.specs.LaidOut.{VolumesAreLaidOut}
use Rattle.place_core.specs.Placings.{serials_of}
use Rattle.init_core.specs.Extents.{ExtentsFollow}
use Rattle.queued_job.specs.Listed.{waiting_in}
use Rattle.queued_job.specs.declared.backlog.Listing.{Listing}
use Rattle.machine_core.specs.Shown.{shown}
use Rattle.machine_core.specs.declared.parts.Parts.{Parts}
use Rattle.init_core.specs.declared.running.Profile.{Profile}
use Rattle.sched_core.specs.Fits.{IsKept}
use Rattle.sched_core.specs.Machines.{config_in, shown_initiator, world_in, world_under}
use Rattle.sched_core.specs.declared.fault.ApplyFault.{ApplyFault}
use Rattle.sched_core.specs.declared.fault.ApplyFault.TheVariants.{Memory, Refused}
use Rattle.sched_core.specs.declared.state.Initiator.{Initiator}
use Rattle.sched_core.specs.declared.state.State.{State}
use Rattle.sched_core.specs.Events.{FollowsSo}

-- what is fixed (the configuration, the names of units, the library), what jobs change, the initiators with their jobs, the listings of the jobs that
-- wait, how many job numbers were given and how many events came
pub record Machine : Type 0 where
  pub config : Config
  pub unit_names : List (List ℕ)
  pub library : List LibraryProcedure
  pub parts : Parts RecordQueue
  pub initiators : List Initiator
  pub backlog : List Listing
  pub jobs : ℕ
  pub events : ℕ

-- the parts with what the store of records means
abbrev pub parts_of : {Q : Type 0} → (Q → RecordQueue) → Parts Q → Parts RecordQueue
parts_of queue_of p = record {
  store = p.store;
  queue = queue_of p.queue;
  names = p.names;
  units = p.units;
  cancels = p.cancels;
  spool = p.spool;
  date = p.date;
}

abbrev pub machine_in : {Q : Type 0} → (Q → RecordQueue) → Profile → List (List ℕ) → List LibraryProcedure → State Q → Machine
machine_in queue_of p names library s = record {
  config = config_in queue_of p s;
  unit_names = names;
  library = library;
  parts = parts_of queue_of s.parts;
  initiators = s.initiators.items;
  backlog = s.backlog;
  jobs = s.jobs;
  events = s.events;
}

-- the machine is the same, whatever its units and its library are
abbrev pub IsSameMachine : {Q : Type 0} → (Q → RecordQueue) → Profile → State Q → State Q → Type 0
IsSameMachine queue_of p old new = (names : List (List ℕ)) (library : List LibraryProcedure) →
    machine_in queue_of p names library new ≡ machine_in queue_of p names library old

abbrev pub itself : RecordQueue → RecordQueue
itself q = q

abbrev pub world_of : Machine → World
world_of m = record {
  config = m.config;
  shared = shown itself m.parts;
  initiators = map (shown_initiator m.config m.parts.queue) m.initiators;
  waiting = waiting_in m.parts.queue.waiting m.backlog;
  jobs = m.jobs;
  events = m.events;
}

-- the job that a deck denotes in this machine
abbrev pub denoting : Machine → Denoting
denoting m = job_of m.unit_names m.library

-- an input as the machine's definitions have it
abbrev pub meant_by : Event → meant.Event
meant_by (input.Read deck) = event.Read deck
meant_by (input.Turn number) = event.Turn number
meant_by (input.DeviceEnd serial) = event.DeviceEnd serial
meant_by (input.Write class) = event.Write class
meant_by (input.Cancel job) = event.Cancel job
meant_by (input.Zap n offset bytes) = event.Zap n offset bytes
meant_by input.Display = event.Display
meant_by (input.Date day) = event.Date day

-- what was done is allowed; a refusal is shown as its line; where memory was wanting nothing changed
abbrev pub Applies : Result (List Entry) ApplyFault → World → World → (List Entry → World → Type 0) → Type 0
Applies (Ok lines) old new allows = allows lines new
Applies (Err (Refused cause)) old new allows = allows (entry.Refused cause ∷ []) new
Applies (Err Memory) old new allows = new ≡ old

-- a refusal changes the count of events alone
abbrev pub KeepsIfRefused : Result (List Entry) ApplyFault → Machine → Machine → Type 0
KeepsIfRefused (Ok lines) old new = Unit {0}
KeepsIfRefused (Err (Refused cause)) old new = new ≡ record old { events = new.events }
KeepsIfRefused (Err Memory) old new = Unit {0}

-- so of a state of the machine: a case of the table was allowed, decided by the volumes as they were
abbrev pub AppliesSo : {Q : Type 0} → (Q → RecordQueue) → Profile → Denoting → Event → State Q → Result (List Entry) ApplyFault → State Q → Type 0
AppliesSo queue_of p denotes e old result new = Applies result (world_under queue_of p old) (world_in queue_of (config_in queue_of p old) new)
    (FollowsSo old.parts.store denotes (world_under queue_of p old) (meant_by e))

-- a refusal changes the count of events alone in the machine of such a state, with these names of units and this library
abbrev pub KeepsStateIfRefused : {Q : Type 0} → (Q → RecordQueue) → Profile → List (List ℕ) → List LibraryProcedure → State Q →
    Result (List Entry) ApplyFault → State Q → Type 0
KeepsStateIfRefused queue_of p names library old result new =
    KeepsIfRefused result (machine_in queue_of p names library old) (machine_in queue_of p names library new)

-- where memory is missing it stays the same machine
abbrev pub KeepsStateWithoutMemory : {Q : Type 0} → (Q → RecordQueue) → Profile → List (List ℕ) → List LibraryProcedure → State Q →
    Result (List Entry) ApplyFault → State Q → Type 0
KeepsStateWithoutMemory queue_of p names library old result new =
    result ≡ Err Memory → machine_in queue_of p names library new ≡ machine_in queue_of p names library old

-- what is fixed stays
pub record IsSameFixed (old new : Machine) : Type 0 where
  pub config : new.config ≡ old.config
  pub unit_names : new.unit_names ≡ old.unit_names
  pub library : new.library ≡ old.library

-- What holds of a machine between two events: its volumes are those that are configured, in their order; each of their tracks is what its sets and what is
-- kept say; and the records of its queue are whole and of bytes.
pub record IsWhole (m : Machine) : Type 0 where
  pub serials : serials_of m.parts.store.volumes ≡ m.config.volumes
  pub laid_out : VolumesAreLaidOut m.parts.store.volumes
  pub records : AreRecords (records_of m.parts.queue)

-- One machine and the next, which is whole: and the extents of the volumes follow.
pub record IsNext (old new : Machine) : Type 0 where
  pub fixed : IsSameFixed old new
  pub extents : ExtentsFollow old.parts.store new.parts.store
  pub whole : IsWhole new

-- A step of the machine: a case of the table, of which what it leaves open is as the volumes, as they were, decide it.
abbrev pub Steps : Machine → Event → List Entry → World → Type 0
Steps old e lines new = FollowsSo old.parts.store (denoting old) (world_of old) (meant_by e) lines new

-- steps of machine after machine, each the next
abbrev pub Drives : Machine → List Event → List (List Entry) → Machine → Type 0
Drives old [] [] new = new ≡ old
Drives old (e ∷ es) (lines ∷ more) new = (mid : Machine) × Steps old e lines (world_of mid) × IsNext old mid × Drives mid es more new
Drives old [] (lines ∷ more) new = ⊥
Drives old (e ∷ es) [] new = ⊥

-- Of each step of such a chain this holds, with the machines from which and to which it leads.
abbrev pub Along : ((old : Machine) (e : Event) (lines : List Entry) (new : Machine) → Steps old e lines (world_of new) → Type 0) →
    (old : Machine) (events : List Event) (entries : List (List Entry)) (new : Machine) → Drives old events entries new → Type 0
Along P old [] [] new chain = Unit {0}
Along P old (e ∷ es) (lines ∷ more) new chain = P old e lines chain.0 chain.1 × Along P chain.0 es more new chain.3
Along P old [] (lines ∷ more) new chain = Unit {0}
Along P old (e ∷ es) [] new chain = Unit {0}

-- The events that were done, each with its lines, lead to the machine as it is now: by the table, and as the volumes of the machine before each decide
-- it.
pub record IsDriven (old : Machine) (events : List Event) (entries : List (List Entry)) (done : ℕ) (new : Machine) : Type 0 where
  pub within : done ≤ length events
  pub drives : Drives old (take done events) entries new
  pub fixed : IsSameFixed old new

-- what holds of a machine between two events
pub record IsSystem {Q : Type 0} (queue_of : Q → RecordQueue) (p : Profile) (names : List (List ℕ)) (s : State Q) : Type 0 where
  pub kept : IsKept queue_of (config_in queue_of p s) s
  pub named : length names ≡ length p.units.now
