-- What an event comes to, whichever it is.
use Rattle.std.specs.Prelude.{List, OnErr, Result}
use Rattle.cb_queue.specs.RecordQueues.{RecordQueue}
use Rattle.jcl_plan.specs.declared.entry.Entry.{Entry}
use Rattle.session_input.specs.declared.event.Event.{Event}
use Rattle.world_meaning.specs.Readings.{Denoting}
use Rattle.world_meaning.specs.Worlds.{World}
use Rattle.init_core.specs.declared.running.Profile.{Profile}
use Rattle.sched_core.specs.Events.{Answers, DoesSo}
use Rattle.sched_core.specs.Fits.{IsFit}
use Rattle.sched_core.specs.Machines.{config_in, world_in}
use Rattle.sched_core.specs.Systems.{IsSameMachine, meant_by}
use Rattle.sched_core.specs.declared.fault.ApplyFault.{ApplyFault}
use Rattle.sched_core.specs.declared.state.State.{State}

-- It does what it may do in the world as it was, or is answered with a fault; what holds of the machine's parts holds again; and with a fault the machine is
-- the same.
pub record EventDone {Q : Type 0} (queue_of : Q → RecordQueue) (p : Profile) (old : State Q) (result : Result (List Entry) ApplyFault) (new : State Q)
    (may : World → List Entry → World → Type 0) : Type 0 where
  pub answer : Answers result (world_in queue_of (config_in queue_of p old) old) (world_in queue_of (config_in queue_of p old) new)
      (may (world_in queue_of (config_in queue_of p old) old))
  pub fit : IsFit queue_of (config_in queue_of p old) new
  pub same : OnErr result (IsSameMachine queue_of p old new)

-- So it does a case of the table, decided by the volumes as they were.
abbrev pub EventDoneSo : {Q : Type 0} → (Q → RecordQueue) → Profile → Denoting → Event → State Q → Result (List Entry) ApplyFault → State Q → Type 0
EventDoneSo queue_of p denotes e old result new = EventDone queue_of p old result new (λ w. DoesSo old.parts.store denotes w (meant_by e))
