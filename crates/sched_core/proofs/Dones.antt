-- What an event comes to that was done, or changed nothing.
use Rattle.std.proofs.Common.{◌≡◌, List, [], ◌∷◌, Result, Ok, Err, ap, ◌∙◌}
use Rattle.cb_queue.specs.RecordQueues.{RecordQueue}
use Rattle.jcl_plan.specs.declared.entry.Entry.{Entry}
use Rattle.jcl_plan.specs.declared.entry.Entry.TheVariants as entry
use Rattle.jcl_plan.specs.declared.fault.Cause.{Cause}
use Rattle.world_meaning.specs.Worlds.{World}
use Rattle.init_core.specs.declared.running.Profile.{Profile}
use Rattle.sched_core.specs.Done.{EventDone}
use Rattle.sched_core.specs.Events.{LeadsTo}
use Rattle.sched_core.specs.Fits.{IsFit, IsKept}
use Rattle.sched_core.specs.Machines.{config_in, world_in}
use Rattle.sched_core.specs.Systems.{IsSameMachine, parts_of}
use Rattle.sched_core.specs.declared.fault.ApplyFault.{ApplyFault}
use Rattle.sched_core.specs.declared.fault.ApplyFault.TheVariants.{Memory, Refused}
use Rattle.sched_core.specs.declared.state.State.{State}
use Rattle.sched_core.proofs.Happened.{so_answers}
use Rattle.sched_core.proofs.Unchanged.{same_fit, same_machine, same_world}

module _ {Q : Type 0} (queue_of : Q → RecordQueue) (p : Profile) (s : State Q) (may : World → List Entry → World → Type 0) where
  abbrev before : World
  before = world_in queue_of (config_in queue_of p s) s

  pub done_so : (lines : List Entry) (new : State Q) → LeadsTo (may before lines) (world_in queue_of (config_in queue_of p s) new) →
      IsFit queue_of (config_in queue_of p s) new → EventDone queue_of p s (Ok lines) new may
  done_so lines new leads fit = record { answer = leads; fit = fit; same = tt }

  -- nothing that is shown changed
  module _ (kept : IsKept queue_of (config_in queue_of p s) s) (new : State Q) (parts : new.parts ≡ record s.parts { queue = new.parts.queue })
      (queue_is : queue_of new.parts.queue ≡ queue_of s.parts.queue) (backlog : new.backlog ≡ s.backlog)
      (after : new.initiators.items ≡ s.initiators.items) (jobs : new.jobs ≡ s.jobs) (events : new.events ≡ s.events) where
    same : IsSameMachine queue_of p s new
    same = same_machine queue_of p s new (ap (parts_of queue_of) parts ∙ (λ i. record (parts_of queue_of s.parts) { queue = queue_is i })) after backlog jobs events

    fit : IsFit queue_of (config_in queue_of p s) new
    fit = same_fit queue_of (config_in queue_of p s) s new parts queue_is backlog after jobs events kept.fit

    pub memory_wanting : EventDone queue_of p s (Err Memory) new may
    memory_wanting = record {
      answer = same_world queue_of (config_in queue_of p s) s new parts queue_is backlog after jobs events;
      fit = fit;
      same = same;
    }

    pub refused_so : (cause : Cause) → may before (entry.Refused cause ∷ []) before → EventDone queue_of p s (Err (Refused cause)) new may
    refused_so cause does = record {
      answer = (does, same_world queue_of (config_in queue_of p s) s new parts queue_is backlog after jobs events);
      fit = fit;
      same = same;
    }

  -- the same, where more is known of what it does
  pub done_as : (also : World → List Entry → World → Type 0) (result : Result (List Entry) ApplyFault) (new : State Q) →
      ((lines : List Entry) (v : World) → may before lines v → also before lines v) → EventDone queue_of p s result new may →
      EventDone queue_of p s result new also
  done_as also result new so done = record {
    answer = so_answers result before (world_in queue_of (config_in queue_of p s) new) (may before) (also before) so done.answer;
    fit = done.fit;
    same = done.same;
  }
