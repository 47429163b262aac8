-- What holds of the machine's parts between two events, beside what holds of any world that events lead to.
use Rattle.std.specs.Prelude.{◌≡◌, ◌≢◌, ℕ, ◌≤◌}
use Rattle.cb_chain.specs.Written.{HasDays, HoldsJobs}
use Rattle.cb_queue.specs.RecordQueues.{RecordQueue}
use Rattle.enq_core.specs.Holds.{HoldsNone}
use Rattle.machine_meaning.specs.declared.machine.TheConstants.{MOST_EVENTS, MOST_JOBS}
use Rattle.case_laws.specs.Cases.{IsSupplied}
use Rattle.law_core.specs.Soundness.{IsSound}
use Rattle.world_meaning.specs.Worlds.{Config}
use Rattle.jcl_refs.specs.Plans.{most_steps}
use Rattle.queued_job.specs.Listed.{AreListed}
use Rattle.init_core.specs.Running.{IsGood, IsReady}
use Rattle.init_core.specs.declared.running.Running.{Running}
use Rattle.sched_core.specs.Machines.{RunsIn, world_in}
use Rattle.sched_core.specs.declared.state.State.{State}

-- no initiator has the job
abbrev pub IsAtNone : {Q : Type 0} → State Q → ℕ → Type 0
IsAtNone s job = (place : ℕ) (r : Running) → RunsIn s.initiators.items place r → r.job ≢ job

-- The queue can hold the jobs of decks; each job that waits has its listing; each job at an initiator can go on; and no other job holds a name.
pub record IsFit {Q : Type 0} (queue_of : Q → RecordQueue) (c : Config) (s : State Q) : Type 0 where
  pub good : IsGood queue_of c s.parts
  pub holds : HoldsJobs c.layout
  pub days : HasDays c.layout
  pub listed : AreListed (queue_of s.parts.queue).waiting s.backlog
  pub ready : (place : ℕ) (r : Running) → RunsIn s.initiators.items place r → IsReady c s.parts.names r
  pub unnamed : (job : ℕ) → IsAtNone s job → HoldsNone s.parts.names job
  pub steps : c.layout.most_steps ≡ most_steps
  pub few_jobs : s.jobs ≤ MOST_JOBS
  pub few_events : s.events ≤ MOST_EVENTS

-- and it is sound, and has what its next events need
pub record IsKept {Q : Type 0} (queue_of : Q → RecordQueue) (c : Config) (s : State Q) : Type 0 where
  pub sound : IsSound (world_in queue_of c s)
  pub supplied : IsSupplied (world_in queue_of c s)
  pub fit : IsFit queue_of c s
