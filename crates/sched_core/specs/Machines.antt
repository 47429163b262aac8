-- The machine between two events, as the machine's definitions have it.
use Rattle.std.specs.Prelude.{◌≡◌, ℕ, List, map, Some, slice_get}
use Rattle.std.specs.Option.{option_map}
use Rattle.cb_queue.specs.RecordQueues.{RecordQueue}
use Rattle.world_meaning.specs.Worlds as world
use Rattle.world_meaning.specs.Worlds.{Config, World}
use Rattle.queued_job.specs.Listed.{waiting_in}
use Rattle.machine_core.specs.Shown.{shown}
use Rattle.init_core.specs.Running.{config_of, shown_running}
use Rattle.init_core.specs.declared.running.Profile.{Profile}
use Rattle.init_core.specs.declared.running.Running.{Running}
use Rattle.sched_core.specs.declared.state.Initiator.{Initiator}
use Rattle.sched_core.specs.declared.state.State.{State}

-- the configuration, with the layout of the queue's records
abbrev pub config_in : {Q : Type 0} → (Q → RecordQueue) → Profile → State Q → Config
config_in queue_of p s = config_of p (queue_of s.parts.queue).layout

abbrev pub shown_initiator : Config → RecordQueue → Initiator → world.Initiator
shown_initiator c queue x = record { number = x.number; classes = x.classes; running = option_map (shown_running c queue) x.running }

abbrev pub world_in : {Q : Type 0} → (Q → RecordQueue) → Config → State Q → World
world_in queue_of c s = record {
  config = c;
  shared = shown queue_of s.parts;
  initiators = map (shown_initiator c (queue_of s.parts.queue)) s.initiators.items;
  waiting = waiting_in (queue_of s.parts.queue).waiting s.backlog;
  jobs = s.jobs;
  events = s.events;
}

-- the world under the configuration that is its own
abbrev pub world_under : {Q : Type 0} → (Q → RecordQueue) → Profile → State Q → World
world_under queue_of p s = world_in queue_of (config_in queue_of p s) s

-- the job of the initiator at a place
pub record RunsIn (initiators : List Initiator) (place : ℕ) (r : Running) : Type 0 where
  pub it : Initiator
  pub at : slice_get initiators place ≡ Some it
  pub running : it.running ≡ Some r
