-- A turn of a job at its initiator.
use Rattle.std.specs.Prelude.{◌≡◌, ◌≢◌, ℕ, ◌≤◌, List, [], All, Some, Vec, slice_get, slice_set}
use Rattle.std.specs.Global.{Global}
use Rattle.std.specs.Vec.{vec_capacity, vec_len}
use Rattle.cb_queue.specs.RecordQueues.{RecordQueue}
use Rattle.jcl_plan.specs.declared.entry.Entry.{Entry}
use Rattle.world_meaning.specs.Transitions.{told_with}
use Rattle.world_meaning.specs.Worlds.{Config}
use Rattle.machine_core.specs.declared.parts.Parts.{Parts}
use Rattle.init_core.specs.Going.{MayLeave, Went}
use Rattle.init_core.specs.Providing.{IsProvidedUnder}
use Rattle.init_core.specs.Running.{IsReady, config_of, lines_told, path_told, runs_after}
use Rattle.init_core.specs.declared.running.Profile.{Profile}
use Rattle.init_core.specs.declared.running.Progress.{Progress}
use Rattle.init_core.specs.declared.running.Running.{Running}
use Rattle.sched_core.specs.Explaining.{most_lines}
use Rattle.sched_core.specs.declared.state.Initiator.{Initiator}

-- the job of an initiator went on, with these lines in the listing
pub record TurnsJob {Q : Type 0} (queue_of : Q → RecordQueue) (c : Config) (old : Parts Q) (x : Initiator) (new : Parts Q) (y : Initiator)
    (lines : List Entry) : Type 0 where
  pub running : Running
  pub runs : x.running ≡ Some running
  pub came : Progress
  pub went : Went queue_of c old running new came
  pub told : lines ≡ told_with running.job (lines_told came) (path_told came)
  pub leaves : y ≡ record x { running = runs_after came }

-- and so did that of the initiator at a place
pub record TurnsAt {Q : Type 0} (queue_of : Q → RecordQueue) (c : Config) (place : ℕ) (old : Parts Q) (initiators : List Initiator) (new : Parts Q)
    (after : List Initiator) (lines : List Entry) : Type 0 where
  pub it : Initiator
  pub at : slice_get initiators place ≡ Some it
  pub then : Initiator
  pub turns : TurnsJob queue_of c old it new then lines
  pub leaves : after ≡ slice_set initiators place then

-- no entry yet, and room for the lines of a turn
pub record HasRoomFor (profile : Profile) (r : Running) (entries : Vec Entry Global) : Type 0 where
  pub none : entries.items ≡ []
  pub empty : vec_len entries ≡ 0
  pub room : most_lines profile r ≤ vec_capacity entries

-- the initiator has a job that may leave it by its turn and waits in no queue, and there is room for the lines of that
abbrev pub IsToLeave : {Q : Type 0} → (Q → RecordQueue) → Profile → Parts Q → Initiator → Vec Entry Global → Type 0
IsToLeave queue_of profile p x entries = (r : Running) × (x.running ≡ Some r) × IsReady (config_of profile (queue_of p.queue).layout) p.names r
    × IsProvidedUnder queue_of profile p r × MayLeave profile p r
    × HasRoomFor profile r entries × All (λ q. q.job ≢ r.job) (queue_of p.queue).waiting
