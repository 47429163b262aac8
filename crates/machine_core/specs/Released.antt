-- What a job that is over gives back.
use Rattle.std.specs.Prelude.{◌≡◌, ℕ}
use Rattle.enq_core.specs.Holds.{without_job}
use Rattle.cb_queue.specs.RecordQueues.{RecordQueue}
use Rattle.world_meaning.specs.Holdings.{cancels_without, released}
use Rattle.world_meaning.specs.Records.{Reopened}
use Rattle.world_meaning.specs.Tracks.{Conserves}
use Rattle.world_meaning.specs.Worlds.{Config}
use Rattle.queued_job.specs.Releases.{Releases}
use Rattle.place_core.specs.Keepings.{GivesBackAll}
use Rattle.machine_core.specs.declared.parts.Parts.{Parts}
use Rattle.machine_core.specs.Shown.{shown}

-- its kept tracks, its names, its records, and a cancel that did not act; all else stays
pub record GivesBack {Q : Type 0} (queue_of : Q → RecordQueue) (job : ℕ) (old new : Parts Q) : Type 0 where
  pub records : Releases job (queue_of old.queue) (queue_of new.queue)
  pub names : new.names ≡ without_job job old.names
  pub cancels : new.cancels ≡ cancels_without old.cancels job
  pub store : GivesBackAll job old.store new.store
  pub units : new.units ≡ old.units
  pub spool : new.spool ≡ old.spool
  pub date : new.date ≡ old.date

-- so it is released as the machine's definitions have it, but for what is open in records
pub record IsReleased {Q : Type 0} (queue_of : Q → RecordQueue) (c : Config) (job : ℕ) (old new : Parts Q) : Type 0 where
  pub reopened : Reopened c.layout (released c (shown queue_of old) job (shown queue_of new).free) (shown queue_of new)
  pub conserves : Conserves (shown queue_of old) (released c (shown queue_of old) job (shown queue_of new).free)
