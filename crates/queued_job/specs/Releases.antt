-- What giving a job's records back leaves of the queue. (This profile)
use Rattle.std.specs.Prelude.{◌≡◌, ℕ}
use Rattle.cb_queue.specs.RecordQueues.{RecordQueue, shown}
use Rattle.world_meaning.specs.Records.{SameRecords, records_given_back}

-- The job's records are free, the lowest first. No other record changes, and the same jobs wait.
pub record Releases (job : ℕ) (old new : RecordQueue) : Type 0 where
  pub records : SameRecords old.layout (records_given_back old.layout (shown old) job) (shown new)
  pub layout : new.layout ≡ old.layout
  pub waiting : new.waiting ≡ old.waiting
