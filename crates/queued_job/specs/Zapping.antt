-- Who has a record, and what a Zap leaves of the queue. (This profile)
use Rattle.std.specs.Prelude.{◌≡◌, ℕ, false, true, List, is_some}
use Rattle.cb_meaning.specs.Fields.{with_part}
use Rattle.cb_meaning.specs.Walks.{is_free, owner_of}
use Rattle.cb_queue.specs.RecordQueues.{RecordQueue, record_at, shown}
use Rattle.world_meaning.specs.Records.{SameRecords, with_record}

-- a record in use, and the number of the job that has it
pub record IsOwner (q : RecordQueue) (n owner : ℕ) : Type 0 where
  pub there : is_some (record_at q n) ≡ true
  pub used : is_free (shown q) n ≡ false
  pub is : owner_of (shown q) n ≡ owner

-- A record has these bytes from an offset on, but for what is open in records. No other record changes, and the same jobs wait.
pub record Overwrites (n offset : ℕ) (bytes : List ℕ) (old new : RecordQueue) : Type 0 where
  pub records : SameRecords old.layout (with_record (shown old) n (with_part ((shown old).at n) offset bytes)) (shown new)
  pub layout : new.layout ≡ old.layout
  pub waiting : new.waiting ≡ old.waiting
