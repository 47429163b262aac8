-- What a store of linked records means. (This profile)
use Rattle.std.specs.Prelude.{ℕ}
use Rattle.cb_queue.specs.RecordQueues.{RecordQueue}

pub record Linked : Type 0 where
  -- its records, those that are free, and the jobs that wait
  pub queue : RecordQueue
  -- for how many of its records there is no memory yet
  pub lacking : ℕ
