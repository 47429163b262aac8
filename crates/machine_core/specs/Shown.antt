-- What all jobs change, as the machine's definitions have it.
use Rattle.cb_queue.specs.RecordQueues as queue
use Rattle.cb_queue.specs.RecordQueues.{RecordQueue}
use Rattle.world_meaning.specs.Worlds.{Shared}
use Rattle.shared_core.specs.Shown.{world_store_of}
use Rattle.shared_core.specs.Tracks.{free_on, kept_shown}
use Rattle.machine_core.specs.declared.parts.Parts.{Parts}

abbrev pub shown : {Q : Type 0} → (Q → RecordQueue) → Parts Q → Shared
shown queue_of p = record {
  store = world_store_of p.store;
  free = λ serial. free_on p.store.volumes serial;
  kept = kept_shown p.store.volumes;
  records = queue.shown (queue_of p.queue);
  holds = p.names;
  operations = p.units;
  cancels = p.cancels;
  spool = p.spool;
  date = p.date;
}
