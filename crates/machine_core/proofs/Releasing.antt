-- What a job gives back is released as the machine's definitions have it.
use Rattle.std.proofs.Common.{◌≡◌, ℕ, refl, subst, sym}
use Rattle.cb_queue.specs.RecordQueues as queue
use Rattle.cb_queue.specs.RecordQueues.{RecordQueue}
use Rattle.shared_core.specs.Tracks.{ConservesTracks, free_on}
use Rattle.world_meaning.specs.Holdings.{released}
use Rattle.world_meaning.specs.Records.{SameRecords, records_given_back}
use Rattle.world_meaning.specs.Worlds.{Config}
use Rattle.machine_core.specs.declared.parts.Parts.{Parts}
use Rattle.machine_core.specs.Released.{GivesBack, IsReleased}
use Rattle.machine_core.specs.Shown.{shown}

pub is_released : {Q : Type 0} (queue_of : Q → RecordQueue) (c : Config) (job : ℕ) (old new : Parts Q) → c.layout ≡ (queue_of old.queue).layout →
    GivesBack queue_of job old new → ConservesTracks old.store new.store → IsReleased queue_of c job old new
is_released queue_of c job old new layout b conserves = record {
  reopened = record {
    records = queue.shown (queue_of new.queue);
    same = subst (λ l. SameRecords l (records_given_back l (queue.shown (queue_of old.queue)) job) (queue.shown (queue_of new.queue))) (sym layout) b.records.records;
    rest = λ i. record {
      store = b.store.store i;
      free = λ serial. free_on new.store.volumes serial;
      kept = b.store.kept i;
      records = queue.shown (queue_of new.queue);
      holds = b.names i;
      operations = b.units i;
      cancels = b.cancels i;
      spool = b.spool i;
      date = b.date i;
    };
  };
  conserves = conserves (shown queue_of old) (released c (shown queue_of old) job (shown queue_of new).free)
      (record { store = refl; free = λ serial. refl; kept = refl })
      (record { store = sym b.store.store; free = λ serial. refl; kept = sym b.store.kept });
}
