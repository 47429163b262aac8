-- The records of a sound store are whole and of bytes, and so are the zeros of a free one.
use Rattle.std.proofs.Common.{ℕ, ◌<◌, List, Option, None, Some, arith}
use Rattle.std.specs.Prelude.{IfSome}
use Rattle.std.proofs.lemmas.List.{length-replicate}
use Rattle.std.proofs.lemmas.List.Elements.{All-replicate}
use Rattle.cb_meaning.specs.declared.layout.Layout.{Layout}
use Rattle.cb_queue.specs.RecordQueues.{IsInUse, IsSoundQueue, RecordQueue, bytes_or_zeros, record_at, shown}
use Rattle.walk_laws.specs.WalkLaws.{AreRecords, IsRecord}

is_record : (l : Layout) (o : Option (List ℕ)) → IfSome o (IsInUse l) → IsRecord (bytes_or_zeros o)
is_record l None used = record { size = length-replicate {A = ℕ} 176 0; bytes = All-replicate (λ b. b < 256) 176 0 (omega arith) }
is_record l (Some r) used = record { size = used.size; bytes = used.bytes }

pub all_records : (q : RecordQueue) → IsSoundQueue q → AreRecords (shown q)
all_records q sound n used = is_record q.layout (record_at q n) (sound.in_use n)
