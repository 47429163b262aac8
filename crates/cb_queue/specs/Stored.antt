-- How a table of records, a table of owners and a stack of free numbers are a queue.
use Rattle.std.specs.Prelude.{◌≡◌, ℕ, ◌^◌, ◌<◌, ◌==◌, List, [], ◌∷◌, length, map, reverse, take, Option, None, Some, if◌then◌else◌}
use Rattle.std.specs.List.{count_by}
use Rattle.cb_meaning.specs.declared.layout.Layout.{Layout}
use Rattle.queue_core.specs.declared.queue.Queued.{Queued}
use Rattle.cb_queue.specs.declared.list_store.ListStore.TheInside.{Inside}
use Rattle.cb_queue.specs.RecordQueues.{IsSoundQueue, RecordQueue, owner_in}
use Rattle.record_spans.specs.Spans.{AreSpanned}

-- a record, or none where it has no owner
abbrev pub seen_record : ℕ → List ℕ → Option (List ℕ)
seen_record owner r = if owner == 0 then None else Some r

abbrev pub seen_records : List ℕ → List (List ℕ) → List (Option (List ℕ))
seen_records [] records = []
seen_records (owner ∷ owners) [] = []
seen_records (owner ∷ owners) (r ∷ records) = seen_record owner r ∷ seen_records owners records

-- of the stack so many numbers are in it, the last of which is taken next
abbrev pub seen_in : Layout → List ℕ → List (List ℕ) → List ℕ → ℕ → List Queued → RecordQueue
seen_in l owners records stack count waiting = record {
  layout = l;
  records = seen_records owners records;
  free = reverse (take count stack);
  waiting = waiting;
}

abbrev pub seen : Inside → RecordQueue
seen a = seen_in a.layout a.owners.items a.records.items a.free.items a.free_count a.waiting

pub record AreStored (l : Layout) (owners : List ℕ) (records : List (List ℕ)) (stack : List ℕ) (count : ℕ) (waiting : List Queued) : Type 0 where
  pub sound : IsSoundQueue (seen_in l owners records stack count waiting)
  pub few : l.most_records < 2 ^ 32
  -- each table has its room from the start
  pub records_room : length records ≡ l.most_records
  pub owners_room : length owners ≡ l.most_records
  pub stack_room : length stack ≡ l.most_records
  -- each record that is in use stands with its owner
  pub owned : map owner_in (seen_records owners records) ≡ owners
  pub free_count : count ≡ count_by (λ owner. owner == 0) owners

abbrev pub IsStored : Inside → Type 0
IsStored a = AreStored a.layout a.owners.items a.records.items a.free.items a.free_count a.waiting

-- and each record is in the span of its owner
abbrev pub IsSpanned : Inside → Type 0
IsSpanned a = IsStored a × AreSpanned a.spans a.owners.items
