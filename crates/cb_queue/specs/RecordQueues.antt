-- What a store of records means. A record in use is seen by its bytes with a link of zeros: what stands in a link is the store's own. (This profile)
use Rattle.std.specs.Prelude.{◌≡◌, ◌≢◌, ℕ, zero, suc, ◌+◌, ◌≤◌, ◌<◌, ◌==◌, Bool, true, List, [], ◌∷◌, ◌++◌, length, map, replicate, slice_get, slice_index_or, slice_set, Option, None, Some, IfSome, All, is_none, is_some, if◌then◌else◌}
use Rattle.std.specs.Option.{option_map}
use Rattle.cb_meaning.specs.declared.layout.Layout.{Layout}
use Rattle.cb_meaning.specs.declared.layout.TheConstants.{RECORD_BYTES}
use Rattle.cb_meaning.specs.Fields.{byte_at, field, is_in, number_at, two_bytes, with_part}
use Rattle.cb_meaning.specs.Spelled.{Records, status_bytes}
use Rattle.cb_meaning.specs.Walks.{is_free, owner_of}
use Rattle.cb_records.specs.Laws.{AreApart}
use Rattle.cb_records.specs.Writes.{ChangesOnly, FitsRecord}
use Rattle.queue_core.specs.declared.queue.Queued.{Queued}
use Rattle.plain.specs.Lists.{are_different, numbers_from}

pub record RecordQueue : Type 0 where
  -- where the fields of a record stand, and how many records there are
  pub layout : Layout
  -- record n stands at n - 1; none where it is free
  pub records : List (Option (List ℕ))
  -- the free ones, the next that is taken first
  pub free : List ℕ
  -- the jobs that wait, in the order of reading
  pub waiting : List Queued

-- the bytes of record n; none where n is 0 or past the end, or the record is free
abbrev pub record_at : RecordQueue → ℕ → Option (List ℕ)
record_at q zero = None
record_at q (suc n) = slice_index_or q.records n None

-- the number of the job that owns a record, 0 of a free one
abbrev pub owner_in : Option (List ℕ) → ℕ
owner_in None = 0
owner_in (Some r) = number_at r (field 2 2)

abbrev pub owner_at : RecordQueue → ℕ → ℕ
owner_at q n = owner_in (record_at q n)

-- the number of the last record that is in use, 0 where none is
abbrev pub last_behind : ℕ → Bool → ℕ
last_behind zero used = if used then 1 else 0
last_behind (suc n) used = suc (suc n)

abbrev pub last_in_use : List (Option (List ℕ)) → ℕ
last_in_use [] = 0
last_in_use (r ∷ rest) = last_behind (last_in_use rest) (is_some r)

-- none of the records behind one number, up to another, is an owner's
abbrev pub HasNoneBetween : RecordQueue → ℕ → ℕ → ℕ → Type 0
HasNoneBetween q owner low high = (n : ℕ) → low < n → n ≤ high → owner_at q n ≢ owner

-- a record with a link of zeros
abbrev pub unlinked : Layout → List ℕ → List ℕ
unlinked l r = with_part r l.link.at (replicate l.link.width 0)

-- a record that was just taken: zeros but for its owner
abbrev pub zero_record : ℕ → List ℕ
zero_record owner = with_part (replicate RECORD_BYTES 0) 2 (two_bytes owner)

-- What is lent of a record: nothing where there is none, else bytes that differ from it in the link alone.
abbrev pub IsLent : Layout → Option (List ℕ) → Option (List ℕ) → Type 0
IsLent l None None = Unit {0}
IsLent l None (Some s) = ⊥
IsLent l (Some r) None = ⊥
IsLent l (Some r) (Some s) = ChangesOnly l.link r s

-- the queue with another record n, or with none there
abbrev pub with_record_at : RecordQueue → ℕ → Option (List ℕ) → RecordQueue
with_record_at q zero r = q
with_record_at q (suc n) r = record q { records = slice_set q.records n r }

-- the queue with other status bytes in record n
abbrev pub with_status : RecordQueue → ℕ → List ℕ → RecordQueue
with_status q n status = with_record_at q n (option_map (λ r. with_part r 168 status) (record_at q n))

-- the record that is taken next, and the queue once an owner has it; as it was where none is free
abbrev pub next_free : RecordQueue → Option ℕ
next_free q = slice_get q.free 0

abbrev pub first_taken : RecordQueue → ℕ → List ℕ → RecordQueue
first_taken q owner [] = q
first_taken q owner (n ∷ rest) = record (with_record_at q n (Some (zero_record owner))) { free = rest }

abbrev pub taken : RecordQueue → ℕ → RecordQueue
taken q owner = first_taken q owner q.free

-- record n given back: it is taken next
abbrev pub given_back : RecordQueue → ℕ → RecordQueue
given_back q n = record (with_record_at q n None) { free = n ∷ q.free }

-- the numbers of an owner's records among those from number n on, the lowest first
abbrev pub numbers_of : ℕ → ℕ → List (Option (List ℕ)) → List ℕ
numbers_of owner n [] = []
numbers_of owner n (r ∷ rest) = if owner_in r == owner then n ∷ numbers_of owner (n + 1) rest else numbers_of owner (n + 1) rest

-- a record, or none where it is this owner's
abbrev pub unless_of : ℕ → Option (List ℕ) → Option (List ℕ)
unless_of owner r = if owner_in r == owner then None else r

-- every record of an owner given back, from the highest number to the lowest, so that the lowest is taken next
abbrev pub all_given_back : RecordQueue → ℕ → RecordQueue
all_given_back q owner = record q { records = map (unless_of owner) q.records; free = numbers_of owner 1 q.records ++ q.free }

-- so many numbers, and as many records of which none is in use
unfoldable pub first_numbers : ℕ → List ℕ
first_numbers count = numbers_from 1 count

unfoldable pub no_records : ℕ → List (Option (List ℕ))
no_records count = replicate count None

-- a queue in which all records are free, 1 first, and nobody waits
abbrev pub empty_queue : Layout → RecordQueue
empty_queue l = record { layout = l; records = no_records l.most_records; free = first_numbers l.most_records; waiting = [] }

-- The records as what they denote is read from them. What stands in a free one does not matter.
abbrev pub bytes_or_zeros : Option (List ℕ) → List ℕ
bytes_or_zeros None = replicate RECORD_BYTES 0
bytes_or_zeros (Some r) = r

abbrev pub shown : RecordQueue → Records
shown q = record { at = λ n. bytes_or_zeros (record_at q n); free = q.free }

-- a layout whose link has no byte in common with the kind, the owner and the status of a record
pub record HasOwnLink (l : Layout) : Type 0 where
  pub fits : FitsRecord l
  pub kind : AreApart l.link (field 0 1)
  pub owner : AreApart l.link (field 2 2)
  pub status : AreApart l.link status_bytes

-- a record in use: it is whole and of bytes, has an owner, and its link is of zeros
pub record IsInUse (l : Layout) (r : List ℕ) : Type 0 where
  pub size : length r ≡ RECORD_BYTES
  pub bytes : All (λ b. b < 256) r
  pub owner : number_at r (field 2 2) ≢ 0
  pub link : (k : ℕ) → is_in l.link k ≡ true → byte_at r k ≡ 0

-- each job was read before those behind it
abbrev pub AreInOrder : List Queued → Type 0
AreInOrder [] = Unit {0}
AreInOrder (x ∷ behind) = All (λ y. x.job < y.job) behind × AreInOrder behind

-- A job that waits: its first record is its own, and its class and its priority are those that a job can have, A to O and 0 to 13.
pub record IsQueued (q : RecordQueue) (x : Queued) : Type 0 where
  pub job : x.job ≢ 0
  pub owner : owner_at q x.jct ≡ x.job
  pub class : (65 ≤ x.class) × (x.class ≤ 79)
  pub priority : x.priority ≤ 13

-- What holds of a queue at any time.
pub record IsSoundQueue (q : RecordQueue) : Type 0 where
  pub own_link : HasOwnLink q.layout
  pub size : length q.records ≡ q.layout.most_records
  -- each free number stands once, and is that of a record
  pub once : are_different q.free ≡ true
  pub within : All (λ n. (1 ≤ n) × (n ≤ q.layout.most_records)) q.free
  -- those are free that are not in use
  pub free : (n : ℕ) → 1 ≤ n → n ≤ q.layout.most_records → is_free (shown q) n ≡ is_none (record_at q n)
  pub in_use : (n : ℕ) → IfSome (record_at q n) (IsInUse q.layout)
  pub in_order : AreInOrder q.waiting
  pub queued : All (IsQueued q) q.waiting

-- What a reader of the shown records meets: those are free that are none in the queue, and the owners are the queue's.
pub record ShowsRecord (q : RecordQueue) (n : ℕ) : Type 0 where
  pub free : 1 ≤ n → n ≤ q.layout.most_records → is_free (shown q) n ≡ is_none (record_at q n)
  pub owner : owner_of (shown q) n ≡ owner_at q n

abbrev pub ShowsRecords : Type 0
ShowsRecords = (q : RecordQueue) → IsSoundQueue q → (n : ℕ) → ShowsRecord q n
