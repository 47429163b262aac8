-- Records by marks: a bit for each number from 0, set where the record was met. (This profile)
use Rattle.std.specs.Prelude.{◌≡◌, ℕ, ◌/◌, ◌%◌, ◌==◌, ◌||◌, Bool, not, nat_lt, List}
use Rattle.std.specs.Prelude.{◌∷◌, slice_index_or, Option, Some, None, Result, Ok, Err, if◌then◌else◌}
use Rattle.std.specs.Int.{bit_at}
use Rattle.std.specs.List.{list_any}
use Rattle.cb_meaning.specs.declared.layout.Layout.{Layout}
use Rattle.cb_meaning.specs.Fields.{byte_at, field, number_at}
use Rattle.cb_meaning.specs.Walks.{arrival_fault}
use Rattle.cb_queue.specs.RecordQueues.{RecordQueue, bytes_or_zeros, record_at, shown}

abbrev pub is_met : List ℕ → ℕ → Bool
is_met seen n = list_any (λ m. m == n) seen

-- whether a number has a mark, the lowest bit of the first word being that of 0
abbrev pub is_marked : List ℕ → ℕ → Bool
is_marked marks n = bit_at (slice_index_or marks (n / 64) 0) (n % 64) == 1

-- those are marked that are in the list
abbrev pub AreMarked : List ℕ → List ℕ → Type 0
AreMarked marks seen = (n : ℕ) → is_marked marks n ≡ is_met seen n

-- what arriving at a number tells, of the bytes of the record that is there and whether it was met
abbrev pub arrival_told : Layout → List ℕ → ℕ → ℕ → Bool → ℕ → Option ℕ
arrival_told l r job kind met n =
    if nat_lt n 1 || nat_lt l.most_records n then Some 1
    else (if not (byte_at r 0 == kind) then Some 2
    else (if not (number_at r (field 2 2) == job) then Some 3
    else (if met then Some 4
    else None)))

pub record IsAt (q : RecordQueue) (job kind : ℕ) (seen : List ℕ) (n : ℕ) (marks : List ℕ) (r : List ℕ) : Type 0 where
  pub fine : arrival_fault q.layout (shown q) job kind seen n ≡ None
  pub bytes : r ≡ bytes_or_zeros (record_at q n)
  pub marked : AreMarked marks (n ∷ seen)

-- arriving: its fault, or the record, which is marked then
abbrev pub Arrives : RecordQueue → ℕ → ℕ → List ℕ → ℕ → List ℕ → List ℕ → Result (Unit {0}) ℕ → Type 0
Arrives q job kind seen n marks r (Ok x) = IsAt q job kind seen n marks r
Arrives q job kind seen n marks r (Err fault) = arrival_fault q.layout (shown q) job kind seen n ≡ Some fault
