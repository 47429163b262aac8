-- Records with their links, in a table. Record n stands at n - 1. (This profile)
use Rattle.std.specs.Prelude.{◌≡◌, ◌≢◌, ℕ, zero, suc, List, [], All, length, map, slice_index, slice_index_or, slice_set}
use Rattle.cb_meaning.specs.declared.layout.Layout.{Layout}
use Rattle.cb_meaning.specs.declared.layout.TheConstants.{RECORD_BYTES}
use Rattle.cb_meaning.specs.Fields.{number_at}
use Rattle.cb_queue.specs.RecordQueues.{unlinked}

-- where a record's link leads, and who owns it; 0 where there is no such record
abbrev pub link_at : Layout → List (List ℕ) → ℕ → ℕ
link_at l records zero = 0
link_at l records (suc i) = number_at (slice_index_or records i []) l.link

abbrev pub owned_by : List ℕ → ℕ → ℕ
owned_by owners zero = 0
owned_by owners (suc i) = slice_index owners i

abbrev pub AreWhole : List (List ℕ) → Type 0
AreWhole records = All (λ r. length r ≡ RECORD_BYTES) records

-- the records but for their links
abbrev pub unlinked_all : Layout → List (List ℕ) → List (List ℕ)
unlinked_all l records = map (unlinked l) records

-- The record at a place is another, and what its link is stays open. No other link changes.
pub record Changes (l : Layout) (old new : List (List ℕ)) (i : ℕ) (r : List ℕ) : Type 0 where
  pub size : length new ≡ length old
  pub whole : AreWhole old → AreWhole new
  pub value : unlinked_all l new ≡ slice_set (unlinked_all l old) i r
  pub others : (k : ℕ) → k ≢ i → link_at l new (suc k) ≡ link_at l old (suc k)

-- the record at a place but for its link
abbrev pub record_of : Layout → List (List ℕ) → ℕ → List ℕ
record_of l records i = slice_index_or (unlinked_all l records) i []
