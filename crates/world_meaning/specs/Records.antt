-- The records of the queue: how they are taken and given back, and what may differ in them at any time.
use Rattle.std.specs.Prelude.{◌≡◌, ℕ, ◌+◌, ◌≤◌, Bool, false, ◌==◌, List, [], ◌∷◌, ◌++◌, length, filter, if◌then◌else◌}
use Rattle.std.specs.List.{list_any}
use Rattle.cb_meaning.specs.declared.layout.Field.{Field}
use Rattle.cb_meaning.specs.declared.layout.Layout.{Layout}
use Rattle.cb_meaning.specs.Fields.{byte_at, is_in}
use Rattle.cb_meaning.specs.Spelled.{Records, jct, sct, siot, status_bytes}
use Rattle.cb_meaning.specs.Walks.{is_free, owner_of}
use Rattle.world_meaning.specs.Worlds.{Shared}
use Rattle.plain.specs.Lists.{numbers_from}

-- the records of a job, whether or not its chains reach them; the lowest first
abbrev pub owned_by : Layout → Records → ℕ → List ℕ
owned_by l q job = filter (λ n. owner_of q n == job) (numbers_from 1 l.most_records)

-- given back from the highest number to the lowest, so that the lowest is taken first
abbrev pub records_given_back : Layout → Records → ℕ → Records
records_given_back l q job = record q { free = owned_by l q job ++ q.free }

abbrev pub with_record : Records → ℕ → List ℕ → Records
with_record q n r = record q { at = λ m. if m == n then r else q.at m }

-- What is open in a record: the link, and the status bytes of those that have some.
abbrev pub has_status : ℕ → Bool
has_status kind = list_any (λ k. k == kind) (jct ∷ sct ∷ siot ∷ [])

abbrev pub open_fields : Layout → List ℕ → List Field
open_fields l r = l.link ∷ (if has_status (byte_at r 0) then status_bytes ∷ [] else [])

pub record AgreeBut (fields : List Field) (r s : List ℕ) : Type 0 where
  pub size : length s ≡ length r
  pub bytes : (k : ℕ) → list_any (λ f. is_in f k) fields ≡ false → byte_at s k ≡ byte_at r k

-- the same records but for what is open: that, and all that stands in free records
pub record SameRecords (l : Layout) (old new : Records) : Type 0 where
  pub free : new.free ≡ old.free
  pub used : (n : ℕ) → is_free old n ≡ false → AgreeBut (open_fields l (old.at n)) (old.at n) (new.at n)

-- the same but for what is open
pub record Reopened (l : Layout) (old new : Shared) : Type 0 where
  pub records : Records
  pub same : SameRecords l old.records records
  pub rest : new ≡ record old { records = records }

-- a field between the link and the status bytes
pub record IsBetween (f : Field) : Type 0 where
  pub from : 8 ≤ f.at
  pub to : f.at + f.width ≤ 168

-- The link stands in bytes 4 to 7, and no field of a layout meets it or the status bytes.
pub record IsQueueLayout (l : Layout) : Type 0 where
  pub link_from : 4 ≤ l.link.at
  pub link_to : l.link.at + l.link.width ≤ 8
  pub first_step : IsBetween l.first_step
  pub steps : IsBetween l.steps
  pub next_step : IsBetween l.next_step
  pub first_dd : IsBetween l.first_dd
  pub dds : IsBetween l.dds
  pub next_dd : IsBetween l.next_dd
  pub below : IsBetween l.below
  pub cards : IsBetween l.cards
  pub expiry_kind : IsBetween l.expiry_kind
  pub expiry_days : IsBetween l.expiry_days
  pub next_cards : IsBetween l.next_cards
