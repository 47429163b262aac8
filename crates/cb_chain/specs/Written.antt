-- What writing a job's plan into a store leaves there. (This profile)
use Rattle.std.specs.Prelude.{◌≡◌, ◌≢◌, ℕ, ◌*◌, ◌^◌, ◌<◌, ◌==◌, true, false, List, All, drop, replicate, slice_get, take, Some}
use Rattle.std.specs.List.{list_any}
use Rattle.jcl_plan.specs.declared.plan.DdKind.{DdKind}
use Rattle.jcl_plan.specs.declared.plan.DdKind.TheVariants.{Cards, Dummy, Set, Sysout}
use Rattle.jcl_plan.specs.declared.plan.DdPlan.{DdPlan}
use Rattle.jcl_plan.specs.declared.plan.Expiry.{Expiry}
use Rattle.jcl_plan.specs.declared.plan.JobPlan.{JobPlan}
use Rattle.jcl_plan.specs.declared.plan.StepPlan.{StepPlan}
use Rattle.cb_meaning.specs.declared.layout.Layout.{Layout}
use Rattle.cb_meaning.specs.declared.layout.TheConstants.{LAST_DAY}
use Rattle.cb_meaning.specs.Codes.{expiry_code, expiry_number}
use Rattle.cb_meaning.specs.Layouts.{all_apart, card_places, jct_places, jfcb_places, sct_places, siot_places}
use Rattle.cb_meaning.specs.Fields.{byte_at, part}
use Rattle.cb_meaning.specs.Needs.{IsPacked, records_needed}
use Rattle.cb_meaning.specs.Spelled.{Denotes, card_record}
use Rattle.cb_meaning.specs.Writable.{IsWritable, most_dds}
use Rattle.cb_queue.specs.RecordQueues.{HasOwnLink, RecordQueue, record_at, shown}

-- A layout whose fields are apart in each record, and wide enough for each number that stands in them.
pub record HoldsJobs (l : Layout) : Type 0 where
  pub own_link : HasOwnLink l
  pub jct : all_apart (jct_places l) ≡ true
  pub sct : all_apart (sct_places l) ≡ true
  pub siot : all_apart (siot_places l) ≡ true
  pub jfcb : all_apart (jfcb_places l) ≡ true
  pub cards : all_apart (card_places l) ≡ true
  pub first_step : l.most_records < 256 ^ l.first_step.width
  pub next_step : l.most_records < 256 ^ l.next_step.width
  pub first_dd : l.most_records < 256 ^ l.first_dd.width
  pub next_dd : l.most_records < 256 ^ l.next_dd.width
  pub below : l.most_records < 256 ^ l.below.width
  pub next_cards : l.most_records < 256 ^ l.next_cards.width
  pub step_count : l.most_steps < 256 ^ l.steps.width
  pub dd_count : most_dds < 256 ^ l.dds.width
  pub card_count : 2 * l.most_records < 256 ^ l.cards.width

-- The fields of a layout are wide enough for what is said of a set's expiry, and so for all that is said of those of a job.
pub record HoldsExpiry (l : Layout) (e : Expiry) : Type 0 where
  pub kind : expiry_code e < 256 ^ l.expiry_kind.width
  pub days : expiry_number e < 256 ^ l.expiry_days.width

abbrev pub HoldsKind : Layout → DdKind → Type 0
HoldsKind l (Set p) = HoldsExpiry l p.expiry
HoldsKind l Dummy = Unit {0}
HoldsKind l (Sysout class) = Unit {0}
HoldsKind l (Cards cards) = Unit {0}

abbrev pub HoldsDds : Layout → List DdPlan → Type 0
HoldsDds l dds = All (λ dd. HoldsKind l dd.kind) dds

abbrev pub HoldsSteps : Layout → List StepPlan → Type 0
HoldsSteps l steps = All (λ step. HoldsDds l step.dds) steps

-- A layout in which a set can have any day.
pub record HasDays (l : Layout) : Type 0 where
  pub kind : 2 < 256 ^ l.expiry_kind.width
  pub days : LAST_DAY < 256 ^ l.expiry_days.width

-- nothing stands in the status bytes of a record: all of its bytes from 168 on are zeros
abbrev pub HasNoStatus : List ℕ → Type 0
HasNoStatus r = part r 168 8 ≡ replicate 8 0

-- a record of cards has no status bytes
abbrev pub IsUnmarked : List ℕ → Type 0
IsUnmarked r = byte_at r 0 ≢ card_record → HasNoStatus r

-- a record as it is written
pub record IsFresh (l : Layout) (r : List ℕ) : Type 0 where
  pub unmarked : IsUnmarked r
  pub packed : IsPacked l r

-- A job's plan stands in the records that were free first, in the order of writing, without a status, its cards two in a record; no other record changed, and
-- nobody else waits.
pub record Written (job : ℕ) (plan : JobPlan) (old new : RecordQueue) (first : ℕ) : Type 0 where
  pub layout : new.layout ≡ old.layout
  pub free : new.free ≡ drop (records_needed plan) old.free
  pub waiting : new.waiting ≡ old.waiting
  pub others : (n : ℕ) → list_any (λ m. m == n) (take (records_needed plan) old.free) ≡ false → record_at new n ≡ record_at old n
  pub begins : slice_get (take (records_needed plan) old.free) 0 ≡ Some first
  pub denotes : (units : ℕ) → IsWritable old.layout.most_steps units plan → Denotes old.layout units (shown new) job (take (records_needed plan) old.free) plan
  pub fresh : All (λ n. IsFresh old.layout ((shown new).at n)) (take (records_needed plan) old.free)
