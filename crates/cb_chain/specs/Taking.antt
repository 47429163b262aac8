-- What taking and writing records one by one leaves.
use Rattle.std.specs.Prelude.{◌≡◌, ◌≢◌, ℕ, ◌+◌, ◌/◌, ◌≤◌, ◌==◌, Bool, true, false, List, [], ◌∷◌, ◌++◌, length, Some, sum_by}
use Rattle.std.specs.List.{list_any}
use Rattle.jcl_plan.specs.declared.plan.DdKind.{DdKind}
use Rattle.jcl_plan.specs.declared.plan.DdPlan.{DdPlan}
use Rattle.jcl_plan.specs.declared.plan.JobPlan.{JobPlan}
use Rattle.jcl_plan.specs.declared.plan.StepPlan.{StepPlan}
use Rattle.cb_meaning.specs.declared.layout.Layout.{Layout}
use Rattle.cb_meaning.specs.Needs.{records_below, records_of_step}
use Rattle.cb_meaning.specs.Spelled.{Below, CardChain, DdChain, Records, StepChain}
use Rattle.cb_queue.specs.RecordQueues.{RecordQueue, bytes_or_zeros, record_at, zero_record}
use Rattle.std.specs.Prelude.{All}
use Rattle.cb_chain.specs.Written.{HoldsJobs, IsFresh, Written}
use Rattle.plain.specs.Lists.{are_different}

abbrev pub is_among : ℕ → List ℕ → Bool
is_among n numbers = list_any (λ m. m == n) numbers

-- a queue into which jobs can be written
pub record IsReady (q : RecordQueue) : Type 0 where
  pub holds : HoldsJobs q.layout
  pub size : length q.records ≡ q.layout.most_records
  pub once : are_different q.free ≡ true
  pub within : All (λ n. (1 ≤ n) × (n ≤ q.layout.most_records)) q.free

-- these records were taken, and anything may stand in them; nothing else changed
pub record Took (numbers : List ℕ) (old new : RecordQueue) : Type 0 where
  pub layout : new.layout ≡ old.layout
  pub waiting : new.waiting ≡ old.waiting
  pub size : length new.records ≡ length old.records
  pub free : old.free ≡ numbers ++ new.free
  pub others : (n : ℕ) → is_among n numbers ≡ false → record_at new n ≡ record_at old n

-- the same, and another record that was taken before
pub record Filled (here : ℕ) (numbers : List ℕ) (old new : RecordQueue) : Type 0 where
  pub layout : new.layout ≡ old.layout
  pub waiting : new.waiting ≡ old.waiting
  pub size : length new.records ≡ length old.records
  pub free : old.free ≡ numbers ++ new.free
  pub others : (n : ℕ) → n ≢ here → is_among n numbers ≡ false → record_at new n ≡ record_at old n

-- a record that was taken for a job, and not yet written
pub record IsTaken (job : ℕ) (q : RecordQueue) (n : ℕ) : Type 0 where
  pub zeros : record_at q n ≡ Some (zero_record job)
  pub in_use : is_among n q.free ≡ false
  pub from_one : 1 ≤ n
  pub within : n ≤ q.layout.most_records

-- the record of what comes next, where there is more
abbrev pub held : Bool → ℕ → List ℕ
held true n = n ∷ []
held false n = []

abbrev pub IsHeld : ℕ → RecordQueue → Bool → ℕ → Type 0
IsHeld job q true n = IsTaken job q n
IsHeld job q false n = n ≡ 0

pub record TakesIf (job : ℕ) (more : Bool) (old new : RecordQueue) (n : ℕ) : Type 0 where
  pub took : Took (held more n) old new
  pub is_held : IsHeld job new more n
  pub most : n ≤ old.layout.most_records

-- A job is written, whose first record was taken before: as from whichever queue that was taken of.
abbrev pub IsWrittenFrom : ℕ → JobPlan → RecordQueue → RecordQueue → ℕ → Type 0
IsWrittenFrom job plan old new first =
    (before : RecordQueue) → IsReady before → TakesIf job true before old first → Written job plan before new first

-- records seen later have these as they are now, and in use
pub record IsKept (q : RecordQueue) (later : Records) (n : ℕ) : Type 0 where
  pub same : later.at n ≡ bytes_or_zeros (record_at q n)
  pub in_use : is_among n later.free ≡ false

abbrev pub Keeps : RecordQueue → List ℕ → Records → Type 0
Keeps q numbers later = (n : ℕ) → is_among n numbers ≡ true → IsKept q later n

-- So many records were taken and written, and are a chain as long as they are kept.
pub record Writes (count : ℕ) (chain : Records → ℕ → List ℕ → Type 0) (old new : RecordQueue) (first : ℕ) : Type 0 where
  pub numbers : List ℕ
  pub count_is : length numbers ≡ count
  pub took : Took numbers old new
  pub most : first ≤ old.layout.most_records
  pub spells : (later : Records) → Keeps new numbers later → chain later first numbers

-- A record that was taken before is written, with so many below it, and is one link of a chain as long as they are kept.
pub record Links {X : Type 0} (job count : ℕ) (chain : Records → ℕ → List ℕ → List X → Type 0) (here_are : List X) (more : Bool) (here : ℕ)
    (old new : RecordQueue) (next : ℕ) : Type 0 where
  pub below : List ℕ
  pub count_is : length below ≡ count
  pub filled : Filled here (below ++ held more next) old new
  pub is_held : IsHeld job new more next
  pub link : (later : Records) (behind : List ℕ) (rest : List X) → Keeps new (here ∷ below) later → chain later next behind rest →
      chain later here (here ∷ (below ++ behind)) (here_are ++ rest)

-- these records are as they are written
abbrev pub AreFresh : Layout → Records → List ℕ → Type 0
AreFresh l later numbers = All (λ n. IsFresh l (later.at n)) numbers

-- the chains of a job as they are written, what they spell as the last argument or before the records
abbrev pub CardsFrom : Layout → ℕ → Records → ℕ → List ℕ → List (List ℕ) → Type 0
CardsFrom l job later first numbers cards = CardChain l later job first numbers cards × AreFresh l later numbers

abbrev pub DdsFrom : Layout → ℕ → Records → ℕ → List ℕ → List DdPlan → Type 0
DdsFrom l job later first numbers dds = DdChain l later job first numbers dds × AreFresh l later numbers

abbrev pub StepsFrom : Layout → ℕ → Records → ℕ → List ℕ → List StepPlan → Type 0
StepsFrom l job later first numbers steps = StepChain l later job first numbers steps × AreFresh l later numbers

abbrev pub OfKind : Layout → ℕ → DdKind → Records → ℕ → List ℕ → Type 0
OfKind l job kind later first numbers = Below l later job first numbers kind × AreFresh l later numbers

abbrev pub OfDds : Layout → ℕ → List DdPlan → Records → ℕ → List ℕ → Type 0
OfDds l job dds later first numbers = DdChain l later job first numbers dds × AreFresh l later numbers

abbrev pub OfSteps : Layout → ℕ → List StepPlan → Records → ℕ → List ℕ → Type 0
OfSteps l job steps later first numbers = StepChain l later job first numbers steps × AreFresh l later numbers

-- how many records they take
abbrev pub cards_needed : List (List ℕ) → ℕ
cards_needed cards = (length cards + 1) / 2

abbrev pub dds_needed : List DdPlan → ℕ
dds_needed dds = sum_by (λ dd. 1 + records_below dd.kind) dds

abbrev pub steps_needed : List StepPlan → ℕ
steps_needed steps = sum_by records_of_step steps

-- there is anything
abbrev pub is_more : {X : Type 0} → List X → Bool
is_more [] = false
is_more (x ∷ xs) = true
