-- Records in which a job is written as READ writes it. (This profile)
use Rattle.std.specs.Prelude.{◌≡◌, ℕ, List, All}
use Rattle.jcl_plan.specs.declared.entry.Entry.{Entry}
use Rattle.jcl_plan.specs.declared.plan.JobPlan.{JobPlan}
use Rattle.cb_meaning.specs.declared.layout.Layout.{Layout}
use Rattle.cb_meaning.specs.Needs.{IsPacked}
use Rattle.cb_meaning.specs.Spelled.{Denotes, Records}
use Rattle.walk_laws.specs.WalkLaws.{AreRecords, IsRecord}
use Rattle.world_meaning.specs.declared.event.Event.TheVariants as event
use Rattle.world_meaning.specs.Readings.{Denoting}
use Rattle.world_meaning.specs.Records.{AgreeBut, IsQueueLayout, open_fields}
use Rattle.world_meaning.specs.Transitions.{Happens}
use Rattle.world_meaning.specs.Worlds.{World}
use Rattle.open_laws.specs.Open.{IsSameButOpen}

-- whole records of bytes, the cards of a DD two in a record
pub record ArePacked (l : Layout) (q : Records) (numbers : List ℕ) : Type 0 where
  pub whole : All (λ n. IsRecord (q.at n)) numbers
  pub packed : All (λ n. IsPacked l (q.at n)) numbers

-- By these numbers a job has one spelling, but for what is open.
abbrev pub JobIsSpelledOnce : Type 0
JobIsSpelledOnce = (l : Layout) (units job : ℕ) (numbers : List ℕ) (plan : JobPlan) (one other : Records) → ArePacked l one numbers →
    ArePacked l other numbers → Denotes l units one job numbers plan → Denotes l units other job numbers plan →
    All (λ n. AgreeBut (open_fields l (one.at n)) (one.at n) (other.at n)) numbers

-- From one machine a deck that is read leads to the same lines, and to machines that are the same but for what is open.
pub record IsSameReading (told others : List Entry) (one other : World) : Type 0 where
  pub lines : others ≡ told
  pub same : IsSameButOpen one other

abbrev pub ReadsAreDecided : Type 0
ReadsAreDecided = (job_of : Denoting) (w one other : World) (deck : List (List ℕ)) (lines more : List Entry) → IsQueueLayout w.config.layout →
    AreRecords one.shared.records → AreRecords other.shared.records → Happens job_of w (event.Read deck) lines one →
    Happens job_of w (event.Read deck) more other → IsSameReading lines more one other
