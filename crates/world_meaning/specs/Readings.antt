-- A deck is read: READ, or REJECTED with its cause.
use Rattle.std.specs.Prelude.{◌≡◌, ℕ, ◌+◌, ◌<◌, ◌≤◌, List, [], ◌∷◌, ◌++◌, All, length, Result, Ok, Err, false}
use Rattle.cb_meaning.specs.Needs.{IsPacked, records_needed}
use Rattle.cb_meaning.specs.Spelled.{Denotes, Records}
use Rattle.cb_meaning.specs.Walks.{is_free}
use Rattle.jcl_plan.specs.declared.entry.Entry.{Entry}
use Rattle.jcl_plan.specs.declared.entry.Entry.TheVariants as entry
use Rattle.jcl_plan.specs.declared.entry.JobLine.{JobLine}
use Rattle.jcl_plan.specs.declared.entry.JobLine.TheVariants as line
use Rattle.jcl_plan.specs.declared.fault.Cause.{Cause}
use Rattle.jcl_plan.specs.declared.fault.Cause.TheVariants.{A, Q}
use Rattle.jcl_plan.specs.declared.fault.EventFault.TheVariants.{PastLimit}
use Rattle.jcl_plan.specs.declared.fault.QueueFault.TheVariants.{Full}
use Rattle.jcl_plan.specs.declared.plan.JobPlan.{JobPlan}
use Rattle.machine_meaning.specs.declared.machine.TheConstants.{MOST_JOBS}
use Rattle.world_meaning.specs.Records.{AgreeBut, open_fields}
use Rattle.world_meaning.specs.Worlds.{Config, Waiting, World, of_job}

-- the job that a deck denotes, or why it is rejected
abbrev pub Denoting : Type 0
Denoting = List (List ℕ) → Result JobPlan Cause

abbrev pub read_line : JobPlan → JobLine
read_line plan = line.Read plan.name plan.class plan.priority

abbrev pub waits : ℕ → ℕ → JobPlan → Waiting
waits job first plan = record { job = job; class = plan.class; priority = plan.priority; first = first; listing = read_line plan ∷ [] }

-- The first free records are taken, in the order of writing, as many as the job needs, its cards two in a record, and denote the job; those of other jobs
-- differ in what is open alone.
pub record IsWritten (c : Config) (old new : Records) (job : ℕ) (plan : JobPlan) (first : ℕ) : Type 0 where
  pub behind : List ℕ
  pub taken : old.free ≡ first ∷ (behind ++ new.free)
  pub needed : length (first ∷ behind) ≡ records_needed plan
  pub packed : All (λ n. IsPacked c.layout (new.at n)) (first ∷ behind)
  pub denoted : Denotes c.layout (length c.units) new job (first ∷ behind) plan
  pub others : (n : ℕ) → is_free old n ≡ false → AgreeBut (open_fields c.layout (old.at n)) (old.at n) (new.at n)

-- REJECTED x, READ
pub data Reads (job_of : Denoting) (old : World) (deck : List (List ℕ)) (lines : List Entry) (new : World) : Type 0 where
  no_number : MOST_JOBS ≤ old.jobs → lines ≡ entry.Refused (A PastLimit) ∷ [] → new ≡ old → Reads job_of old deck lines new
  rejected : (cause : Cause) → old.jobs < MOST_JOBS → job_of deck ≡ Err cause →
      lines ≡ of_job (old.jobs + 1) (line.Rejected cause ∷ []) → new ≡ record old { jobs = old.jobs + 1 } → Reads job_of old deck lines new
  full : (plan : JobPlan) → old.jobs < MOST_JOBS → job_of deck ≡ Ok plan → length old.shared.records.free < records_needed plan →
      lines ≡ of_job (old.jobs + 1) (line.Rejected (Q Full) ∷ []) → new ≡ record old { jobs = old.jobs + 1 } → Reads job_of old deck lines new
  read : (plan : JobPlan) (first : ℕ) (records : Records) → old.jobs < MOST_JOBS → job_of deck ≡ Ok plan →
      IsWritten old.config old.shared.records records (old.jobs + 1) plan first → lines ≡ of_job (old.jobs + 1) (read_line plan ∷ []) →
      new ≡ record old {
        jobs = old.jobs + 1;
        waiting = old.waiting ++ waits (old.jobs + 1) first plan ∷ [];
        shared = record old.shared { records = records };
      } → Reads job_of old deck lines new
