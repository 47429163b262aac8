-- A session has one outcome. (This profile)
use Rattle.std.specs.Prelude.{◌≡◌, ◌≢◌, ◌⊎◌, ℕ, Bool, true, false, List, ◌++◌, Option, Some, None, Result, Ok, Err}
use Rattle.jcl_plan.specs.declared.entry.Entry.TheVariants as entry
use Rattle.jcl_plan.specs.declared.entry.JobLine.TheVariants as line
use Rattle.jcl_plan.specs.declared.fault.Fault as of_job
use Rattle.jcl_plan.specs.declared.outcome.Outcome.{Outcome}
use Rattle.jcl_plan.specs.Lines.{text_of}
use Rattle.run_options.specs.declared.Options.{Options}
use Rattle.session_text.specs.declared.fault.Fault.{Fault}
use Rattle.session_text.specs.declared.statement.Ending.{Ending}
use Rattle.session_core.specs.declared.SessionEnd.{SessionEnd}
use Rattle.session_core.specs.declared.SessionFault.{SessionFault}
use Rattle.session_core.specs.declared.SessionFault.TheVariants.{Memory, Stopped, WriteFailed}
use Rattle.session_core.specs.Outcomes.{IsOutcome}
use Rattle.session_core.specs.Sessions.{session_of}
use Rattle.machine_laws.specs.Listing.{GoesOn}

-- the answer is neither a write fault nor want of memory
abbrev pub is_whole : Result SessionEnd SessionFault → Bool
is_whole (Ok end) = true
is_whole (Err (Stopped fault line)) = true
is_whole (Err (WriteFailed line)) = false
is_whole (Err Memory) = false

-- the fault of the session that it tells, with its line
abbrev pub fault_told : Result SessionEnd SessionFault → Option (Fault × ℕ)
fault_told (Ok end) = None
fault_told (Err (Stopped fault line)) = Some (fault, line)
fault_told (Err (WriteFailed line)) = None
fault_told (Err Memory) = None

-- Two answers of one session, and what is written with them: two whole ones tell the same and write the same, what is written with another is the front of what
-- a whole one writes, and of any two the one is the front of the other.
pub record IsOneOutcome (result other_result : Result SessionEnd SessionFault) (one other : List ℕ) : Type 0 where
  pub told : is_whole result ≡ true → is_whole other_result ≡ true → fault_told result ≡ fault_told other_result
  pub same : is_whole result ≡ true → is_whole other_result ≡ true → one ≡ other
  pub front : is_whole other_result ≡ true → GoesOn one other
  pub back : is_whole result ≡ true → GoesOn other one
  pub cut : GoesOn one other ⊎ GoesOn other one

-- What is written stands in front of two texts that part first at a RISK of one job at one step and DD, of which another path or another fault is told.
pub record PartInText (one other : List ℕ) : Type 0 where
  pub before : List ℕ
  pub job : ℕ
  pub step : ℕ
  pub dd : ℕ
  pub fault : of_job.Fault
  pub other_fault : of_job.Fault
  pub path : List Outcome
  pub other_path : List Outcome
  pub behind : List ℕ
  pub other_behind : List ℕ
  pub one_so : GoesOn one (before ++ (text_of (entry.Job job (line.Risk fault step dd path)) ++ behind))
  pub other_so : GoesOn other (before ++ (text_of (entry.Job job (line.Risk other_fault step dd other_path)) ++ other_behind))
  pub differ : (fault ≢ other_fault) ⊎ (path ≢ other_path)

-- Of one text, one ending of it and one choice of options there is one outcome, or two listings part at such a RISK.
abbrev pub OneOutcome : Type 0
OneOutcome = (o : Options) (ending : Ending) (text : List ℕ) (result other_result : Result SessionEnd SessionFault) (one other : List ℕ) →
    IsOutcome o (session_of ending text) result one → IsOutcome o (session_of ending text) other_result other →
    IsOneOutcome result other_result one other ⊎ PartInText one other
