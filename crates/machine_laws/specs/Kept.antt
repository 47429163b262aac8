-- What the bytes that a session writes promise of each job that they call ASSURED. (This profile)
use Rattle.std.specs.Prelude.{◌≡◌, ℕ, ◌≤◌, true, List, ◌++◌, Result, codes, length, map, take}
use Rattle.std.specs.List.{Contains}
use Rattle.jcl_plan.specs.declared.entry.Entry.{Entry}
use Rattle.jcl_plan.specs.declared.entry.JobLine.TheVariants as line
use Rattle.jcl_plan.specs.Lines.{job_line_text}
use Rattle.jcl_meaning.specs.declared.solo.SoloAnswers.{SoloAnswers}
use Rattle.jcl_meaning.specs.Solo.{Ran, is_clean}
use Rattle.cb_meaning.specs.declared.layout.TheConstants.{QUEUE_LAYOUT}
use Rattle.machine_meaning.specs.declared.machine.TheConstants.{MOST_JOBS}
use Rattle.world_meaning.specs.Admissions.{fixed_at}
use Rattle.world_meaning.specs.Headlines.{IsPromised, assured_lines, solo_in}
use Rattle.line_laws.specs.Lines.{IsLineStart, lines_of_job}
use Rattle.run_options.specs.declared.Options.{Options}
use Rattle.session_input.specs.declared.event.Event.{Event}
use Rattle.session_text.specs.declared.statement.Ending.{Ending}
use Rattle.session_text.specs.declared.statement.Statement.{Statement}
use Rattle.sched_core.specs.Starting.{IsStarted}
use Rattle.sched_core.specs.Systems.{Drives, Machine, Steps, denoting, world_of}
use Rattle.session_core.specs.declared.SessionEnd.{SessionEnd}
use Rattle.session_core.specs.declared.SessionFault.{SessionFault}
use Rattle.session_core.specs.Listings.{text_of_all}
use Rattle.session_core.specs.Outcomes.{IsOutcome}
use Rattle.session_core.specs.Sessions.{configuration_of, refuses_in, session_of}

-- The machine that these statements configure comes, by the first of the session's events, to the machine before the one that is answered; what these events
-- list stands in front of the line.
pub record IsBefore (o : Options) (stands : List Statement) (front : List ℕ) (old : Machine) : Type 0 where
  pub first : Machine
  pub started : IsStarted (configuration_of stands) (refuses_in o) o.views o.explains QUEUE_LAYOUT first
  pub events : List Event
  pub entries : List (List Entry)
  pub drives : Drives first events entries old
  pub front_so : front ≡ text_of_all entries

-- What an ASSURED line in the bytes promises: the next event answers its job so, by this line alone, with the numbers that are written there. The job's records
-- denote a plan there (`promised`, with the places of its sets and its budget). For some answers the solo meaning of that plan, in the store as the job sees it there, meets no fault; the whole lines
-- behind that begin with the job's number are the texts of its first lines, all of them where END is among them, and no more than the line says.
pub record IsKeptInText (o : Options) (stands : List Statement) (job : ℕ) (front text behind : List ℕ) : Type 0 where
  pub old : Machine
  pub before : IsBefore o stands front old
  pub tracks : ℕ
  pub stated : ℕ
  pub text_so : text ≡ job_line_text job (line.Assured tracks stated)
  pub event : Event
  pub next : Machine
  pub step : Steps old event (assured_lines job tracks stated) (world_of next)
  pub promised : IsPromised (denoting old) (world_of old) (world_of next) job stated
  pub answers : SoloAnswers
  pub solo : Ran
  pub its_solo : solo ≡ solo_in (world_of old) job promised.plan (fixed_at (world_of old).config (world_of old).shared job promised.plan promised.places) answers
  pub clean : is_clean solo ≡ true
  pub count : ℕ
  pub lines : lines_of_job job behind ≡ map (job_line_text job) (take count solo.lines)
  pub whole : Contains (lines_of_job job behind) (job_line_text job line.End) → lines_of_job job behind ≡ map (job_line_text job) solo.lines
  pub few : length (lines_of_job job behind) ≤ stated

-- So of each ASSURED line in the bytes that are written of a text, whichever way it was read and however the writing ended.
abbrev pub AssuredLinesAreKept : Type 0
AssuredLinesAreKept = (o : Options) (ending : Ending) (text : List ℕ) (result : Result SessionEnd SessionFault) (written front behind : List ℕ)
    (job tracks stated : ℕ) → job ≤ MOST_JOBS → IsOutcome o (session_of ending text) result written → IsLineStart front →
    written ≡ front ++ (job_line_text job (line.Assured tracks stated) ++ (codes "\n" ++ behind)) →
    IsKeptInText o (session_of ending text).stands job front (job_line_text job (line.Assured tracks stated)) behind
