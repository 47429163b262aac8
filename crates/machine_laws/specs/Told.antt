-- What the bytes that a session writes tell of each S222 and of each SB37. (This profile)
use Rattle.std.specs.Prelude.{◌≡◌, ℕ, ◌<◌, ◌≤◌, List, [], ◌∷◌, ◌++◌, Result, codes, filter, length}
use Rattle.std.specs.Str.{bytes_eq}
use Rattle.jcl_plan.specs.declared.entry.Entry.{Entry}
use Rattle.jcl_plan.specs.declared.entry.Entry.TheVariants as entry
use Rattle.jcl_plan.specs.declared.entry.JobLine.TheVariants as line
use Rattle.jcl_plan.specs.declared.outcome.Abend.TheVariants.{S222, SB37}
use Rattle.jcl_plan.specs.Lines.{entry_text, job_line_text}
use Rattle.machine_meaning.specs.declared.machine.TheConstants.{MOST_JOBS}
use Rattle.line_laws.specs.Lines.{IsLineStart, whole_lines}
use Rattle.run_options.specs.declared.Options.{Options}
use Rattle.session_input.specs.declared.event.Event.{Event}
use Rattle.session_text.specs.declared.statement.Ending.{Ending}
use Rattle.session_text.specs.declared.statement.Statement.{Statement}
use Rattle.sched_core.specs.Systems.{Machine, Steps, world_of}
use Rattle.session_core.specs.declared.SessionEnd.{SessionEnd}
use Rattle.session_core.specs.declared.SessionFault.{SessionFault}
use Rattle.session_core.specs.Outcomes.{IsOutcome}
use Rattle.session_core.specs.Sessions.{session_of}
use Rattle.machine_laws.specs.Deciding.{IsRefusedGrowth}
use Rattle.machine_laws.specs.Kept.{IsBefore}

-- how many of the whole lines of a text are this one
abbrev pub count_lines : List ℕ → List ℕ → ℕ
count_lines its text = length (filter (bytes_eq its) (whole_lines text))

-- In front of each line `nnnn ABEND S222` stand more lines `-- CANCEL nnnn` than such lines: one of the cancels is still unused.
abbrev pub WrittenCancelsComeFirst : Type 0
WrittenCancelsComeFirst = (o : Options) (ending : Ending) (text : List ℕ) (result : Result SessionEnd SessionFault) (written front behind : List ℕ) (job : ℕ) →
    job ≤ MOST_JOBS → IsOutcome o (session_of ending text) result written → IsLineStart front →
    written ≡ front ++ (job_line_text job (line.Abend S222) ++ (codes "\n" ++ behind)) →
    count_lines (job_line_text job (line.Abend S222)) front < count_lines (entry_text (entry.Cancel job)) front

-- The machine to which the events before come, and the event there: its one line is SB37, and it is a request of the job for tracks that the volumes, as they
-- were, had no room for.
pub record IsRefusedInText (o : Options) (stands : List Statement) (job : ℕ) (front : List ℕ) : Type 0 where
  pub old : Machine
  pub before : IsBefore o stands front old
  pub event : Event
  pub next : Machine
  pub lines : List Entry
  pub step : Steps old event lines (world_of next)
  pub only : lines ≡ entry.Job job (line.Abend SB37) ∷ []
  pub growth : IsRefusedGrowth old event lines (world_of next) step job

-- So is each line `nnnn ABEND SB37`.
abbrev pub WrittenGrowthIsRefused : Type 0
WrittenGrowthIsRefused = (o : Options) (ending : Ending) (text : List ℕ) (result : Result SessionEnd SessionFault) (written front behind : List ℕ) (job : ℕ) →
    job ≤ MOST_JOBS → IsOutcome o (session_of ending text) result written → IsLineStart front →
    written ≡ front ++ (job_line_text job (line.Abend SB37) ++ (codes "\n" ++ behind)) →
    IsRefusedInText o (session_of ending text).stands job front
