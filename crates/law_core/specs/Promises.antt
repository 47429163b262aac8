-- The promise of each ASSURED line among the lines of an event.
use Rattle.std.specs.Prelude.{ℕ, List}
use Rattle.std.specs.List.{Contains}
use Rattle.jcl_plan.specs.declared.entry.Entry.{Entry}
use Rattle.jcl_plan.specs.declared.entry.Entry.TheVariants as entry
use Rattle.jcl_plan.specs.declared.entry.JobLine.TheVariants as line
use Rattle.world_meaning.specs.declared.event.Event.{Event}
use Rattle.world_meaning.specs.Headlines.{IsPromised}
use Rattle.world_meaning.specs.Readings.{Denoting}
use Rattle.world_meaning.specs.Starts.{IsStart}
use Rattle.world_meaning.specs.Transitions.{Runs, Transition}
use Rattle.world_meaning.specs.Worlds.{World}

-- Whatever led to the machine from a start, the job of each ASSURED t TRACKS b ACTIONS among the lines of the next event is promised.
abbrev pub PromisesAreKept : Type 0
PromisesAreKept = (job_of : Denoting) (start w v : World) (before : List Event) (told : List (List Entry)) (e : Event) (lines : List Entry)
    (job tracks stated : ℕ) → IsStart start → Runs job_of start before told w → Transition job_of w e lines v →
    Contains lines (entry.Job job (line.Assured tracks stated)) → IsPromised job_of w v job stated
