-- An event has one list of lines, where the table leaves nothing open.
use Rattle.std.specs.Prelude.{◌≡◌, Bool, true, false, List, [], ◌∷◌, Some, ℕ}
use Rattle.jcl_plan.specs.declared.entry.Entry.{Entry}
use Rattle.jcl_plan.specs.declared.entry.JobLine.{JobLine}
use Rattle.jcl_plan.specs.declared.entry.JobLine.TheVariants as line
use Rattle.world_meaning.specs.declared.event.Event.{Event}
use Rattle.world_meaning.specs.Readings.{Denoting}
use Rattle.world_meaning.specs.Transitions.{Transition}
use Rattle.world_meaning.specs.Turns.{Advanced, advanced}
use Rattle.world_meaning.specs.Worlds.{Admitted, Config, Named, Running, Selected, Shared, Stage, Wanting, World}
use Rattle.world_laws.specs.Beside.{IsTurnOf}
use Rattle.law_core.specs.Soundness.{IsSound, RunsAt}

-- a set grows for a PUT
abbrev pub is_growth : List JobLine → Bool
is_growth (line.PutStart name serial (Some tracks) ∷ lines) = true
is_growth other = false

-- what an action needs no leave for: it makes no set and grows none
pub record AsksNothing (x : Advanced) : Type 0 where
  pub made : x.done.made ≡ []
  pub grown : is_growth x.done.lines ≡ false

-- What a job does next is decided: its records are to be read, or its names to be held; or its next line asks nothing, when all is granted.
-- Whether and how a job with its names is admitted is open.
abbrev pub HasNoChoice : Config → Shared → ℕ → Stage → Type 0
HasNoChoice c s job (Selected first) = Unit {0}
HasNoChoice c s job (Wanting plan) = Unit {0}
HasNoChoice c s job (Named plan) = ⊥
HasNoChoice c s job (Admitted plan a count own) = (x : Advanced) → advanced c s job plan a count own true true ≡ Some x → AsksNothing x

-- the event is no turn of a job for which something is open
abbrev pub LeavesNoneOpen : World → Event → Type 0
LeavesNoneOpen w e = (place : ℕ) (r : Running) (run : RunsAt w place r) → IsTurnOf e run.it → HasNoChoice w.config w.shared r.job r.stage

-- The table leaves no freedom in the lines of such an event.
abbrev pub LinesAreDetermined : Type 0
LinesAreDetermined = (job_of : Denoting) (w one other : World) (e : Event) (lines more : List Entry) → IsSound w → LeavesNoneOpen w e →
    Transition job_of w e lines one → Transition job_of w e more other → lines ≡ more
