-- What events leave of a job's part of the store.
use Rattle.std.specs.Prelude.{◌≡◌, ℕ, List, Some}
use Rattle.jcl_plan.specs.declared.entry.Entry.{Entry}
use Rattle.jcl_plan.specs.declared.plan.JobPlan.{JobPlan}
use Rattle.jcl_meaning.specs.Names.{names_of}
use Rattle.jcl_meaning.specs.Parts.{SamePart}
use Rattle.world_meaning.specs.declared.event.Event.{Event}
use Rattle.world_meaning.specs.Lenses.{seen}
use Rattle.world_meaning.specs.Readings.{Denoting}
use Rattle.world_meaning.specs.Transitions.{Transition}
use Rattle.world_meaning.specs.Worlds.{Running, World}
use Rattle.world_laws.specs.Beside.{IsTurnOf}
use Rattle.law_core.specs.Soundness.{IsSound, RunsAt, named_plan}

-- While a job holds its names, from NAMES until it is over, an event that is no turn of its own initiator leaves its part of the store
-- as it was, but for the tracks of the sets that it shares.
abbrev pub KeepsPart : Type 0
KeepsPart = (job_of : Denoting) (old new : World) (e : Event) (lines : List Entry) (place : ℕ) (r : Running) (plan : JobPlan) →
    IsSound old → (at : RunsAt old place r) → named_plan r.stage ≡ Some plan → ¬ IsTurnOf e at.it →
    Transition job_of old e lines new → SamePart (names_of plan) (seen r.job old.shared.store) (seen r.job new.shared.store)
