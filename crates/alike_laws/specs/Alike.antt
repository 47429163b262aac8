-- An event at machines that are the same but for what is open in records. (This profile)
use Rattle.std.specs.Prelude.{◌≡◌, List}
use Rattle.jcl_plan.specs.declared.entry.Entry.{Entry}
use Rattle.world_meaning.specs.declared.event.Event.{Event}
use Rattle.world_meaning.specs.Choices.{Choice, choice_of}
use Rattle.world_meaning.specs.Readings.{Denoting}
use Rattle.world_meaning.specs.Records.{IsQueueLayout}
use Rattle.world_meaning.specs.Transitions.{Transition}
use Rattle.world_meaning.specs.Worlds.{World}
use Rattle.open_laws.specs.Open.{IsSameButOpen}

-- The event leads from this machine, with the same lines and where the same is open, to one that is the same as another.
pub record LeadsAlike (job_of : Denoting) (old : World) (e : Event) (lines : List Entry) (other : World) (choice : Choice) : Type 0 where
  pub new : World
  pub transition : Transition job_of old e lines new
  pub chosen : choice_of transition ≡ choice
  pub same : IsSameButOpen new other

-- So does each event that leads there from a machine that is the same as this one.
abbrev pub EventsGoAlike : Type 0
EventsGoAlike = (job_of : Denoting) (old beside other : World) (e : Event) (lines : List Entry) → IsQueueLayout old.config.layout → IsSameButOpen old beside →
    (t : Transition job_of beside e lines other) → LeadsAlike job_of old e lines other (choice_of t)
