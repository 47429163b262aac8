-- The machine that events leave, and what is listed of them.
use Rattle.std.specs.Prelude.{◌≡◌, ℕ, List, []}
use Rattle.std.specs.Io.KnownBytes.{Appends}
use Rattle.jcl_plan.specs.declared.entry.Entry.{Entry}
use Rattle.session_input.specs.declared.event.Event.{Event}
use Rattle.sched_core.specs.Systems.{Machine, Steps, world_of}
use Rattle.session_core.specs.Running.{AreApplied}
use Rattle.session_core.specs.Streams.{SinkState}

-- It is the machine that was reached; or memory was wanting for the lines of one event more, and it is a step further on.
pub data IsLeft (reached new : Machine) : Type 0 where
  reached_so : new ≡ reached → IsLeft reached new
  further : (event : Event) (lines : List Entry) → Steps reached event lines (world_of new) → IsLeft reached new

-- The events that led from one machine to another, and the text with all of their lines behind a text that was there.
pub record ListsWhole (old new : Machine) (text new_text : List ℕ) : Type 0 where
  pub events : List Event
  pub reached : Machine
  pub applied : AreApplied old events reached text new_text
  pub left : IsLeft reached new

-- What was written is the listing of the events that led from one machine to another: of all that were done, but for one whose lines no
-- memory could hold.
pub record WritesWhole (sink sink_after : SinkState) (old new : Machine) : Type 0 where
  pub written : List ℕ
  pub appended : Appends sink.contents sink_after.contents written
  pub lists : ListsWhole old new [] written
