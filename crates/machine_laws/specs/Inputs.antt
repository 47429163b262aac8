-- What a session puts into the machine, and the events of the machine's definitions.
use Rattle.std.specs.Prelude.{◌≡◌}
use Rattle.session_input.specs.declared.event.Event.{Event}
use Rattle.world_meaning.specs.declared.event.Event as meant
use Rattle.world_meaning.specs.declared.event.Event.TheVariants as event
use Rattle.sched_core.specs.Systems.{meant_by}

-- an event that a session can bring
abbrev pub IsInput : meant.Event → Type 0
IsInput (event.Read deck) = Unit {0}
IsInput (event.Turn number) = Unit {0}
IsInput (event.DeviceEnd serial) = Unit {0}
IsInput (event.Write class) = Unit {0}
IsInput (event.Cancel job) = Unit {0}
IsInput event.Display = Unit {0}
IsInput (event.Zap n offset bytes) = Unit {0}
IsInput (event.Date day) = Unit {0}

-- Inputs and these events are the same, one by one.
pub record AreInputs : Type 0 where
  pub each : (e : meant.Event) → IsInput e → (input : Event) × (meant_by input ≡ e)
  pub only : (input : Event) → IsInput (meant_by input)
  pub once : (one other : Event) → meant_by one ≡ meant_by other → one ≡ other
