-- Events that are added to a session, and their lines. (This profile)
use Rattle.std.specs.Prelude.{◌≡◌, ℕ, ◌+◌, ◌<◌, true, List, [], ◌∷◌, ◌++◌, codes, decimal, Some}
use Rattle.std.specs.List.{Contains}
use Rattle.session_input.specs.declared.event.Event.{Event}
use Rattle.session_input.specs.declared.event.Event.TheVariants as event
use Rattle.machine_meaning.specs.declared.machine.TheConstants.{MOST_EVENTS}
use Rattle.prog_core.specs.Operations.{is_busy}
use Rattle.session_text.specs.declared.statement.Says.TheVariants.{Events}
use Rattle.session_text.specs.declared.statement.Statement.{Statement}
use Rattle.world_meaning.specs.Worlds.{Initiator, World}
use Rattle.play_core.specs.declared.given.Given.{Given}
use Rattle.play_core.specs.declared.given.Given.TheVariants.{DeviceEnd, Turn}

abbrev pub event_of : Given → Event
event_of (Turn number) = event.Turn number
event_of (DeviceEnd serial) = event.DeviceEnd serial

abbrev pub line_of : Given → List ℕ
line_of (Turn number) = codes "./ TURN " ++ decimal number ++ codes "\n"
line_of (DeviceEnd serial) = codes "./ DEV " ++ serial ++ codes "\n"

-- their statements, of which the first stands at this line
abbrev pub statement_at : ℕ → Given → Statement
statement_at line g = record { line = line; says = Events (event_of g) 1 }

abbrev pub statements_at : ℕ → List Given → List Statement
statements_at line [] = []
statements_at line (g ∷ given) = statement_at line g ∷ statements_at (line + 1) given

-- an initiator has the number; an operation is under way on the volume
abbrev pub IsFor : World → Given → Type 0
IsFor w (Turn number) = (x : Initiator) × Contains w.initiators x × (x.number ≡ number)
IsFor w (DeviceEnd serial) = Contains w.config.volumes serial × (is_busy w.shared.operations (Some serial) ≡ true)

-- the machine takes it, and the limit of events is not reached
pub record IsTaken (w : World) (g : Given) : Type 0 where
  pub below : w.events < MOST_EVENTS
  pub is_for : IsFor w g
