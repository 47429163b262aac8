use Rattle.std.proofs.Common.{◌≡◌, ◌∙◌, ap, refl, sym}
use Rattle.session_input.specs.declared.event.Event.{Event}
use Rattle.session_input.specs.declared.event.Event.TheVariants as input
use Rattle.world_meaning.specs.declared.event.Event as meant
use Rattle.world_meaning.specs.declared.event.Event.TheVariants as event
use Rattle.machine_laws.specs.Inputs.{IsInput}
use Rattle.sched_core.specs.Systems.{meant_by}
use Rattle.machine_laws.proofs.inputs_are_events.Goals as goal

input_of : (e : meant.Event) → IsInput e → (i : Event) × (meant_by i ≡ e)
input_of (event.Read deck) is = (input.Read deck, refl)
input_of (event.Turn number) is = (input.Turn number, refl)
input_of (event.DeviceEnd serial) is = (input.DeviceEnd serial, refl)
input_of (event.Write class) is = (input.Write class, refl)
input_of (event.Cancel job) is = (input.Cancel job, refl)
input_of event.Display is = (input.Display, refl)
input_of (event.Zap n offset bytes) is = (input.Zap n offset bytes, refl)
input_of (event.Date day) is = (input.Date day, refl)

is_input : (i : Event) → IsInput (meant_by i)
is_input (input.Read deck) = tt
is_input (input.Turn number) = tt
is_input (input.DeviceEnd serial) = tt
is_input (input.Write class) = tt
is_input (input.Cancel job) = tt
is_input (input.Zap n offset bytes) = tt
is_input input.Display = tt
is_input (input.Date day) = tt

-- the input back again
unfoldable input_again : (other : Event) → meant.Event → Event
input_again other (event.Read deck) = input.Read deck
input_again other (event.Turn number) = input.Turn number
input_again other (event.DeviceEnd serial) = input.DeviceEnd serial
input_again other (event.Write class) = input.Write class
input_again other (event.Cancel job) = input.Cancel job
input_again other event.Display = input.Display
input_again other (event.Zap n offset bytes) = input.Zap n offset bytes
input_again other (event.Date day) = input.Date day

again_is : (other i : Event) → input_again other (meant_by i) ≡ i
unfolding input_again
again_is other (input.Read deck) = refl
again_is other (input.Turn number) = refl
again_is other (input.DeviceEnd serial) = refl
again_is other (input.Write class) = refl
again_is other (input.Cancel job) = refl
again_is other (input.Zap n offset bytes) = refl
again_is other input.Display = refl
again_is other (input.Date day) = refl

pub returns : goal.returns
returns c = record {
  each = input_of;
  only = is_input;
  once = λ one other e. sym (again_is input.Display one) ∙ ap (input_again input.Display) e ∙ again_is input.Display other;
}
