-- What happens at an event, beside the table.
use Rattle.std.specs.Prelude.{◌≡◌, ℕ, List, Some, slice_get}
use Rattle.sched_core.specs.declared.state.Initiator.{Initiator}

-- an initiator of the number is at this place
pub record IsSeat (initiators : List Initiator) (number place : ℕ) : Type 0 where
  pub it : Initiator
  pub at : slice_get initiators place ≡ Some it
  pub numbered : it.number ≡ number
