-- What the job's end does with passed sets that were not received.
use Rattle.std.specs.Prelude.{◌≡◌, ℕ, List, [], map, Option, Some, None}
use Rattle.jcl_meaning.specs.Agendas.{Action, Left}
use Rattle.jcl_meaning.specs.Solo.{run}
use Rattle.jcl_meaning.specs.States.{Answers, Fixed}
use Rattle.view_domain.specs.declared.crossed.Stop.{Stop}
use Rattle.view_core.specs.declared.leave.LeftDd.{LeftDd}
use Rattle.view_core.specs.declared.walk.Under.{Under}
use Rattle.view_core.specs.Walks.{RanTo, StopsAt, state_of}

abbrev pub left_action : LeftDd → Action
left_action l = Left l.step l.dd l.plan.now

abbrev pub left_actions : List LeftDd → List Action
left_actions lefts = map left_action lefts

-- these DDs are dealt with, whatever answers are left: all without a fault, or up to the first that meets one
abbrev pub LeavesAll : Fixed → ℕ → List LeftDd → Under → Option Stop → Under → Type 0
LeavesAll fixed steps lefts old None new = (answers : Answers) → RanTo (run fixed (left_actions lefts) (state_of old answers)) (state_of new answers) []
LeavesAll fixed steps lefts old (Some stop) new = (stop.ended ≡ steps)
    × ((answers : Answers) → StopsAt fixed Left (left_actions lefts) (state_of old answers) stop.at stop)
