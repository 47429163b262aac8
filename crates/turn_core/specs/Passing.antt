-- Actions that a turn passes over: they say nothing and leave the job's own part as it is.
use Rattle.std.specs.Prelude.{◌≡◌, ℕ, ◌+◌, ◌-◌, Bool, false, not, ◌&&◌, List, [], ◌∷◌, drop, slice_get, Option, is_some}
use Rattle.jcl_plan.specs.declared.plan.DdKind.{DdKind}
use Rattle.jcl_plan.specs.declared.plan.DdKind.TheVariants.{Sysout, Dummy, Cards, Set}
use Rattle.jcl_plan.specs.declared.plan.StepPlan.{StepPlan}
use Rattle.jcl_meaning.specs.declared.program.Move.{Move}
use Rattle.jcl_meaning.specs.declared.state.Own.{Own}
use Rattle.jcl_meaning.specs.declared.state.Passed.{Passed}
use Rattle.jcl_meaning.specs.Agendas.{Action, Start, Take, Ask, Receive, Finish, Dispose, Left, Over}
use Rattle.jcl_meaning.specs.EndActs.{passed_by}
use Rattle.jcl_meaning.specs.States.{Answers, Fixed, asks_open}
use Rattle.jcl_meaning.specs.Stores.{Store}
use Rattle.world_meaning.specs.Turns.{advance, state_in}
use Rattle.turn_core.specs.Places.{IsThere, action_of, agenda_at}
use Rattle.turn_core.specs.declared.todo.Todo.{Todo}
use Rattle.turn_core.specs.declared.todo.Task.{Task}
use Rattle.turn_core.specs.declared.todo.Next.{Next}
use Rattle.turn_core.specs.declared.todo.Next.TheVariants as next

-- something that a DD for a set passed is still there
abbrev pub is_left : DdKind → Option Passed → Bool
is_left (Sysout class) passed = false
is_left Dummy passed = false
is_left (Cards cards) passed = false
is_left (Set p) passed = is_some passed

abbrev pub is_idle : Action → Own → Bool
is_idle (Start n step) own = false
is_idle (Take n dd d) own = not own.runs
is_idle (Ask step move) own = not (asks_open own)
is_idle Receive own = not (asks_open own && is_some own.due)
is_idle (Finish n) own = not own.runs
is_idle (Dispose n dd d) own = not (own.runs && is_some (slice_get own.dds (dd - 1)))
is_idle (Left n dd d) own = not (is_left d.kind (passed_by own.passed n dd))
is_idle Over own = false

-- a turn from the one list of actions is one from the other, whatever the answers, so many actions further on
pub record Passes (own : Own) (from to : List Action) : Type 0 where
  pub passed : ℕ
  pub left : drop passed from ≡ to
  pub same : (answers : Action → Own → Answers) (fixed : Fixed) (seen : Store) (count : ℕ) →
      advance answers fixed from (state_in seen own) count ≡ advance answers fixed to (state_in seen own) (count + passed)

-- so from one place of the agenda to another
abbrev pub PassesTo : (List ℕ → List Move) → List StepPlan → Own → Todo → Todo → Type 0
PassesTo moves steps own from to = Passes own (agenda_at moves steps from) (agenda_at moves steps to)

-- the first action from a place on that is not passed over, and the place behind it
pub record Finds (moves : List ℕ → List Move) (steps : List StepPlan) (own : Own) (place : Todo) (it : Task) (behind : Todo) : Type 0 where
  pub passes : Passes own (agenda_at moves steps place) (action_of steps it ∷ agenda_at moves steps behind)
  pub acts : is_idle (action_of steps it) own ≡ false
  pub there : IsThere steps it

abbrev pub IsFound : (List ℕ → List Move) → List StepPlan → Own → Todo → Next → Type 0
IsFound moves steps own place (next.Does it behind) = Finds moves steps own place it behind
IsFound moves steps own place next.Over = Passes own (agenda_at moves steps place) (Over ∷ [])
