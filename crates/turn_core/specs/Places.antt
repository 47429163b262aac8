-- What is left of a job's agenda at a place of it, and the action there.
use Rattle.std.specs.Prelude.{◌≡◌, ℕ, ◌+◌, ◌-◌, ◌<◌, List, [], ◌∷◌, ◌++◌, length, drop, slice_get, Option, Some, None}
use Rattle.jcl_plan.specs.declared.plan.DdPlan.{DdPlan}
use Rattle.jcl_plan.specs.declared.plan.StepPlan.{StepPlan}
use Rattle.jcl_meaning.specs.declared.program.Move.{Move}
use Rattle.jcl_meaning.specs.Agendas.{Action, Start, Take, Ask, Receive, Finish, Dispose, Left, Over, disposes_from, lefts_from, lefts_in, moves_from, steps_from, takes_from}
use Rattle.job_text.specs.Places.{IsDd, IsStep, dd_at, step_at}
use Rattle.turn_core.specs.declared.todo.Todo.{Todo}
use Rattle.turn_core.specs.declared.todo.Todo.TheVariants as todo
use Rattle.turn_core.specs.declared.todo.Task.{Task}
use Rattle.turn_core.specs.declared.todo.Task.TheVariants as task
use Rattle.turn_core.specs.declared.todo.Next.{Next}
use Rattle.turn_core.specs.declared.todo.Next.TheVariants as next

-- from a step on, from 0
abbrev pub steps_left : (List ℕ → List Move) → List StepPlan → ℕ → List Action
steps_left moves steps k = steps_from moves (k + 1) (drop k steps) ++ (lefts_from 1 steps ++ (Over ∷ []))

-- from a disposition of a step on, from a request of its program on, from the taking of a DD on
abbrev pub disposes_left : (List ℕ → List Move) → List StepPlan → ℕ → ℕ → StepPlan → List Action
disposes_left moves steps k d step = disposes_from (k + 1) (d + 1) (drop d step.dds) ++ steps_left moves steps (k + 1)

abbrev pub requests_left : (List ℕ → List Move) → List StepPlan → ℕ → ℕ → StepPlan → List Action
requests_left moves steps k r step = moves_from step (drop r (moves step.program)) ++ (Finish (k + 1) ∷ disposes_left moves steps k 0 step)

abbrev pub takes_left : (List ℕ → List Move) → List StepPlan → ℕ → ℕ → StepPlan → List Action
takes_left moves steps k d step = takes_from (k + 1) (d + 1) (drop d step.dds) ++ requests_left moves steps k 0 step

-- what the DDs passed, from one of a step on
abbrev pub lefts_left : Option StepPlan → List StepPlan → ℕ → ℕ → List Action
lefts_left None behind k d = []
lefts_left (Some step) behind k d = lefts_in (k + 1) (d + 1) (drop d step.dds) ++ lefts_from (k + 1 + 1) behind

-- where there is no such step the job's end alone is left
abbrev pub in_step : Option StepPlan → (StepPlan → List Action) → List Action
in_step None actions = Over ∷ []
in_step (Some step) actions = actions step

abbrev pub agenda_at : (List ℕ → List Move) → List StepPlan → Todo → List Action
agenda_at moves steps (todo.Start k) = steps_left moves steps k
agenda_at moves steps (todo.Take k d) = in_step (slice_get steps k) (λ step. takes_left moves steps k d step)
agenda_at moves steps (todo.Ask k r) = in_step (slice_get steps k) (λ step. requests_left moves steps k r step)
agenda_at moves steps (todo.Receive k r) = Receive ∷ in_step (slice_get steps k) (λ step. requests_left moves steps k r step)
agenda_at moves steps (todo.Dispose k d) = in_step (slice_get steps k) (λ step. disposes_left moves steps k d step)
agenda_at moves steps (todo.Left k d) = lefts_left (slice_get steps k) (drop (k + 1) steps) k d ++ (Over ∷ [])

abbrev pub action_of : List StepPlan → Task → Action
action_of steps (task.Start n) = Start n (step_at steps (n - 1))
action_of steps (task.Take n dd) = Take n dd (dd_at (step_at steps (n - 1)).dds (dd - 1))
action_of steps (task.Ask n wants) = Ask (step_at steps (n - 1)) wants
action_of steps task.Receive = Receive
action_of steps (task.Finish n) = Finish n
action_of steps (task.Dispose n dd) = Dispose n dd (dd_at (step_at steps (n - 1)).dds (dd - 1))
action_of steps (task.Left n dd) = Left n dd (dd_at (step_at steps (n - 1)).dds (dd - 1))

-- the job has what an action is about
abbrev pub IsThere : List StepPlan → Task → Type 0
IsThere steps (task.Start n) = IsStep steps n
IsThere steps (task.Take n dd) = IsDd steps n dd
IsThere steps (task.Ask n wants) = IsStep steps n
IsThere steps task.Receive = Unit {0}
IsThere steps (task.Finish n) = IsStep steps n
IsThere steps (task.Dispose n dd) = IsDd steps n dd
IsThere steps (task.Left n dd) = IsDd steps n dd

-- an action stands first at a place, and behind it what is left at the next
pub record StandsAt (moves : List ℕ → List Move) (steps : List StepPlan) (place : Todo) (it : Task) (behind : Todo) : Type 0 where
  pub first : agenda_at moves steps place ≡ action_of steps it ∷ agenda_at moves steps behind
  pub there : IsThere steps it

abbrev pub IsNext : (List ℕ → List Move) → List StepPlan → Todo → Next → Type 0
IsNext moves steps place (next.Does it behind) = StandsAt moves steps place it behind
IsNext moves steps place next.Over = agenda_at moves steps place ≡ Over ∷ []

-- the first DD from a place on that may have passed a set
pub record LeavesFirst (dds : List DdPlan) (from i : ℕ) : Type 0 where
  pub within : i < length dds
  pub first : (n : ℕ) (d : DdPlan) → slice_get dds i ≡ Some d →
      lefts_in n (from + 1) (drop from dds) ≡ Left n (i + 1) d ∷ lefts_in n (i + 1 + 1) (drop (i + 1) dds)
