-- What comes of a job's wish for its names.
use Rattle.std.specs.Prelude.{◌≡◌, ℕ, false, List, [], ◌∷◌, ◌++◌, length, Option, Some, None, All}
use Rattle.enq_core.specs.declared.table.Blocked.{Blocked}
use Rattle.enq_core.specs.declared.table.Hold.{Hold}
use Rattle.enq_core.specs.declared.table.Want.{Want}
use Rattle.enq_core.specs.Holds.{IsFirstBlock, holds_of, is_blocked}
use Rattle.jcl_plan.specs.declared.entry.JobLine.{JobLine}
use Rattle.jcl_plan.specs.declared.entry.JobLine.TheVariants as line
use Rattle.jcl_plan.specs.declared.plan.JobPlan.{JobPlan}
use Rattle.jcl_meaning.specs.Solo.{nothing_own}
use Rattle.cb_queue.specs.RecordQueues.{RecordQueue}
use Rattle.world_meaning.specs.Holdings.{wants_of}
use Rattle.world_meaning.specs.Worlds.{Config}
use Rattle.turn_core.specs.declared.todo.Todo.TheVariants as todo
use Rattle.turn_core.specs.declared.walk.Walk.{Walk}
use Rattle.machine_core.specs.declared.parts.Parts.{Parts}
use Rattle.init_core.specs.declared.running.Progress.TheVariants.{GoesOn}
use Rattle.init_core.specs.declared.running.Stage.{Stage}
use Rattle.init_core.specs.declared.running.Stage.TheVariants.{Named, Wanting}
use Rattle.init_core.specs.Going.{Went}
use Rattle.init_core.specs.Running.{IsGood}

-- the job holds all of them, and this is written behind its listing
pub record HoldsAll (old : List Hold) (job : ℕ) (wants : List Want) (before : List JobLine) (holder : ℕ)
    (new : List Hold) (after : List JobLine) : Type 0 where
  pub free : All (λ want. is_blocked old want ≡ false) wants
  pub holds : new ≡ old ++ holds_of job wants
  pub told : after ≡ before ++ line.Names (length wants) ∷ []
  pub for_job : holder ≡ job

-- a holder stands in the way, and nothing is held
pub record IsKeptOut (old : List Hold) (wants : List Want) (before : List JobLine) (new : List Hold) (after : List JobLine) : Type 0 where
  pub by : Blocked
  pub first : IsFirstBlock old wants by
  pub told : after ≡ before ++ line.WaitNames by.job by.name ∷ []
  pub same : new ≡ old

abbrev pub Wishes : List Hold → ℕ → List Want → List JobLine → Option ℕ → List Hold → List JobLine → Type 0
Wishes old job wants before (Some holder) new after = HoldsAll old job wants before holder new after
Wishes old job wants before None new after = IsKeptOut old wants before new after

-- its names are held, or it goes on waiting for them
abbrev pub stage_behind : JobPlan → List Want → Option ℕ → Stage
stage_behind plan wants (Some held) = Named (record { plan = plan; held = held })
stage_behind plan wants None = Wanting plan wants

-- The turn by which a job wishes for the names that its plan wants, under whichever configuration holds of the parts: it goes on, with one line more.
abbrev pub WentByWish : {Q : Type 0} → (Q → RecordQueue) → ℕ → List Want → Parts Q → Walk → Parts Q → Walk → Option ℕ → Type 0
WentByWish queue_of job wants old walk new walk_now held = (c : Config) (plan : JobPlan) → wants ≡ wants_of plan → IsGood queue_of c old →
    Went queue_of c old (record { job = job; walk = walk; stage = Wanting plan wants }) new
    (GoesOn (record { job = job; walk = walk_now; stage = stage_behind plan wants held }) (length walk.course.lines))

-- the job stands at its first action, with its listing
abbrev pub begun : Walk → Walk
begun walk = record { todo = todo.Start 0; course = record { own = nothing_own; lines = walk.course.lines } }
