-- The runner as the state of a job, and actions carried out by it.
use Rattle.std.specs.Prelude.{◌≡◌, true, List, [], ◌∷◌, ◌++◌}
use Rattle.jcl_meaning.specs.Acts.{act}
use Rattle.jcl_meaning.specs.Agendas.{Action}
use Rattle.jcl_meaning.specs.Solo.{Ran, run}
use Rattle.jcl_meaning.specs.States.{Answers, Done, State}
use Rattle.jcl_meaning.specs.Stores.{store_of}
use Rattle.store_core.specs.Actions.{state_at}
use Rattle.disp_core.specs.Courses.{fixed_by}
use Rattle.solo_core.specs.declared.runner.Runner.{Runner}
use Rattle.solo_core.specs.Meets.{meets_in}

-- the answers that are left; a primary is granted
abbrev pub answers_by : Runner → Answers
answers_by r = record { outcomes = r.outcomes.now; cancels = r.cancels.now; grants = r.grants.now; primary = true }

abbrev pub state_by : Runner → State
state_by r = state_at (store_of r.store.store) r.course.own (answers_by r)

abbrev pub done_by : Runner → Action → Done
done_by r action = act (fixed_by r.given) action (state_by r)

abbrev pub ran_by : Runner → List Action → Ran
ran_by r actions = run (fixed_by r.given) actions (state_by r)

-- what is fixed for the job stays, and the volumes of its store
pub record Keeps (old new : Runner) : Type 0 where
  pub given : new.given ≡ old.given
  pub volumes : new.store.store.volumes ≡ old.store.store.volumes

-- the runner carried this action out
pub record Does (action : Action) (old new : Runner) : Type 0 where
  pub state : state_by new ≡ (done_by old action).state
  pub lines : new.course.lines ≡ old.course.lines ++ (done_by old action).lines
  pub meets : new.meets ≡ old.meets ++ (done_by old action).meets ∷ []
  pub keeps : Keeps old new

-- these actions, one after another
pub record Acts (actions : List Action) (old new : Runner) : Type 0 where
  pub state : state_by new ≡ (ran_by old actions).state
  pub lines : new.course.lines ≡ old.course.lines ++ (ran_by old actions).lines
  pub meets : new.meets ≡ old.meets ++ meets_in (fixed_by old.given) actions (state_by old)
  pub keeps : Keeps old new
