-- An action of a job carried out: what it left of the store as the job sees it, of the job's own part and of its lines.
use Rattle.std.specs.Prelude.{◌≡◌, ℕ, Bool, List, [], ◌∷◌, ◌++◌, Option, Some, None}
use Rattle.jcl_plan.specs.declared.fault.Fault.{Fault}
use Rattle.jcl_plan.specs.declared.outcome.Outcome.{Outcome}
use Rattle.jcl_plan.specs.declared.outcome.Outcome.TheVariants as outcomes
use Rattle.jcl_meaning.specs.declared.state.Own.{Own}
use Rattle.jcl_meaning.specs.declared.state.Place.{Place}
use Rattle.jcl_meaning.specs.EndActs.{end_line, passed_after}
use Rattle.jcl_meaning.specs.RequestActs.{head_or}
use Rattle.jcl_meaning.specs.States.{Answers, Done, Fixed, State, cancel_due, with_answers_used}
use Rattle.jcl_meaning.specs.Stores.{Store}
use Rattle.store_core.specs.Actions.{state_at}
use Rattle.disp_core.specs.declared.course.Course.{Course}
use Rattle.disp_core.specs.declared.course.Given.{Given}

-- what is fixed for a job
abbrev pub fixed_by : Given → Fixed
fixed_by g = record {
  job_tests = g.job_tests.now;
  volumes = g.volumes.now;
  places = g.places.now;
  meanings = g.meanings.now;
  date = g.date;
}

-- what an action did is this: it met the fault, or none, made these sets, and wrote its lines behind those before
pub record Does (done : Done) (seen : Store) (after before : Course) (answers : Answers) (meets : Option Fault) (made : List Place) : Type 0 where
  pub its_state : done.state ≡ state_at seen after.own answers
  pub its_lines : after.lines ≡ before.lines ++ done.lines
  pub its_fault : done.meets ≡ meets
  pub its_made : done.made ≡ made

-- an action that uses no answer up was carried out, whatever answers are left
abbrev pub Carried : (State → Done) → Store → Course → Store → Course → Option Fault → List Place → Type 0
Carried action old before new after meets made =
    (answers : Answers) → Does (action (state_at old before.own answers)) new after before answers meets made

-- the start of a step was carried out, or another action that changes no store
abbrev pub CarriedAside : (State → Done) → Course → Course → Type 0
CarriedAside action before after = (seen : Store) → Carried action seen before seen after None []

-- the end of a step was carried out, where this outcome is given for it, and a cancel stands in the place of its end or none does
abbrev pub CarriedEnd : (State → Done) → Outcome → Bool → Course → Course → Type 0
CarriedEnd action outcome cancelled before after =
    (seen : Store) (answers : Answers) → head_or (outcomes.Code 0) answers.outcomes ≡ outcome → cancel_due answers.cancels before.own.lines ≡ cancelled →
    Does (action (state_at seen before.own answers)) seen after before (with_answers_used answers) None []

-- how a step ended, or its program, is entered
abbrev pub own_ended : ℕ → Outcome → Own → Own
own_ended n outcome own = record own {
  passed = passed_after outcome n own.passed;
  ended = record { step = n; outcome = outcome } ∷ own.ended;
  over = Some outcome;
  due = None;
  lines = 0;
}

abbrev pub course_ended_by : ℕ → Outcome → Course → Course
course_ended_by n outcome c = record { own = own_ended n outcome c.own; lines = c.lines ++ end_line outcome ∷ [] }
