-- An action carried out, with the answers of the store.
use Rattle.std.specs.Prelude.{◌≡◌, ℕ, Bool, true, List, ◌∷◌, ◌++◌, Option, Some, None}
use Rattle.jname_core.specs.declared.key.Key.{Key}
use Rattle.jcl_plan.specs.declared.entry.JobLine.{JobLine}
use Rattle.jcl_plan.specs.declared.entry.JobLine.TheVariants as line
use Rattle.jcl_plan.specs.declared.plan.StepPlan.{StepPlan}
use Rattle.jcl_meaning.specs.declared.program.SoloProgram.{SoloProgram}
use Rattle.jcl_meaning.specs.declared.state.Own.{Own}
use Rattle.jcl_meaning.specs.declared.state.Place.{Place}
use Rattle.jcl_meaning.specs.Acts.{act}
use Rattle.jcl_meaning.specs.Agendas.{Action, Ask, Take}
use Rattle.jcl_meaning.specs.States.{Done, Fixed}
use Rattle.jcl_meaning.specs.Stores.{Store}
use Rattle.store_core.specs.Actions.{state_at}
use Rattle.disp_core.specs.Grants.{made_of, primary_granted}
use Rattle.disp_core.specs.declared.course.Course.{Course}
use Rattle.request_core.specs.Requests.{Growth, growth_asked}
use Rattle.store_core.specs.declared.job_store.JobStore.{Ghosts}
use Rattle.disp_core.specs.Courses.{fixed_by}
use Rattle.world_meaning.specs.Turns.{Granting, answers_due, is_cancelled}
use Rattle.turn_core.specs.Places.{action_of}
use Rattle.turn_core.specs.declared.todo.Task.{Task}
use Rattle.turn_core.specs.declared.walk.Acted.{Acted}
use Rattle.turn_core.specs.declared.walk.Setting.{Setting}

-- whether the store grants the primary of the set that an action makes, and the growth that it asks for
abbrev pub primary_by : (Key → Place → ℕ → Bool) → Fixed → Action → Store → Own → Bool
primary_by grants fixed (Take n dd d) seen own = primary_granted grants fixed n dd d.kind seen own
primary_by grants fixed other seen own = true

abbrev pub growth_granted : (Key → List ℕ → ℕ → Bool) → Option Growth → Bool
growth_granted grants None = true
growth_granted grants (Some g) = grants g.key g.serial g.tracks

abbrev pub growth_by : (Key → List ℕ → ℕ → Bool) → Bool → Action → Store → Own → Bool
growth_by grants cancel (Ask step wants) seen own = growth_granted grants (growth_asked cancel step wants own seen)
growth_by grants cancel other seen own = true

-- what a store answers
pub record StoreAnswers : Type 0 where
  pub new : Key → Place → ℕ → Bool
  pub growth : Key → List ℕ → ℕ → Bool

abbrev pub answers_from : {S : Type 0} → Ghosts S → ℕ → S → StoreAnswers
answers_from store job old = record { new = store.grants_new job old; growth = store.grants_growth job old }

abbrev pub granting_by : StoreAnswers → Bool → Fixed → Action → Store → Own → Granting
granting_by grants cancel fixed a seen own = record {
  cancel = cancel;
  growth = growth_by grants.growth cancel a seen own;
  primary = primary_by grants.new fixed a seen own;
}

-- what an action does at a job's turn
abbrev pub done_by : List SoloProgram → List StepPlan → Granting → Fixed → Action → Store → Own → Done
done_by programs steps g fixed a seen own = act fixed a (state_at seen own (answers_due programs steps g a own))

-- the volume on which an operation starts
abbrev pub volume_started : List JobLine → Option (List ℕ)
volume_started (line.GetStart name serial ∷ lines) = Some serial
volume_started (line.PutStart name serial grown ∷ lines) = Some serial
volume_started other = None

-- It was done: this is what it left of the store and of the job's own part; its lines stand behind those before; and what is told of it is so: where it made
-- a set, on which volume its operation starts, and whether a cancel acted.
pub record HasActed (done : Done) (seen : Store) (after before : Course) (told : Acted) : Type 0 where
  pub its_store : done.state.store ≡ seen
  pub its_own : done.state.own ≡ after.own
  pub its_lines : after.lines ≡ before.lines ++ done.lines
  pub its_made : done.made ≡ made_of told.made
  pub its_start : told.starts ≡ volume_started done.lines
  pub its_cancel : told.cancelled ≡ is_cancelled done.lines

abbrev pub Performs : List SoloProgram → List StepPlan → StoreAnswers → Bool → Fixed → Action → Store → Course → Store → Course → Acted → Type 0
Performs programs steps grants cancel fixed a old before new after told =
    HasActed (done_by programs steps (granting_by grants cancel fixed a old before.own) fixed a old before.own) new after before told

-- over a store, with its answers
abbrev pub PerformsOver : {S : Type 0} → Ghosts S → Setting → List StepPlan → Task → S → Course → S → Course → Acted → Type 0
PerformsOver store s steps task old before new after told =
    Performs s.programs.now steps (answers_from store s.job old) s.cancelled (fixed_by s.given) (action_of steps task)
    (store.seen s.job old) before (store.seen s.job new) after told
