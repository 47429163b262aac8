-- What a turn of an admitted job came to.
use Rattle.std.specs.Prelude.{◌≡◌, ℕ, ◌+◌, Bool, true, false, List, [], ◌∷◌, ◌++◌, drop, map, slice_get, Option, Some, None, if◌then◌else◌}
use Rattle.jcl_plan.specs.declared.entry.JobLine.TheVariants as line
use Rattle.jcl_plan.specs.declared.plan.StepPlan.{StepPlan}
use Rattle.jcl_meaning.specs.declared.program.SoloProgram.{SoloProgram}
use Rattle.jcl_meaning.specs.declared.state.Own.{Own}
use Rattle.jcl_meaning.specs.declared.state.Place.{Place}
use Rattle.jcl_meaning.specs.Acts.{act}
use Rattle.jcl_meaning.specs.Agendas.{Action}
use Rattle.jcl_meaning.specs.Programs.{moves_of}
use Rattle.jcl_meaning.specs.States.{Answers, Fixed}
use Rattle.jcl_meaning.specs.Stores.{Store}
use Rattle.prog_core.specs.declared.units.Operation.{Operation}
use Rattle.prog_core.specs.Operations.{is_busy, without_owner}
use Rattle.disp_core.specs.Courses.{fixed_by}
use Rattle.disp_core.specs.Grants.{made_of}
use Rattle.disp_core.specs.declared.course.Course.{Course}
use Rattle.store_core.specs.declared.job_store.JobStore.{Ghosts}
use Rattle.world_meaning.specs.Turns.{Advanced, advance, answers_due, is_cancelled, must_wait, operations_after, state_in}
use Rattle.turn_core.specs.Ending.{ended_at}
use Rattle.turn_core.specs.Passing.{is_idle}
use Rattle.turn_core.specs.Places.{agenda_at}
use Rattle.turn_core.specs.Performing.{StoreAnswers, answers_from, growth_by, primary_by, volume_started}
use Rattle.turn_core.specs.declared.walk.Acted.{Acted}
use Rattle.turn_core.specs.declared.walk.Setting.{Setting}
use Rattle.turn_core.specs.declared.walk.Turned.{Turned}
use Rattle.turn_core.specs.declared.walk.Turned.TheVariants as turned
use Rattle.turn_core.specs.declared.walk.Walk.{Walk}

-- What a job's turn goes by: the programs, the steps of its plan, what is fixed for it, the operations under way, its number, whether a cancel is
-- to act, and what its store answers.
pub record Around : Type 0 where
  pub programs : List SoloProgram
  pub steps : List StepPlan
  pub fixed : Fixed
  pub operations : List Operation
  pub job : ℕ
  pub cancel : Bool
  pub grants : StoreAnswers

abbrev pub around_of : Setting → List StepPlan → StoreAnswers → Around
around_of s steps grants = record {
  programs = s.programs.now;
  steps = steps;
  fixed = fixed_by s.given;
  operations = s.units.now;
  job = s.job;
  cancel = s.cancelled;
  grants = grants;
}

-- over a store, with its answers
abbrev pub around_over : {S : Type 0} → Ghosts S → Setting → List StepPlan → S → Around
around_over store s steps old = around_of s steps (answers_from store s.job old)

abbrev pub answers_in : Around → Bool → Bool → Action → Own → Answers
answers_in w growth primary = answers_due w.programs w.steps (record { cancel = w.cancel; growth = growth; primary = primary })

-- the turn of a job with these actions left
abbrev pub turn_in : Around → List Action → Store → Own → ℕ → Bool → Bool → Option Advanced
turn_in w actions seen own count growth primary = advance (answers_in w growth primary) w.fixed actions (state_in seen own) count

-- the operations under way behind lines of which the first starts one on this volume, or of which it tells that a cancel acted
abbrev pub operations_by : List Operation → ℕ → Option (List ℕ) → Bool → List Operation
operations_by operations job (Some serial) cancelled = operations ++ record { serial = serial; owner = Some job } ∷ []
operations_by operations job None cancelled = if cancelled then map (without_owner job) operations else operations

-- it waits for a device
pub record Waits (w : Around) (actions : List Action) (seen : Store) (own : Own) (count : ℕ) : Type 0 where
  pub its_turn : Advanced
  pub advances : turn_in w actions seen own count true true ≡ Some its_turn
  pub waits : must_wait w.operations w.job its_turn ≡ true

-- its last action is due
pub record Ends (w : Around) (actions : List Action) (seen : Store) (own : Own) (count : ℕ) : Type 0 where
  pub its_turn : Advanced
  pub advances : turn_in w actions seen own count true true ≡ Some its_turn
  pub goes : must_wait w.operations w.job its_turn ≡ false
  pub lines : its_turn.done.lines ≡ line.End ∷ []
  pub store : its_turn.done.state.store ≡ seen
  pub outputs : its_turn.done.state.own.outputs ≡ own.outputs
  pub made : its_turn.done.made ≡ []
  pub passed : ℕ
  pub left : drop passed actions ≡ []
  pub counted : its_turn.count ≡ count + passed

-- an action that writes was carried out, with the answers of the store, and all before it
pub record Acts (w : Around) (actions : List Action) (seen : Store) (before : Course) (new : Store) (after : Course)
    (behind : List Action) (count : ℕ) (told : Acted) : Type 0 where
  pub its_turn : Advanced
  pub growth : Bool
  pub primary : Bool
  pub advances : turn_in w actions seen before.own count growth primary ≡ Some its_turn
  pub growth_answered : growth ≡ growth_by w.grants.growth w.cancel its_turn.action its_turn.before.store its_turn.before.own
  pub primary_answered : primary ≡ primary_by w.grants.new w.fixed its_turn.action its_turn.before.store its_turn.before.own
  pub goes : must_wait w.operations w.job its_turn ≡ false
  pub writes : is_idle its_turn.action its_turn.before.own ≡ false
  pub goes_on : ended_at its_turn.action its_turn.before.own ≡ None
  pub seen_before : its_turn.before.store ≡ seen
  pub dds_before : its_turn.before.own.dds ≡ before.own.dds
  pub answers : its_turn.before.answers ≡ answers_in w growth primary its_turn.action its_turn.before.own
  pub did : its_turn.done ≡ act w.fixed its_turn.action its_turn.before
  pub place : ℕ
  pub stood : slice_get actions place ≡ Some its_turn.action
  pub store : its_turn.done.state.store ≡ new
  pub own : its_turn.done.state.own ≡ after.own
  pub lines : after.lines ≡ before.lines ++ its_turn.done.lines
  pub made : its_turn.done.made ≡ made_of told.made
  pub starts : told.starts ≡ volume_started its_turn.done.lines
  pub cancelled : told.cancelled ≡ is_cancelled its_turn.done.lines
  pub idle : is_busy w.operations told.starts ≡ false
  pub operations : operations_after w.operations w.job its_turn.done.lines ≡ operations_by w.operations w.job told.starts told.cancelled
  pub passed : ℕ
  pub left : drop passed actions ≡ behind
  pub counted : its_turn.count ≡ count + passed

-- whatever the count of the actions before
abbrev pub Tells : Around → List Action → Store → Course → Store → Course → List Action → Turned → Type 0
Tells w actions seen before new after behind turned.Waits = (count : ℕ) → Waits w actions seen before.own count
Tells w actions seen before new after behind (turned.Acts told) = (count : ℕ) → Acts w actions seen before new after behind count told
Tells w actions seen before new after behind turned.Ends = (count : ℕ) → Ends w actions seen before.own count

-- over a store, from a place of the agenda on
abbrev pub TellsFrom : {S : Type 0} → Ghosts S → Setting → List StepPlan → S → Walk → S → Walk → Turned → Type 0
TellsFrom store s steps old before new after told =
    Tells (around_over store s steps old) (agenda_at (moves_of s.programs.now) steps before.todo)
    (store.seen s.job old) before.course (store.seen s.job new) after.course (agenda_at (moves_of s.programs.now) steps after.todo) told

abbrev pub acts : Turned → Bool
acts turned.Waits = false
acts (turned.Acts told) = true
acts turned.Ends = false

abbrev pub made_in : Turned → Option Place
made_in turned.Waits = None
made_in (turned.Acts told) = told.made
made_in turned.Ends = None
