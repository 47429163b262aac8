-- A turn of an admitted job: its actions up to the first that writes, by the very `act` of its solo meaning, on the store as it now sees it.
use Rattle.std.specs.Prelude.{◌≡◌, ℕ, ◌-◌, Bool, true, false, not, ◌&&◌, ◌||◌, ◌==◌, nat_le, List, [], ◌∷◌, ◌++◌, drop, length, map, Option, Some, None, slice_get, if◌then◌else◌, suc}
use Rattle.std.specs.List.{list_any}
use Rattle.jcl_plan.specs.declared.entry.JobLine.{JobLine}
use Rattle.jcl_plan.specs.declared.entry.JobLine.TheVariants as line
use Rattle.jcl_plan.specs.declared.outcome.Abend.TheVariants as abend
use Rattle.jcl_plan.specs.declared.outcome.Outcome.{Outcome}
use Rattle.jcl_plan.specs.declared.plan.JobPlan.{JobPlan}
use Rattle.jcl_plan.specs.declared.plan.StepPlan.{StepPlan}
use Rattle.jcl_meaning.specs.declared.program.SoloProgram.{SoloProgram}
use Rattle.jcl_meaning.specs.declared.state.DdState.{DdState}
use Rattle.jcl_meaning.specs.declared.state.Own.{Own}
use Rattle.jcl_meaning.specs.declared.state.TakenSet.{TakenSet}
use Rattle.jcl_meaning.specs.Acts.{act}
use Rattle.jcl_meaning.specs.Agendas.{Action, Ask, Receive, Finish, agenda}
use Rattle.jcl_meaning.specs.Programs.{dd_of, ending_of}
use Rattle.jcl_meaning.specs.RequestActs.{dd_name}
use Rattle.jcl_meaning.specs.States.{Answers, Done, Fixed, State}
use Rattle.jcl_meaning.specs.Stores.{Store}
use Rattle.machine_meaning.specs.Spools.{sets_of, with_sets}
use Rattle.prog_core.specs.declared.units.Operation.{Operation}
use Rattle.prog_core.specs.Operations.{has_operation, is_busy, without_owner}
use Rattle.world_meaning.specs.Holdings.{cancels_without, released}
use Rattle.world_meaning.specs.Lenses.{put_back, seen}
use Rattle.world_meaning.specs.Tracks.{Conserves, kept_unless_made}
use Rattle.world_meaning.specs.Worlds.{Admission, Admitted, Config, Running, Shared, going_on}

-- What a job does not decide itself, for the action at hand: how its program ends by itself; a cancel, at the next program line; and whether a
-- growth, or a primary, is granted.
abbrev pub end_of : List SoloProgram → Option StepPlan → List Outcome
end_of programs None = []
end_of programs (Some step) = ending_of programs step.program ∷ []

abbrev pub outcomes_due : List SoloProgram → List StepPlan → Action → List Outcome
outcomes_due programs steps (Finish n) = end_of programs (slice_get steps (n - 1))
outcomes_due programs steps other = []

pub record Granting : Type 0 where
  pub cancel : Bool
  pub growth : Bool
  pub primary : Bool

abbrev pub answers_due : List SoloProgram → List StepPlan → Granting → Action → Own → Answers
answers_due programs steps g a own = record {
  outcomes = outcomes_due programs steps a;
  cancels = (if g.cancel then Some own.lines else None) ∷ [];
  grants = g.growth ∷ [];
  primary = g.primary;
}

-- the action that writes, the state before it, what it did, and how many actions of the agenda are done with it
pub record Advanced : Type 0 where
  pub action : Action
  pub before : State
  pub done : Done
  pub count : ℕ

abbrev pub unless_silent : List JobLine → Advanced → Option Advanced → Option Advanced
unless_silent [] here further = further
unless_silent (line ∷ lines) here further = Some here

unfoldable pub advance : (Action → Own → Answers) → Fixed → List Action → State → ℕ → Option Advanced
advance answers fixed [] s count = None
advance answers fixed (a ∷ actions) s count =
    unless_silent (act fixed a (record s { answers = answers a s.own })).lines
    (record { action = a; before = record s { answers = answers a s.own }; done = act fixed a (record s { answers = answers a s.own }); count = suc count })
    (advance answers fixed actions (act fixed a (record s { answers = answers a s.own })).state (suc count))

-- a state without answers; each action gets its own
abbrev pub state_in : Store → Own → State
state_in store own = record { store = store; own = own; answers = record { outcomes = []; cancels = []; grants = []; primary = true } }

abbrev pub has_cancel : List ℕ → ℕ → Bool
has_cancel cancels job = list_any (λ other. other == job) cancels

abbrev pub granting : Shared → ℕ → Bool → Bool → Granting
granting s job growth primary = record { cancel = has_cancel s.cancels job; growth = growth; primary = primary }

-- the turn of a job that has come so far
abbrev pub advanced : Config → Shared → ℕ → JobPlan → Admission → ℕ → Own → Bool → Bool → Option Advanced
advanced c s job plan a count own growth primary =
    advance (answers_due c.programs plan.steps (granting s job growth primary)) a.fixed
    (drop count (agenda plan c.programs)) (state_in (seen job s.store) own) count

-- the volume that a line needs idle: that of a START, or of the set to which a PUT went where SB37 or SD37 stands in its place
abbrev pub volume_taken : Option TakenSet → Option (List ℕ)
volume_taken None = None
volume_taken (Some t) = Some t.serial

abbrev pub volume_of_dd : Option DdState → Option (List ℕ)
volume_of_dd None = None
volume_of_dd (Some x) = volume_taken x.taken

abbrev pub volume_asked_at : Option ℕ → Own → Option (List ℕ)
volume_asked_at None own = None
volume_asked_at (Some d) own = volume_of_dd (slice_get own.dds d)

abbrev pub volume_asked : Action → Own → Option (List ℕ)
volume_asked (Ask step move) own = volume_asked_at (dd_of step.dds (dd_name move)) own
volume_asked other own = None

abbrev pub volume_needed : List JobLine → Action → Own → Option (List ℕ)
volume_needed (line.GetStart name serial ∷ lines) a own = Some serial
volume_needed (line.PutStart name serial grown ∷ lines) a own = Some serial
volume_needed (line.Abend abend.SB37 ∷ lines) a own = volume_asked a own
volume_needed (line.Abend abend.SD37 ∷ lines) a own = volume_asked a own
volume_needed other a own = None

-- a cancel acts: S222 stands in the place of the line
abbrev pub is_cancelled : List JobLine → Bool
is_cancelled (line.Abend abend.S222 ∷ lines) = true
is_cancelled other = false

-- a result that is due
abbrev pub is_result : Action → Bool
is_result Receive = true
is_result other = false

-- the turn waits for a device
abbrev pub must_wait : List Operation → ℕ → Advanced → Bool
must_wait operations job x = is_busy operations (volume_needed x.done.lines x.action x.before.own)
    || (is_result x.action && not (is_cancelled x.done.lines) && has_operation operations job)

-- a START begins an operation; where a cancel acts one under way ends without an owner
abbrev pub operations_after : List Operation → ℕ → List JobLine → List Operation
operations_after operations job (line.GetStart name serial ∷ lines) = operations ++ record { serial = serial; owner = Some job } ∷ []
operations_after operations job (line.PutStart name serial grown ∷ lines) = operations ++ record { serial = serial; owner = Some job } ∷ []
operations_after operations job (line.Abend abend.S222 ∷ lines) = map (without_owner job) operations
operations_after operations job other = operations

abbrev pub cancels_after : List ℕ → ℕ → List JobLine → List ℕ
cancels_after cancels job lines = if is_cancelled lines then cancels_without cancels job else cancels

-- what the job's action leaves: a set that it makes of kept tracks uses these up
abbrev pub shared_after : Shared → ℕ → Advanced → (List ℕ → ℕ) → Shared
shared_after s job x free = record s {
  store = put_back job s.store x.done.state.store;
  free = free;
  kept = kept_unless_made s.kept job x.done.made;
  operations = operations_after s.operations job x.done.lines;
  cancels = cancels_after s.cancels job x.done.lines;
}

-- behind the last action the job is over: what it held is free, and its listing and its SYSOUT sets go to the writers
abbrev pub is_over : Config → JobPlan → Advanced → Bool
is_over c plan x = nat_le (length (agenda plan c.programs)) x.count

abbrev pub with_output : Shared → Running → JobPlan → Advanced → Shared
with_output s r plan x = record s { spool = with_sets s.spool (sets_of r.job plan.message_class (r.listing ++ x.done.lines) x.done.state.own.outputs) }

-- The next line of the job's agenda: STEP, TAKE, FAULT and BACK, GET, PUT, CODE, ABEND, DISP, LEFT, END. Of an assured job the primary is
-- granted; whether another's is, and whether a growth is, is open.
pub data Advances (c : Config) (old : Shared) (r : Running) (plan : JobPlan) (a : Admission) (count : ℕ) (own : Own)
    (lines : List JobLine) (new : Shared) (runs : Option Running) : Type 0 where
  waits : (x : Advanced) (growth primary : Bool) → advanced c old r.job plan a count own growth primary ≡ Some x → must_wait old.operations r.job x ≡ true →
      lines ≡ [] → new ≡ old → runs ≡ Some r → Advances c old r plan a count own lines new runs
  acts : (x : Advanced) (growth primary : Bool) (free : List ℕ → ℕ) → advanced c old r.job plan a count own growth primary ≡ Some x →
      (a.assured ≡ true → primary ≡ true) → must_wait old.operations r.job x ≡ false → is_over c plan x ≡ false →
      lines ≡ x.done.lines → new ≡ shared_after old r.job x free → Conserves old new →
      runs ≡ going_on r lines (Admitted plan a x.count x.done.state.own) → Advances c old r plan a count own lines new runs
  ends : (x : Advanced) (growth primary : Bool) (free : List ℕ → ℕ) → advanced c old r.job plan a count own growth primary ≡ Some x →
      (a.assured ≡ true → primary ≡ true) → must_wait old.operations r.job x ≡ false → is_over c plan x ≡ true →
      lines ≡ x.done.lines → new ≡ released c (with_output (shared_after old r.job x free) r plan x) r.job free → Conserves old new →
      runs ≡ None → Advances c old r plan a count own lines new runs
