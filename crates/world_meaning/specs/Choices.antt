-- What the table leaves open in a case, and how many actions of a job it is.
use Rattle.std.specs.Prelude.{ℕ, ◌+◌, ◌==◌, Bool, List, [], ◌∷◌, Option, Some, None, if◌then◌else◌}
use Rattle.jcl_plan.specs.declared.entry.Entry.{Entry}
use Rattle.jcl_plan.specs.declared.entry.JobLine.{JobLine}
use Rattle.jcl_plan.specs.declared.plan.JobPlan.{JobPlan}
use Rattle.jcl_meaning.specs.declared.state.Own.{Own}
use Rattle.jcl_meaning.specs.declared.state.Place.{Place}
use Rattle.world_meaning.specs.declared.event.Event.{Event}
use Rattle.world_meaning.specs.declared.event.Event.TheVariants as event
use Rattle.world_meaning.specs.Readings.{Denoting}
use Rattle.world_meaning.specs.Transitions.{Acts, Does, GoesOn, Runs, Transition, Turns, acts, past, taken, unknown}
use Rattle.world_meaning.specs.Turns.{Advanced, Advances, has_cancel}
use Rattle.world_meaning.specs.Turns as turn
use Rattle.world_meaning.specs.Worlds.{Admission, Admitted, Config, Initiator, Named, Running, Selected, Shared, Stage, Wanting, World, counted}

-- Nothing is open; or at a job's admission its placement, and with it what is answered; or at an action of an admitted job whether a growth, and whether a
-- primary, is granted. A turn that waits for a device asks no volume for room, nor does a job's last action.
pub data Choice : Type 0 where
  Closed : Choice
  AtAdmission : ℕ → JobPlan → List Place → List JobLine → Choice
  AtAction : ℕ → Bool → Admission → Advanced → Bool → Bool → Choice

abbrev pub choice_of_advance : {c : Config} {old : Shared} {r : Running} {plan : JobPlan} {a : Admission} {count : ℕ} {own : Own}
    {lines : List JobLine} {new : Shared} {runs : Option Running} → Advances c old r plan a count own lines new runs → Choice
choice_of_advance (turn.waits x growth primary advances waits told same stays) = Closed
choice_of_advance {old = old} {r = r} {a = a} (turn.acts x growth primary free advances granted goes on told left conserved runs) =
    AtAction r.job (has_cancel old.cancels r.job) a x growth primary
choice_of_advance (turn.ends x growth primary free advances granted goes over told left conserved runs) = Closed

abbrev pub choice_of_going : (c : Config) (old : Shared) (r : Running) (stage : Stage) (lines : List JobLine) (new : Shared) (runs : Option Running) →
    GoesOn c old r stage lines new runs → Choice
choice_of_going c old r (Selected first) lines new runs g = Closed
choice_of_going c old r (Wanting plan) lines new runs g = Closed
choice_of_going c old r (Named plan) lines new runs g = AtAdmission r.job plan g.places lines
choice_of_going c old r (Admitted plan a count own) lines new runs g = choice_of_advance g

abbrev pub choice_of_acting : (old : World) (place : ℕ) (x : Initiator) (running : Option Running) (lines : List Entry) (new : World) →
    Acts old place x running lines new → Choice
choice_of_acting old place x None lines new g = Closed
choice_of_acting old place x (Some r) lines new g = choice_of_going old.config old.shared r r.stage g.job_lines g.shared g.runs g.goes

abbrev pub choice_of_turn : {old : World} {number : ℕ} {lines : List Entry} {new : World} → Turns old number lines new → Choice
choice_of_turn (unknown none told same) = Closed
choice_of_turn {old = old} {lines = lines} {new = new} (acts place x at numbered g) = choice_of_acting old place x x.running lines new g

abbrev pub choice_of_event : (job_of : Denoting) (old : World) (e : Event) (lines : List Entry) (new : World) → Does job_of old e lines new → Choice
choice_of_event job_of old (event.Read deck) lines new d = Closed
choice_of_event job_of old (event.Turn number) lines new d = choice_of_turn d
choice_of_event job_of old (event.DeviceEnd serial) lines new d = Closed
choice_of_event job_of old (event.Write class) lines new d = Closed
choice_of_event job_of old (event.Cancel job) lines new d = Closed
choice_of_event job_of old (event.Zap n offset bytes) lines new d = Closed
choice_of_event job_of old event.Display lines new d = Closed
choice_of_event job_of old (event.Date day) lines new d = Closed

abbrev pub choice_of : {job_of : Denoting} {old : World} {e : Event} {lines : List Entry} {new : World} → Transition job_of old e lines new → Choice
choice_of (past many told same) = Closed
choice_of {job_of = job_of} {old = old} {e = e} {lines = lines} (taken few h) = choice_of_event job_of (counted old) e lines h.middle h.does

-- An action of a job is a turn of its initiator behind its admission, unless the turn waits for a device.
abbrev pub actions_of_advance : {c : Config} {old : Shared} {r : Running} {plan : JobPlan} {a : Admission} {count : ℕ} {own : Own}
    {lines : List JobLine} {new : Shared} {runs : Option Running} → Advances c old r plan a count own lines new runs → ℕ
actions_of_advance (turn.waits x growth primary advances waits told same stays) = 0
actions_of_advance (turn.acts x growth primary free advances granted goes on told left conserved runs) = 1
actions_of_advance (turn.ends x growth primary free advances granted goes over told left conserved runs) = 1

abbrev pub actions_of_going : (c : Config) (old : Shared) (r : Running) (stage : Stage) (lines : List JobLine) (new : Shared) (runs : Option Running) →
    GoesOn c old r stage lines new runs → ℕ
actions_of_going c old r (Selected first) lines new runs g = 0
actions_of_going c old r (Wanting plan) lines new runs g = 0
actions_of_going c old r (Named plan) lines new runs g = 0
actions_of_going c old r (Admitted plan a count own) lines new runs g = actions_of_advance g

abbrev pub actions_of_acting : ℕ → (old : World) (place : ℕ) (x : Initiator) (running : Option Running) (lines : List Entry) (new : World) →
    Acts old place x running lines new → ℕ
actions_of_acting job old place x None lines new g = 0
actions_of_acting job old place x (Some r) lines new g =
    if r.job == job then actions_of_going old.config old.shared r r.stage g.job_lines g.shared g.runs g.goes else 0

abbrev pub actions_of_turn : ℕ → {old : World} {number : ℕ} {lines : List Entry} {new : World} → Turns old number lines new → ℕ
actions_of_turn job (unknown none told same) = 0
actions_of_turn job {old = old} {lines = lines} {new = new} (acts place x at numbered g) = actions_of_acting job old place x x.running lines new g

abbrev pub actions_of_event : ℕ → (job_of : Denoting) (old : World) (e : Event) (lines : List Entry) (new : World) → Does job_of old e lines new → ℕ
actions_of_event job job_of old (event.Read deck) lines new d = 0
actions_of_event job job_of old (event.Turn number) lines new d = actions_of_turn job d
actions_of_event job job_of old (event.DeviceEnd serial) lines new d = 0
actions_of_event job job_of old (event.Write class) lines new d = 0
actions_of_event job job_of old (event.Cancel other) lines new d = 0
actions_of_event job job_of old (event.Zap n offset bytes) lines new d = 0
actions_of_event job job_of old event.Display lines new d = 0
actions_of_event job job_of old (event.Date day) lines new d = 0

-- how many actions of a job an event is, and how many there are along a run
abbrev pub actions_of : ℕ → {job_of : Denoting} {old : World} {e : Event} {lines : List Entry} {new : World} → Transition job_of old e lines new → ℕ
actions_of job (past many told same) = 0
actions_of job {job_of = job_of} {old = old} {e = e} {lines = lines} (taken few h) = actions_of_event job job_of (counted old) e lines h.middle h.does

abbrev pub actions_along : ℕ → (job_of : Denoting) (old : World) (events : List Event) (told : List (List Entry)) (new : World) → Runs job_of old events told new → ℕ
actions_along job job_of old [] [] new r = 0
actions_along job job_of old (e ∷ es) (lines ∷ more) new r = actions_of job r.1 + actions_along job job_of r.0 es more new r.2
actions_along job job_of old [] (lines ∷ more) new r = 0
actions_along job job_of old (e ∷ es) [] new r = 0
