-- A step that runs and meets no fault stands among the ended steps, as it ended.
use Rattle.std.proofs.Common.{◌≡◌, ◌++◌, ◌+◌, ◌-◌, ℕ, Bool, true, false, cond, List, [], ◌∷◌, drop, Option, Some, None, refl, sym, ap, ◌∙◌, subst}
use Rattle.std.specs.Prelude.{slice_get}
use Rattle.jname_core.specs.declared.key.Key.{Key}
use Rattle.jcl_plan.specs.declared.outcome.Outcome.{Outcome}
use Rattle.jcl_plan.specs.declared.plan.DdKind.{DdKind}
use Rattle.jcl_plan.specs.declared.plan.DdKind.TheVariants.{Sysout, Dummy, Cards, Set}
use Rattle.jcl_plan.specs.declared.plan.DdPlan.{DdPlan}
use Rattle.jcl_plan.specs.declared.plan.SetPlan.{SetPlan}
use Rattle.jcl_plan.specs.declared.plan.StepPlan.{StepPlan}
use Rattle.jcl_meaning.specs.declared.state.DdState.{DdState}
use Rattle.jcl_meaning.specs.declared.state.Ended.{Ended}
use Rattle.jcl_meaning.specs.declared.state.Resolution.{Resolution}
use Rattle.jcl_meaning.specs.declared.state.Resolution.TheVariants.{Fails, Means}
use Rattle.jcl_meaning.specs.declared.state.TakenSet.{TakenSet}
use Rattle.jcl_meaning.specs.declared.take.Decision.{Decision}
use Rattle.jcl_meaning.specs.declared.take.Decision.TheVariants.{Refuses, Takes}
use Rattle.jcl_meaning.specs.Acts.{act}
use Rattle.jcl_meaning.specs.Agendas.{Action, Dispose, Finish, Take, disposes_from, takes_from}
use Rattle.jcl_meaning.specs.EndActs.{disposes, disposes_at, finished, finishes, set_disposes}
use Rattle.jcl_meaning.specs.Resolutions.{meaning_at}
use Rattle.jcl_meaning.specs.Solo.{given, is_clean, run}
use Rattle.jcl_meaning.specs.States.{Answers, Done, Fixed, State, goes, if_runs, others, with_answers_used}
use Rattle.jcl_meaning.specs.TakeActs.{decided, decision_at, takes, takes_set, target_at}
use Rattle.path_laws.proofs.Cleanly.{Clean, run_is_clean}
use Rattle.path_laws.specs.PathParts.{next_outcome}
use Rattle.path_laws.specs.Steps.{HasStarted, behind_start}

-- before its end: it runs, these steps have ended, and these outcomes are given
record IsOpen (es : List Ended) (os : List Outcome) (s : State) : Type 0 where
  runs : s.own.runs ≡ true
  unended : s.own.over ≡ None
  answers : s.answers ≡ given os
  ended : s.own.ended ≡ es

-- an action that met no fault, and leaves such a state
abbrev Leaves : (State → Type 0) → Done → Type 0
Leaves To d = d.meets ≡ None → To d.state

module _ (fixed : Fixed) (n dd : ℕ) (name : Option (List ℕ)) (s : State) (es : List Ended) (os : List Outcome) (h : IsOpen es os s) where
  decided_leaves : (p : SetPlan) (key : Key) (d : Decision) → Leaves (IsOpen es os) (decided fixed n dd name p key s d)
  decided_leaves p key (Refuses fault) met = absurd cc
  decided_leaves p key (Takes serial how) met = record { runs = h.runs; unended = h.unended; answers = h.answers; ended = h.ended }

  set_leaves : (p : SetPlan) (r : Resolution) → Leaves (IsOpen es os) (takes_set fixed n dd name p s r)
  set_leaves p (Fails fault) met = absurd cc
  set_leaves p (Means key) met = decided_leaves p key (decision_at fixed p key s (target_at fixed n dd p key s)) met

  takes_leave : (kind : DdKind) → Leaves (IsOpen es os) (takes fixed n dd name kind s)
  takes_leave (Sysout class) met = record { runs = h.runs; unended = h.unended; answers = h.answers; ended = h.ended }
  takes_leave Dummy met = record { runs = h.runs; unended = h.unended; answers = h.answers; ended = h.ended }
  takes_leave (Cards cards) met = record { runs = h.runs; unended = h.unended; answers = h.answers; ended = h.ended }
  takes_leave (Set p) met = set_leaves p (meaning_at fixed.meanings n dd) met

-- behind its end: these steps have ended
abbrev IsShut : List Ended → State → Type 0
IsShut es s = s.own.ended ≡ es

module _ (fixed : Fixed) (n dd : ℕ) (name : Option (List ℕ)) (s : State) (es : List Ended) (h : IsShut es s) where
  set_disposes_leave : (p : SetPlan) (x : Option TakenSet) → IsShut es (set_disposes fixed n dd name p x s).state
  set_disposes_leave p None = h
  set_disposes_leave p (Some x) = h

  disposes_at_leave : (kind : DdKind) (x : DdState) → IsShut es (disposes_at fixed n dd name kind x s).state
  disposes_at_leave (Sysout class) x = h
  disposes_at_leave Dummy x = h
  disposes_at_leave (Cards cards) x = h
  disposes_at_leave (Set p) x = set_disposes_leave p x.taken

  disposes_leave : (kind : DdKind) (x : Option DdState) → IsShut es (disposes x fixed n dd name kind s).state
  disposes_leave kind None = h
  disposes_leave kind (Some x) = disposes_at_leave kind x

  if_runs_leaves : (b : Bool) (d : Done) → IsShut es d.state → IsShut es (if_runs b s d).state
  if_runs_leaves true d more = more
  if_runs_leaves false d more = h

-- the end of a step that runs
end_is : (n : ℕ) (s : State) (os : List Outcome) → s.own.runs ≡ true → s.own.over ≡ None → s.answers ≡ given os →
    (finished n s).state.own.ended ≡ record { step = n; outcome = next_outcome os } ∷ s.own.ended
end_is n s os runs unended answers =
    subst (λ (a : Answers). (finished n (record { store = s.store; own = s.own; answers = a })).state.own.ended ≡ record { step = n; outcome = next_outcome os } ∷ s.own.ended)
    (sym answers) (by_state s.own.runs s.own.over runs unended)
  where
    by_state : (b : Bool) (o : Option Outcome) → b ≡ true → o ≡ None →
        (cond b (finishes n o (record { store = s.store; own = s.own; answers = given os }))
        (goes [] (record { store = s.store; own = s.own; answers = given (others os) }))).state.own.ended ≡ record { step = n; outcome = next_outcome os } ∷ s.own.ended
    by_state true None p q = refl
    by_state true (Some o) p q = absurd cc
    by_state false o p q = absurd cc

if_runs_true : (To : State → Type 0) (b : Bool) (s : State) (d : Done) → b ≡ true → Leaves To d → Leaves To (if_runs b s d)
if_runs_true To true s d h more = more
if_runs_true To false s d h more = absurd cc

module _ (fixed : Fixed) where
  abbrev Lead : (State → Type 0) → (State → Type 0) → List Action → Type 0
  Lead From To actions = (s : State) → From s → Clean fixed actions s → To (run fixed actions s).state

  nothing_leads : (To : State → Type 0) → Lead To To []
  unfolding run
  nothing_leads To s h clean = h

  first_leads : (From Between To : State → Type 0) (a : Action) (actions : List Action) → ((s : State) → From s → Leaves Between (act fixed a s)) →
      Lead Between To actions → Lead From To (a ∷ actions)
  unfolding run
  first_leads From Between To a actions one more s h clean = more (act fixed a s).state (one s h clean.0) clean.1

  module _ (n : ℕ) (es : List Ended) (os : List Outcome) where
    take_leads : (dd : ℕ) (d : DdPlan) (s : State) → IsOpen es os s → Leaves (IsOpen es os) (act fixed (Take n dd d) s)
    unfolding act
    take_leads dd d s h =
        if_runs_true (IsOpen es os) s.own.runs s (takes fixed n dd d.name d.kind s) h.runs (takes_leave fixed n dd d.name s es os h d.kind)

    abbrev now : List Ended
    now = record { step = n; outcome = next_outcome os } ∷ es

    finish_leads : (s : State) → IsOpen es os s → Leaves (IsShut now) (act fixed (Finish n) s)
    unfolding act
    finish_leads s h met =
        end_is n s os h.runs h.unended h.answers ∙ ap (λ (ended : List Ended). record { step = n; outcome = next_outcome os } ∷ ended) h.ended

    dispose_leads : (dd : ℕ) (d : DdPlan) (s : State) → IsShut now s → Leaves (IsShut now) (act fixed (Dispose n dd d) s)
    unfolding act
    dispose_leads dd d s h met =
        if_runs_leaves fixed n dd d.name s now h s.own.runs (disposes (slice_get s.own.dds (dd - 1)) fixed n dd d.name d.kind s)
        (disposes_leave fixed n dd d.name s now h d.kind (slice_get s.own.dds (dd - 1)))

    takes_lead : (dd : ℕ) (ds : List DdPlan) (actions : List Action) → Lead (IsOpen es os) (IsShut now) actions →
        Lead (IsOpen es os) (IsShut now) (takes_from n dd ds ++ actions)
    takes_lead dd [] actions more = more
    takes_lead dd (d ∷ ds) actions more =
        first_leads (IsOpen es os) (IsOpen es os) (IsShut now) (Take n dd d) (takes_from n (dd + 1) ds ++ actions) (take_leads dd d)
        (takes_lead (dd + 1) ds actions more)

    disposes_lead : (dd : ℕ) (ds : List DdPlan) → Lead (IsShut now) (IsShut now) (disposes_from n dd ds)
    disposes_lead dd [] = nothing_leads (IsShut now)
    disposes_lead dd (d ∷ ds) =
        first_leads (IsShut now) (IsShut now) (IsShut now) (Dispose n dd d) (disposes_from n (dd + 1) ds) (dispose_leads dd d) (disposes_lead (dd + 1) ds)

    behind_leads : (step : StepPlan) → Lead (IsOpen es os) (IsShut now) (behind_start n step)
    behind_leads step =
        takes_lead 1 step.dds (Finish n ∷ disposes_from n 1 step.dds)
        (first_leads (IsOpen es os) (IsShut now) (IsShut now) (Finish n) (disposes_from n 1 step.dds) finish_leads (disposes_lead 1 step.dds))

pub step_ends : (fixed : Fixed) (n : ℕ) (step : StepPlan) (s : State) (outcomes : List Outcome) → HasStarted s outcomes →
    is_clean (run fixed (behind_start n step) s) ≡ true →
    (run fixed (behind_start n step) s).state.own.ended ≡ record { step = n; outcome = next_outcome outcomes } ∷ s.own.ended
step_ends fixed n step s outcomes h clean =
    behind_leads fixed n s.own.ended outcomes step s (record { runs = h.runs; unended = h.unended; answers = h.answers; ended = refl })
    (run_is_clean fixed (behind_start n step) s clean)
