-- A step that meets no fault uses up one outcome, and none ends the job.
use Rattle.std.proofs.Common.{◌≡◌, ◌++◌, ◌+◌, ◌-◌, ℕ, Bool, true, false, cond, List, [], ◌∷◌, drop, Option, Some, None, refl, sym, subst}
use Rattle.std.specs.Prelude.{slice_get}
use Rattle.jname_core.specs.declared.key.Key.{Key}
use Rattle.jcl_plan.specs.declared.outcome.Outcome.{Outcome}
use Rattle.jcl_plan.specs.declared.plan.DdKind.{DdKind}
use Rattle.jcl_plan.specs.declared.plan.DdKind.TheVariants.{Sysout, Dummy, Cards, Set}
use Rattle.jcl_plan.specs.declared.plan.DdPlan.{DdPlan}
use Rattle.jcl_plan.specs.declared.plan.JobPlan.{JobPlan}
use Rattle.jcl_plan.specs.declared.plan.SetPlan.{SetPlan}
use Rattle.jcl_plan.specs.declared.plan.StepPlan.{StepPlan}
use Rattle.jcl_meaning.specs.declared.state.DdState.{DdState}
use Rattle.jcl_meaning.specs.declared.state.Resolution.{Resolution}
use Rattle.jcl_meaning.specs.declared.state.Resolution.TheVariants.{Fails, Means}
use Rattle.jcl_meaning.specs.declared.state.TakenSet.{TakenSet}
use Rattle.jcl_meaning.specs.declared.take.Decision.{Decision}
use Rattle.jcl_meaning.specs.declared.take.Decision.TheVariants.{Refuses, Takes}
use Rattle.jcl_meaning.specs.Acts.{act}
use Rattle.jcl_meaning.specs.Agendas.{Action, Dispose, Finish, Start, Take, disposes_from, step_actions, takes_from}
use Rattle.jcl_meaning.specs.EndActs.{disposes, disposes_at, finished, finishes, set_disposes}
use Rattle.jcl_meaning.specs.Resolutions.{meaning_at}
use Rattle.jcl_meaning.specs.Solo.{given, is_clean, run}
use Rattle.jcl_meaning.specs.States.{Answers, Done, Fixed, State, goes, if_runs, others}
use Rattle.jcl_meaning.specs.TakeActs.{decided, decision_at, takes, takes_set, target_at}
use Rattle.path_laws.proofs.Cleanly.{Clean, run_is_clean}
use Rattle.path_laws.specs.PathParts.{IsBefore, part_from, path_part}

-- an action that met no fault, with these outcomes left behind it
abbrev Leaves : List Outcome → Done → Type 0
Leaves os d = d.meets ≡ None → IsBefore d.state os

module _ (fixed : Fixed) (n dd : ℕ) (name : Option (List ℕ)) (s : State) (os : List Outcome) (h : IsBefore s os) where
  decided_leaves : (p : SetPlan) (key : Key) (d : Decision) → Leaves os (decided fixed n dd name p key s d)
  decided_leaves p key (Refuses fault) met = absurd cc
  decided_leaves p key (Takes serial how) met = record { unfaulted = h.unfaulted; answers = h.answers }

  set_leaves : (p : SetPlan) (r : Resolution) → Leaves os (takes_set fixed n dd name p s r)
  set_leaves p (Fails fault) met = absurd cc
  set_leaves p (Means key) met = decided_leaves p key (decision_at fixed p key s (target_at fixed n dd p key s)) met

  takes_leave : (kind : DdKind) → Leaves os (takes fixed n dd name kind s)
  takes_leave (Sysout class) met = record { unfaulted = h.unfaulted; answers = h.answers }
  takes_leave Dummy met = record { unfaulted = h.unfaulted; answers = h.answers }
  takes_leave (Cards cards) met = record { unfaulted = h.unfaulted; answers = h.answers }
  takes_leave (Set p) met = set_leaves p (meaning_at fixed.meanings n dd) met

  set_disposes_leave : (p : SetPlan) (x : Option TakenSet) → Leaves os (set_disposes fixed n dd name p x s)
  set_disposes_leave p None met = h
  set_disposes_leave p (Some x) met = record { unfaulted = h.unfaulted; answers = h.answers }

  disposes_at_leave : (kind : DdKind) (x : DdState) → Leaves os (disposes_at fixed n dd name kind x s)
  disposes_at_leave (Sysout class) x met = record { unfaulted = h.unfaulted; answers = h.answers }
  disposes_at_leave Dummy x met = h
  disposes_at_leave (Cards cards) x met = h
  disposes_at_leave (Set p) x met = set_disposes_leave p x.taken met

  disposes_leave : (kind : DdKind) (x : Option DdState) → Leaves os (disposes x fixed n dd name kind s)
  disposes_leave kind None met = h
  disposes_leave kind (Some x) met = disposes_at_leave kind x met

  if_runs_leaves : (b : Bool) (d : Done) → Leaves os d → Leaves os (if_runs b s d)
  if_runs_leaves true d more = more
  if_runs_leaves false d more = λ met. h

-- the step's end takes the next outcome, or passes over it
finishes_leave : (n : ℕ) (s : State) (os : List Outcome) → s.own.faulted ≡ false → (o : Option Outcome) →
    IsBefore (finishes n o (record { store = s.store; own = s.own; answers = given os })).state (others os)
finishes_leave n s os unfaulted (Some o) = record { unfaulted = unfaulted; answers = refl }
finishes_leave n s os unfaulted None = record { unfaulted = unfaulted; answers = refl }

finished_leaves : (n : ℕ) (s : State) (os : List Outcome) → IsBefore s os → IsBefore (finished n s).state (others os)
finished_leaves n s os h =
    subst (λ (a : Answers). IsBefore (finished n (record { store = s.store; own = s.own; answers = a })).state (others os)) (sym h.answers)
    (by_running s.own.runs)
  where
    by_running : (b : Bool) →
        IsBefore (cond b (finishes n s.own.over (record { store = s.store; own = s.own; answers = given os }))
        (goes [] (record { store = s.store; own = s.own; answers = given (others os) }))).state (others os)
    by_running true = finishes_leave n s os h.unfaulted s.own.over
    by_running false = record { unfaulted = h.unfaulted; answers = refl }

-- actions that lead from a place where these outcomes are left to one where those are
module _ (fixed : Fixed) where
  abbrev Leads : List Outcome → List Outcome → List Action → Type 0
  Leads os ps actions = (s : State) → IsBefore s os → Clean fixed actions s → IsBefore (run fixed actions s).state ps

  nothing_leads : (os : List Outcome) → Leads os os []
  unfolding run
  nothing_leads os s h clean = h

  first_leads : (a : Action) (actions : List Action) (os ps qs : List Outcome) → ((s : State) → IsBefore s os → Leaves ps (act fixed a s)) →
      Leads ps qs actions → Leads os qs (a ∷ actions)
  unfolding run
  first_leads a actions os ps qs one more s h clean = more (act fixed a s).state (one s h clean.0) clean.1

  start_leads : (n : ℕ) (step : StepPlan) (os : List Outcome) (s : State) → IsBefore s os → Leaves os (act fixed (Start n step) s)
  unfolding act
  start_leads n step os s h met = record { unfaulted = h.unfaulted; answers = h.answers }

  take_leads : (n dd : ℕ) (d : DdPlan) (os : List Outcome) (s : State) → IsBefore s os → Leaves os (act fixed (Take n dd d) s)
  unfolding act
  take_leads n dd d os s h =
      if_runs_leaves fixed n dd d.name s os h s.own.runs (takes fixed n dd d.name d.kind s) (takes_leave fixed n dd d.name s os h d.kind)

  finish_leads : (n : ℕ) (os : List Outcome) (s : State) → IsBefore s os → Leaves (others os) (act fixed (Finish n) s)
  unfolding act
  finish_leads n os s h met = finished_leaves n s os h

  dispose_leads : (n dd : ℕ) (d : DdPlan) (os : List Outcome) (s : State) → IsBefore s os → Leaves os (act fixed (Dispose n dd d) s)
  unfolding act
  dispose_leads n dd d os s h =
      if_runs_leaves fixed n dd d.name s os h s.own.runs (disposes (slice_get s.own.dds (dd - 1)) fixed n dd d.name d.kind s)
      (disposes_leave fixed n dd d.name s os h d.kind (slice_get s.own.dds (dd - 1)))

  takes_lead : (n dd : ℕ) (ds : List DdPlan) (os ps : List Outcome) (actions : List Action) → Leads os ps actions → Leads os ps (takes_from n dd ds ++ actions)
  takes_lead n dd [] os ps actions more = more
  takes_lead n dd (d ∷ ds) os ps actions more =
      first_leads (Take n dd d) (takes_from n (dd + 1) ds ++ actions) os os ps (take_leads n dd d os) (takes_lead n (dd + 1) ds os ps actions more)

  disposes_lead : (n dd : ℕ) (ds : List DdPlan) (os : List Outcome) → Leads os os (disposes_from n dd ds)
  disposes_lead n dd [] os = nothing_leads os
  disposes_lead n dd (d ∷ ds) os =
      first_leads (Dispose n dd d) (disposes_from n (dd + 1) ds) os os os (dispose_leads n dd d os) (disposes_lead n (dd + 1) ds os)

  step_leads : (n : ℕ) (step : StepPlan) (os : List Outcome) → Leads os (others os) (step_actions n step [])
  step_leads n step os =
      first_leads (Start n step) (takes_from n 1 step.dds ++ (Finish n ∷ disposes_from n 1 step.dds)) os os (others os) (start_leads n step os)
      (takes_lead n 1 step.dds os (others os) (Finish n ∷ disposes_from n 1 step.dds)
      (first_leads (Finish n) (disposes_from n 1 step.dds) os (others os) (others os) (finish_leads n os) (disposes_lead n 1 step.dds (others os))))

pub part_leaves : (plan : JobPlan) (fixed : Fixed) (k : ℕ) (step : StepPlan) (later : List StepPlan) (s : State) (os : List Outcome) →
    drop k plan.steps ≡ step ∷ later → IsBefore s os → is_clean (run fixed (path_part plan k) s) ≡ true →
    IsBefore (run fixed (path_part plan k) s).state (others os)
part_leaves plan fixed k step later s os d h =
    subst (λ (steps : List StepPlan). is_clean (run fixed (part_from k plan.steps steps) s) ≡ true →
    IsBefore (run fixed (part_from k plan.steps steps) s).state (others os)) (sym d)
    (λ clean. step_leads fixed (k + 1) step os s h (run_is_clean fixed (step_actions (k + 1) step []) s clean))
