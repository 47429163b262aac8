-- The path of a RISK has an outcome for each step that has ended where the fault is met.
use Rattle.std.proofs.Common.{◌≡◌, ◌+◌, ◌-◌, ◌++◌, ◌≤◌, ℕ, suc, Bool, true, false, cond, List, [], ◌∷◌, drop, length, take, Some, refl, ap, ◌∙◌, arith}
use Rattle.std.specs.List.{AllByRecursion}
use Rattle.std.proofs.lemmas.List.{length-append, length-take-le}
use Rattle.jcl_plan.specs.declared.fault.Fault.{Fault}
use Rattle.jcl_plan.specs.declared.outcome.Fate.{Fate}
use Rattle.jcl_plan.specs.declared.outcome.Outcome.{Outcome}
use Rattle.jcl_plan.specs.declared.plan.DdPlan.{DdPlan}
use Rattle.jcl_plan.specs.declared.plan.JobPlan.{JobPlan}
use Rattle.jcl_plan.specs.declared.plan.StepPlan.{StepPlan}
use Rattle.jcl_meaning.specs.declared.program.Move.{Move}
use Rattle.jcl_meaning.specs.Agendas.{Action, Ask, Dispose, Finish, Left, Over, Receive, Start, Take, disposes_from, left_by, lefts_from, lefts_in}
use Rattle.jcl_meaning.specs.Agendas.{moves_from, path_agenda, step_actions, steps_from, takes_from}
use Rattle.jcl_meaning.specs.Plans.{passes}
use Rattle.jcl_meaning.specs.Programs.{moves_of}
use Rattle.jcl_meaning.specs.Solo.{Ran, solo_path_of}
use Rattle.jcl_meaning.specs.States.{Fixed}
use Rattle.jcl_meaning.specs.Stores.{Store}
use Rattle.jcl_meaning.specs.Views.{ran_to}
use Rattle.path_meaning.specs.Paths.{FaultPlace, MeetsFault, fates_in, fault_place, path_shown}
use Rattle.path_search.proofs.PartPlaces.{at_place}
use Rattle.path_laws.proofs.Fates.{tells_fates}
use Rattle.path_laws.proofs.Parts.{path_begins}
use Rattle.path_laws.proofs.Seeing.{fates_append}

-- an action of one of so many steps, or of the job's end
module _ (steps : ℕ) where
  abbrev IsWithin : Action → Type 0
  IsWithin (Start n step) = Unit {0}
  IsWithin (Take n dd d) = n ≤ steps
  IsWithin (Ask step move) = Unit {0}
  IsWithin Receive = Unit {0}
  IsWithin (Finish n) = Unit {0}
  IsWithin (Dispose n dd d) = n ≤ steps
  IsWithin (Left n dd d) = Unit {0}
  IsWithin Over = Unit {0}

  abbrev AreWithin : List Action → Type 0
  AreWithin actions = AllByRecursion IsWithin actions

  both_within : (xs ys : List Action) → AreWithin xs → AreWithin ys → AreWithin (xs ++ ys)
  both_within [] ys first second = second
  both_within (x ∷ xs) ys first second = (first.0, both_within xs ys first.1 second)

  takes_within : (n dd : ℕ) (ds : List DdPlan) → n ≤ steps → AreWithin (takes_from n dd ds)
  takes_within n dd [] h = tt
  takes_within n dd (d ∷ ds) h = (h, takes_within n (dd + 1) ds h)

  requests_within : (step : StepPlan) (moves : List Move) → AreWithin (moves_from step moves)
  requests_within step [] = tt
  requests_within step (m ∷ moves) = (tt, (tt, requests_within step moves))

  disposes_within : (n dd : ℕ) (ds : List DdPlan) → n ≤ steps → AreWithin (disposes_from n dd ds)
  disposes_within n dd [] h = tt
  disposes_within n dd (d ∷ ds) h = (h, disposes_within n (dd + 1) ds h)

  step_within : (n : ℕ) (step : StepPlan) (moves : List Move) → n ≤ steps → AreWithin (step_actions n step moves)
  step_within n step moves h = (
    tt,
    both_within (takes_from n 1 step.dds) (moves_from step moves ++ (Finish n ∷ disposes_from n 1 step.dds)) (takes_within n 1 step.dds h)
        (both_within (moves_from step moves) (Finish n ∷ disposes_from n 1 step.dds) (requests_within step moves) (tt, disposes_within n 1 step.dds h)),
  )

  steps_within : (n : ℕ) (later : List StepPlan) → n + length later ≤ suc steps → AreWithin (steps_from (moves_of []) n later)
  steps_within n [] h = tt
  steps_within n (step ∷ later) h =
      both_within (step_actions n step (moves_of [] step.program)) (steps_from (moves_of []) (n + 1) later)
      (step_within n step (moves_of [] step.program) (omega (arith, h))) (steps_within (n + 1) later (omega (arith, h)))

  one_left_within : (n dd : ℕ) (d : DdPlan) (b : Bool) → AreWithin (cond b (Left n dd d ∷ []) [])
  one_left_within n dd d true = (tt, tt)
  one_left_within n dd d false = tt

  step_left_within : (n dd : ℕ) (ds : List DdPlan) → AreWithin (lefts_in n dd ds)
  step_left_within n dd [] = tt
  step_left_within n dd (d ∷ ds) =
      both_within (left_by n dd d) (lefts_in n (dd + 1) ds) (one_left_within n dd d (passes d.kind)) (step_left_within n (dd + 1) ds)

  lefts_within : (n : ℕ) (each : List StepPlan) → AreWithin (lefts_from n each)
  lefts_within n [] = tt
  lefts_within n (step ∷ each) =
      both_within (lefts_in n 1 step.dds) (lefts_from (n + 1) each) (step_left_within n 1 step.dds) (lefts_within (n + 1) each)

  -- where it may meet a fault, no more than these have ended
  ended_within : (a : Action) (p : FaultPlace) → IsWithin a → fault_place steps a ≡ Some p → p.ended ≤ steps
  ended_within (Start n step) p of at = absurd cc
  ended_within (Take n dd d) p of at =
      let e : record { step = n; dd = dd; ended = n - 1 } ≡ p = cc in
      let ended : n - 1 ≡ p.ended = ap (λ (q : FaultPlace). q.ended) e in
      omega (arith, of)
  ended_within (Ask step move) p of at = absurd cc
  ended_within Receive p of at = absurd cc
  ended_within (Finish n) p of at = absurd cc
  ended_within (Dispose n dd d) p of at =
      let e : record { step = n; dd = dd; ended = n } ≡ p = cc in
      let ended : n ≡ p.ended = ap (λ (q : FaultPlace). q.ended) e in
      omega (arith, of)
  ended_within (Left n dd d) p of at =
      let e : record { step = n; dd = dd; ended = steps } ≡ p = cc in
      let ended : steps ≡ p.ended = ap (λ (q : FaultPlace). q.ended) e in
      omega arith
  ended_within Over p of at = absurd cc

-- each action of a path is of one of the plan's steps, or of the job's end
agenda_within : (plan : JobPlan) → AllByRecursion (IsWithin (length plan.steps)) (path_agenda plan)
agenda_within plan =
    let steps : ℕ = length plan.steps in
    both_within steps (steps_from (moves_of []) 1 plan.steps) (lefts_from 1 plan.steps ++ (Over ∷ []))
    (steps_within steps 1 plan.steps (omega arith))
    (both_within steps (lefts_from 1 plan.steps) (Over ∷ []) (lefts_within steps 1 plan.steps) (tt, tt))

-- a path that is shown is as long as its fates
as_long : (fates : List Fate) (outcomes : List Outcome) → length (path_shown fates outcomes) ≡ length fates
as_long [] outcomes = refl
as_long (f ∷ fates) outcomes = ap suc (as_long fates (drop 1 outcomes))

-- a whole path tells a fate for each step
tells_all : (fixed : Fixed) (plan : JobPlan) (store : Store) (outcomes : List Outcome) →
    length plan.steps ≤ length (fates_in (solo_path_of fixed plan store outcomes).lines)
tells_all fixed plan store outcomes =
    let begins = path_begins fixed plan store (length plan.steps) outcomes in
    let before : List Fate = fates_in (ran_to fixed plan store (length plan.steps) outcomes).lines in
    let each : length before ≡ length plan.steps = tells_fates fixed plan store (length plan.steps) outcomes (omega arith) in
    let all : length (fates_in (solo_path_of fixed plan store outcomes).lines) ≡ length before + length (fates_in begins.0.lines) =
    ap length (ap (λ (r : Ran). fates_in r.lines) begins.1 ∙ fates_append (ran_to fixed plan store (length plan.steps) outcomes).lines begins.0.lines)
    ∙ length-append before (fates_in begins.0.lines) in
    omega (arith, each, all)

-- The path to a fault has as many outcomes as steps have ended there.
pub path_length : (fixed : Fixed) (plan : JobPlan) (store : Store) (fault : Fault) (step dd : ℕ) (path : List Outcome) →
    (meets : MeetsFault fixed plan store fault step dd path) → length path ≡ meets.ended
path_length fixed plan store fault step dd path meets =
    let fates : List Fate = fates_in (solo_path_of fixed plan store meets.outcomes).lines in
    let action_within : IsWithin (length plan.steps) meets.action =
    at_place (IsWithin (length plan.steps)) (path_agenda plan) meets.place meets.action (agenda_within plan) meets.due in
    let few : meets.ended ≤ length plan.steps =
    ended_within (length plan.steps) meets.action (record { step = step; dd = dd; ended = meets.ended }) action_within meets.at in
    let all : length plan.steps ≤ length fates = tells_all fixed plan store meets.outcomes in
    ap length meets.shown ∙ as_long (take meets.ended fates) meets.outcomes ∙ length-take-le meets.ended fates (omega (arith, few, all))
