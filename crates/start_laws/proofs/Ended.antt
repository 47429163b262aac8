-- How many steps have ended where a fault of the first steps is met.
use Rattle.std.proofs.Common.{◌≡◌, ◌+◌, ◌-◌, ◌++◌, ◌≤◌, ◌<◌, ℕ, zero, suc, List, [], ◌∷◌, length, take, Some, ap, ◌∙◌, subst, sym, arith}
use Rattle.std.specs.Prelude.{All, slice_get}
use Rattle.std.proofs.lemmas.List.{length-take}
use Rattle.std.proofs.lemmas.List.Elements.{All-append, All-cons, All-head, All-nil, All-tail}
use Rattle.jcl_plan.specs.declared.plan.DdPlan.{DdPlan}
use Rattle.jcl_plan.specs.declared.plan.JobPlan.{JobPlan}
use Rattle.jcl_plan.specs.declared.plan.StepPlan.{StepPlan}
use Rattle.jcl_meaning.specs.declared.program.Move.{Move}
use Rattle.jcl_meaning.specs.Agendas.{Action, Ask, Dispose, Finish, Left, Over, Receive, Start, Take, disposes_from, moves_from, path_agenda, step_actions}
use Rattle.jcl_meaning.specs.Agendas.{steps_from, takes_from}
use Rattle.jcl_meaning.specs.Programs.{moves_of}
use Rattle.path_meaning.specs.Paths.{FaultPlace, fault_place}
use Rattle.path_laws.specs.Paths.{before_part}
use Rattle.path_laws.proofs.Parts.{behind_front, cut_behind, front_of}

-- an action of the steps up to this one
abbrev IsOfSteps : ℕ → Action → Type 0
IsOfSteps most (Start n step) = Unit {0}
IsOfSteps most (Take n dd d) = n ≤ most
IsOfSteps most (Ask step move) = Unit {0}
IsOfSteps most Receive = Unit {0}
IsOfSteps most (Finish n) = Unit {0}
IsOfSteps most (Dispose n dd d) = n ≤ most
IsOfSteps most (Left n dd d) = ⊥
IsOfSteps most Over = Unit {0}

ended_by : (steps most : ℕ) (a : Action) (p : FaultPlace) → IsOfSteps most a → fault_place steps a ≡ Some p → p.ended ≤ most
ended_by steps most (Start n step) p of at = absurd cc
ended_by steps most (Take n dd d) p of at =
    let e : record { step = n; dd = dd; ended = n - 1 } ≡ p = cc in
    let ended : n - 1 ≡ p.ended = ap (λ (q : FaultPlace). q.ended) e in
    omega (arith, of)
ended_by steps most (Ask step move) p of at = absurd cc
ended_by steps most Receive p of at = absurd cc
ended_by steps most (Finish n) p of at = absurd cc
ended_by steps most (Dispose n dd d) p of at =
    let e : record { step = n; dd = dd; ended = n } ≡ p = cc in
    let ended : n ≡ p.ended = ap (λ (q : FaultPlace). q.ended) e in
    omega (arith, of)
ended_by steps most (Left n dd d) p of at = absurd of
ended_by steps most Over p of at = absurd cc

module _ (most : ℕ) where
  abbrev AreOfSteps : List Action → Type 0
  AreOfSteps actions = All (IsOfSteps most) actions

  takes_of : (n dd : ℕ) (ds : List DdPlan) → n ≤ most → AreOfSteps (takes_from n dd ds)
  takes_of n dd [] h = All-nil (IsOfSteps most)
  takes_of n dd (d ∷ ds) h = All-cons (IsOfSteps most) (Take n dd d) (takes_from n (dd + 1) ds) h (takes_of n (dd + 1) ds h)

  disposes_of : (n dd : ℕ) (ds : List DdPlan) → n ≤ most → AreOfSteps (disposes_from n dd ds)
  disposes_of n dd [] h = All-nil (IsOfSteps most)
  disposes_of n dd (d ∷ ds) h = All-cons (IsOfSteps most) (Dispose n dd d) (disposes_from n (dd + 1) ds) h (disposes_of n (dd + 1) ds h)

  requests_of : (step : StepPlan) (moves : List Move) → AreOfSteps (moves_from step moves)
  requests_of step [] = All-nil (IsOfSteps most)
  requests_of step (m ∷ moves) =
      All-cons (IsOfSteps most) (Ask step m) (Receive ∷ moves_from step moves) tt
      (All-cons (IsOfSteps most) Receive (moves_from step moves) tt (requests_of step moves))

  step_of : (n : ℕ) (step : StepPlan) (moves : List Move) → n ≤ most → AreOfSteps (step_actions n step moves)
  step_of n step moves h =
      All-cons (IsOfSteps most) (Start n step) (takes_from n 1 step.dds ++ (moves_from step moves ++ (Finish n ∷ disposes_from n 1 step.dds))) tt
      (All-append (IsOfSteps most) (takes_from n 1 step.dds) (moves_from step moves ++ (Finish n ∷ disposes_from n 1 step.dds)) (takes_of n 1 step.dds h)
      (All-append (IsOfSteps most) (moves_from step moves) (Finish n ∷ disposes_from n 1 step.dds) (requests_of step moves)
      (All-cons (IsOfSteps most) (Finish n) (disposes_from n 1 step.dds) tt (disposes_of n 1 step.dds h))))

  steps_of : (n : ℕ) (steps : List StepPlan) → n + length steps ≤ suc most → AreOfSteps (steps_from (moves_of []) n steps)
  steps_of n [] h = All-nil (IsOfSteps most)
  steps_of n (step ∷ steps) h =
      All-append (IsOfSteps most) (step_actions n step (moves_of [] step.program)) (steps_from (moves_of []) (n + 1) steps)
      (step_of n step (moves_of [] step.program) (omega arith)) (steps_of (n + 1) steps (omega arith))

-- at a place within the front of a list stands one of the front
at_front : (P : Action → Type 0) (xs ys : List Action) (place : ℕ) (a : Action) → All P xs → place < length xs → slice_get (xs ++ ys) place ≡ Some a → P a
at_front P [] ys place a all h e = absurd (omega arith)
at_front P (x ∷ xs) ys zero a all h e = let same : x ≡ a = cc in subst P same (All-head P x xs all)
at_front P (x ∷ xs) ys (suc place) a all h e = at_front P xs ys place a (All-tail P x xs all) (omega arith) e

-- a fault of the first k steps is met where no more than those have ended
pub ended_within : (plan : JobPlan) (k place : ℕ) (a : Action) (p : FaultPlace) → place < before_part plan k →
    slice_get (path_agenda plan) place ≡ Some a → fault_place (length plan.steps) a ≡ Some p → p.ended ≤ k
ended_within plan k place a p below due at =
    ended_by (length plan.steps) k a p
    (at_front (IsOfSteps k) (front_of plan k) (behind_front plan k) place a
    (steps_of k 1 (take k plan.steps) (omega (arith, length-take k plan.steps))) below
    (ap (λ actions. slice_get actions place) (sym (cut_behind plan k)) ∙ due))
    at
