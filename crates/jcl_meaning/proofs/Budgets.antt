-- The length of an agenda.
use Rattle.std.proofs.Common.{◌≡◌, ℕ, suc, ◌+◌, ◌*◌, Bool, true, false, cond, List, [], ◌∷◌, ◌++◌, length, refl, sym, ap, ◌∙◌, arith, length-append}
use Rattle.std.specs.Prelude.{sum_by}
use Rattle.std.proofs.lemmas.List.Sums.{sum_by-cons}
use Rattle.jcl_plan.specs.declared.plan.DdPlan.{DdPlan}
use Rattle.jcl_plan.specs.declared.plan.JobPlan.{JobPlan}
use Rattle.jcl_plan.specs.declared.plan.StepPlan.{StepPlan}
use Rattle.jcl_meaning.specs.declared.program.Move.{Move}
use Rattle.jcl_meaning.specs.declared.program.SoloProgram.{SoloProgram}
use Rattle.jcl_meaning.specs.Agendas.{Action, agenda, budget_of, disposes_from, left_by, lefts_from, lefts_in, moves_from, passing, step_actions, step_budget, steps_from, takes_from}
use Rattle.jcl_meaning.specs.Plans.{passes}
use Rattle.jcl_meaning.specs.Programs.{moves_of}

length-takes : (step dd : ℕ) (ds : List DdPlan) → length (takes_from step dd ds) ≡ length ds
length-takes step dd [] = refl
length-takes step dd (d ∷ ds) = ap suc (length-takes step (dd + 1) ds)

length-disposes : (step dd : ℕ) (ds : List DdPlan) → length (disposes_from step dd ds) ≡ length ds
length-disposes step dd [] = refl
length-disposes step dd (d ∷ ds) = ap suc (length-disposes step (dd + 1) ds)

length-moves : (step : StepPlan) (ms : List Move) → length (moves_from step ms) ≡ 2 * length ms
length-moves step [] = refl
length-moves step (m ∷ ms) = omega (arith, length-moves step ms)

length-step : (n : ℕ) (step : StepPlan) (ms : List Move) → length (step_actions n step ms) ≡ 2 + 2 * length step.dds + 2 * length ms
length-step n step ms =
    omega (
      arith,
      length-append (takes_from n 1 step.dds) (moves_from step ms ++ (Action.Finish n ∷ disposes_from n 1 step.dds)),
      length-append (moves_from step ms) (Action.Finish n ∷ disposes_from n 1 step.dds),
      length-takes n 1 step.dds,
      length-moves step ms,
      length-disposes n 1 step.dds,
    )

length-steps : (programs : List SoloProgram) (n : ℕ) (steps : List StepPlan) → length (steps_from (moves_of programs) n steps) ≡ sum_by (step_budget programs) steps
length-steps programs n [] = refl
length-steps programs n (step ∷ steps) =
    length-append (step_actions n step (moves_of programs step.program)) (steps_from (moves_of programs) (n + 1) steps)
    ∙ (λ i. length-step n step (moves_of programs step.program) i + length-steps programs (n + 1) steps i)
    ∙ sym (sum_by-cons (step_budget programs) step steps)

one_or_none : (b : Bool) (a : Action) → length (cond b (a ∷ []) []) ≡ cond b 1 0
one_or_none true a = refl
one_or_none false a = refl

length-lefts_in : (step dd : ℕ) (ds : List DdPlan) → length (lefts_in step dd ds) ≡ sum_by (λ d. cond (passes d.kind) 1 0) ds
length-lefts_in step dd [] = refl
length-lefts_in step dd (d ∷ ds) =
    length-append (left_by step dd d) (lefts_in step (dd + 1) ds)
    ∙ (λ i. one_or_none (passes d.kind) (Action.Left step dd d) i + length-lefts_in step (dd + 1) ds i)
    ∙ sym (sum_by-cons (λ x. cond (passes x.kind) 1 0) d ds)

length-lefts : (n : ℕ) (steps : List StepPlan) → length (lefts_from n steps) ≡ sum_by passing steps
length-lefts n [] = refl
length-lefts n (step ∷ steps) =
    length-append (lefts_in n 1 step.dds) (lefts_from (n + 1) steps) ∙ (λ i. length-lefts_in n 1 step.dds i + length-lefts (n + 1) steps i)
    ∙ sym (sum_by-cons passing step steps)

-- the budget of a job is the length of its agenda
pub budget_is-length : (plan : JobPlan) (programs : List SoloProgram) → budget_of plan programs ≡ length (agenda plan programs)
budget_is-length plan programs =
    omega (
      arith,
      length-append (steps_from (moves_of programs) 1 plan.steps) (lefts_from 1 plan.steps ++ (Action.Over ∷ [])),
      length-append (lefts_from 1 plan.steps) (Action.Over ∷ []),
      length-steps programs 1 plan.steps,
      length-lefts 1 plan.steps,
    )
