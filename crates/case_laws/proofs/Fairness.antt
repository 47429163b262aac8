-- Programs that end as they may give fair answers.
use Rattle.std.proofs.Common.{◌≡◌, ◌≤◌, ℕ, Bool, true, false, cond, List, [], ◌∷◌, Option, Some, None, All, arith}
use Rattle.std.specs.Prelude.{◌-◌, slice_get}
use Rattle.std.specs.Str.{bytes_eq}
use Rattle.std.proofs.lemmas.List.Elements.{All-cons, All-head, All-nil, All-tail}
use Rattle.jcl_plan.specs.declared.outcome.Outcome.TheVariants as outcome
use Rattle.jcl_plan.specs.declared.plan.StepPlan.{StepPlan}
use Rattle.jcl_meaning.specs.declared.program.Request.{Request}
use Rattle.jcl_meaning.specs.declared.program.Request.TheVariants.{Get, Put, End, Abend}
use Rattle.jcl_meaning.specs.declared.program.SoloProgram.{SoloProgram}
use Rattle.jcl_meaning.specs.declared.state.Own.{Own}
use Rattle.jcl_meaning.specs.Agendas.{Action, Ask, Dispose, Finish, Left, Over, Receive, Start, Take}
use Rattle.jcl_meaning.specs.History.{IsStepOutcome}
use Rattle.jcl_meaning.specs.Programs.{ending_by, ending_in, ending_of, is_iefbr14, program_of}
use Rattle.jcl_meaning.specs.WellFormed.{AreWellFormedPrograms, IsRequest}
use Rattle.world_meaning.specs.Turns.{Granting, answers_due, end_of, outcomes_due}
use Rattle.case_laws.specs.Cases.{AreFair}

code_zero : IsStepOutcome (outcome.Code 0)
code_zero = let le : 0 ≤ 4095 = omega arith in le

requests_end : (requests : List Request) → All IsRequest requests → IsStepOutcome (ending_in requests)
requests_end [] h = code_zero
requests_end (Get dd ∷ requests) h = requests_end requests (All-tail IsRequest (Get dd) requests h)
requests_end (Put dd text ∷ requests) h = requests_end requests (All-tail IsRequest (Put dd text) requests h)
requests_end (End code ∷ requests) h = All-head IsRequest (End code) requests h
requests_end (Abend code ∷ requests) h = tt

program_ends : (programs : List SoloProgram) (name : List ℕ) → AreWellFormedPrograms programs → IsStepOutcome (ending_by (program_of programs name))
program_ends [] name h = tt
program_ends (p ∷ ps) name h =
    by_name (bytes_eq p.name name) (program_ends ps name (All-tail (λ program. All IsRequest program.requests) p ps h))
  where
    by_name : (b : Bool) → IsStepOutcome (ending_by (program_of ps name)) → IsStepOutcome (ending_by (cond b (Some p.requests) (program_of ps name)))
    by_name true later = requests_end p.requests (All-head (λ program. All IsRequest program.requests) p ps h)
    by_name false later = later

ends : (programs : List SoloProgram) (name : List ℕ) → AreWellFormedPrograms programs → IsStepOutcome (ending_of programs name)
ends programs name h = by_name (is_iefbr14 name)
  where
    by_name : (b : Bool) → IsStepOutcome (cond b (outcome.Code 0) (ending_by (program_of programs name)))
    by_name true = code_zero
    by_name false = program_ends programs name h

step_ends : (programs : List SoloProgram) (step : Option StepPlan) → AreWellFormedPrograms programs → All IsStepOutcome (end_of programs step)
step_ends programs None h = All-nil IsStepOutcome
step_ends programs (Some step) h = All-cons IsStepOutcome (ending_of programs step.program) [] (ends programs step.program h) (All-nil IsStepOutcome)

action_ends : (programs : List SoloProgram) (steps : List StepPlan) (a : Action) → AreWellFormedPrograms programs →
    All IsStepOutcome (outcomes_due programs steps a)
action_ends programs steps (Start n step) h = All-nil IsStepOutcome
action_ends programs steps (Take n dd d) h = All-nil IsStepOutcome
action_ends programs steps (Ask step move) h = All-nil IsStepOutcome
action_ends programs steps Receive h = All-nil IsStepOutcome
action_ends programs steps (Finish n) h = step_ends programs (slice_get steps (n - 1)) h
action_ends programs steps (Dispose n dd d) h = All-nil IsStepOutcome
action_ends programs steps (Left n dd d) h = All-nil IsStepOutcome
action_ends programs steps Over h = All-nil IsStepOutcome

pub are_fair : (programs : List SoloProgram) (steps : List StepPlan) (g : Granting) (a : Action) (own : Own) → AreWellFormedPrograms programs →
    g.primary ≡ true →
    AreFair (answers_due programs steps g a own)
are_fair programs steps g a own h granted = record { granted = granted; ends = action_ends programs steps a h }
