-- A turn of an admitted job writes S222 only where a cancel of it has not acted, and then nothing else.
use Rattle.std.proofs.Common.{◌≡◌, ◌-◌, ℕ, suc, Bool, true, false, cond, List, [], ◌∷◌, Option, Some, None, ◌⊎◌, inl, inr, refl, subst}
use Rattle.std.specs.Prelude.{drop, slice_get}
use Rattle.std.specs.List.{list_any}
use Rattle.jcl_plan.specs.declared.entry.JobLine.{JobLine}
use Rattle.jcl_plan.specs.declared.entry.JobLine.TheVariants as line
use Rattle.jcl_plan.specs.declared.outcome.Abend.TheVariants.{S222}
use Rattle.jcl_plan.specs.declared.outcome.Outcome.{Outcome}
use Rattle.jcl_plan.specs.declared.outcome.Outcome.TheVariants as outcome
use Rattle.jcl_plan.specs.declared.plan.JobPlan.{JobPlan}
use Rattle.jcl_plan.specs.declared.plan.StepPlan.{StepPlan}
use Rattle.jcl_meaning.specs.declared.program.Request.{Request}
use Rattle.jcl_meaning.specs.declared.program.Request.TheVariants.{Get, Put, End, Abend}
use Rattle.jcl_meaning.specs.declared.program.SoloProgram.{SoloProgram}
use Rattle.jcl_meaning.specs.declared.state.Own.{Own}
use Rattle.jcl_meaning.specs.Agendas.{Action, Start, Take, Ask, Receive, Finish, Dispose, Left, Over, agenda}
use Rattle.jcl_meaning.specs.EndActs.{as_ending, end_line}
use Rattle.jcl_meaning.specs.Programs.{ending_by, ending_in, ending_of, is_iefbr14, program_of}
use Rattle.jcl_meaning.specs.RequestActs.{head_or}
use Rattle.jcl_meaning.specs.States.{Answers, Fixed, State, cancel_due}
use Rattle.world_meaning.specs.Lenses.{seen}
use Rattle.world_meaning.specs.Turns.{Advanced, Granting, advance, advanced, answers_due, end_of, granting, has_cancel, outcomes_due, state_in}
use Rattle.world_meaning.specs.Worlds.{Admission, Config, Shared}
use Rattle.world_laws.proofs.Behind.{acted, answered, here, writes_or_not}
use Rattle.cancel_laws.specs.Cancels.{is_s222}
use Rattle.cancel_laws.proofs.Acting.{act_spends}
use Rattle.cancel_laws.proofs.Spending.{Spends, plain, used}

-- a program ends itself by a code, a user's ABEND or S806
abbrev IsPlainEnd : Outcome → Type 0
IsPlainEnd o = is_s222 (end_line (as_ending o)) ≡ false

requests_end : (requests : List Request) → IsPlainEnd (ending_in requests)
requests_end [] = refl
requests_end (Get dd ∷ requests) = requests_end requests
requests_end (Put dd text ∷ requests) = requests_end requests
requests_end (End code ∷ requests) = refl
requests_end (Abend code ∷ requests) = refl

found_end : (requests : Option (List Request)) → IsPlainEnd (ending_by requests)
found_end None = refl
found_end (Some requests) = requests_end requests

program_ends : (programs : List SoloProgram) (name : List ℕ) → IsPlainEnd (ending_of programs name)
program_ends programs name = by (is_iefbr14 name) (ending_by (program_of programs name)) (found_end (program_of programs name))
  where
    by : (b : Bool) (o : Outcome) → IsPlainEnd o → IsPlainEnd (cond b (outcome.Code 0) o)
    by true o p = refl
    by false o p = p

step_ends : (programs : List SoloProgram) (step : Option StepPlan) → IsPlainEnd (head_or (outcome.Code 0) (end_of programs step))
step_ends programs None = refl
step_ends programs (Some step) = program_ends programs step.program

due_ends : (programs : List SoloProgram) (steps : List StepPlan) (a : Action) → IsPlainEnd (head_or (outcome.Code 0) (outcomes_due programs steps a))
due_ends programs steps (Start n step) = refl
due_ends programs steps (Take n dd d) = refl
due_ends programs steps (Ask step m) = refl
due_ends programs steps Receive = refl
due_ends programs steps (Finish n) = step_ends programs (slice_get steps (n - 1))
due_ends programs steps (Dispose n dd d) = refl
due_ends programs steps (Left n dd d) = refl
due_ends programs steps Over = refl

-- no line is S222, or the one line is, where there is a cancel
pub data Uses (cancel : Bool) (lines : List JobLine) : Type 0 where
  none : list_any is_s222 lines ≡ false → Uses cancel lines
  one : lines ≡ line.Abend S222 ∷ [] → cancel ≡ true → Uses cancel lines

was_there : (b : Bool) (n : ℕ) → cancel_due (cond b (Some n) None ∷ []) n ≡ true → b ≡ true
was_there true n is = refl
was_there false n is = absurd cc

module _ (programs : List SoloProgram) (steps : List StepPlan) (g : Granting) (fixed : Fixed) where
  abbrev answers : Action → Own → Answers
  answers = answers_due programs steps g

  act_uses : (a : Action) (s : State) → Uses g.cancel (acted answers fixed a s).lines
  act_uses a s = by (act_spends (answered answers a s) fixed a (due_ends programs steps a))
    where
      by : Spends (answered answers a s) (acted answers fixed a s) → Uses g.cancel (acted answers fixed a s).lines
      by (plain p) = none p
      by (used p due) = one p (was_there g.cancel s.own.lines due)

  here_or_later : (a : Action) (s : State) (count : ℕ) (x : Advanced) (further : Option Advanced) →
      (here answers fixed a s count ≡ x) ⊎ (((acted answers fixed a s).lines ≡ []) × (further ≡ Some x)) →
      (further ≡ Some x → Uses g.cancel x.done.lines) → Uses g.cancel x.done.lines
  here_or_later a s count x further (inl is) later = subst (λ (y : Advanced). Uses g.cancel y.done.lines) is (act_uses a s)
  here_or_later a s count x further (inr found) later = later found.1

  advance_uses : (actions : List Action) (s : State) (count : ℕ) (x : Advanced) → advance answers fixed actions s count ≡ Some x → Uses g.cancel x.done.lines
  unfolding advance
  advance_uses [] s count x e = absurd cc
  advance_uses (a ∷ rest) s count x e =
      here_or_later a s count x (advance answers fixed rest (acted answers fixed a s).state (suc count))
      (writes_or_not (acted answers fixed a s).lines (here answers fixed a s count) x
      (advance answers fixed rest (acted answers fixed a s).state (suc count)) e)
      (advance_uses rest (acted answers fixed a s).state (suc count) x)

pub turn_uses : (c : Config) (s : Shared) (job : ℕ) (plan : JobPlan) (a : Admission) (count : ℕ) (own : Own) (growth primary : Bool) (x : Advanced) →
    advanced c s job plan a count own growth primary ≡ Some x → Uses (has_cancel s.cancels job) x.done.lines
turn_uses c s job plan a count own growth primary x e =
    advance_uses c.programs plan.steps (granting s job growth primary) a.fixed (drop count (agenda plan c.programs)) (state_in (seen job s.store) own) count x e
