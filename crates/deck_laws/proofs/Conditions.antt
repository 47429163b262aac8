-- Conditions that override those of a procedure's steps.
use Rattle.std.proofs.Common.{◌≡◌, ◌≤◌, suc, Bool, true, false, cond, List, [], ◌∷◌, length, Option, Some, None, Result, Ok, Err, refl, sym, ap, subst}
use Rattle.std.specs.Prelude.{All}
use Rattle.std.proofs.lemmas.Bool.{cond_both}
use Rattle.std.proofs.lemmas.List.{length-map}
use Rattle.std.proofs.lemmas.List.Elements.{All-cons, All-head, All-map, All-tail, All-weaker}
use Rattle.jcl_plan.specs.declared.fault.Cause.{Cause}
use Rattle.jcl_plan.specs.declared.fault.Cause.TheVariants.{P}
use Rattle.jcl_plan.specs.declared.fault.StatementFault.TheVariants.{NoSuchProcedureStep}
use Rattle.list_values.specs.declared.condition.Condition.{Condition}
use Rattle.jcl_cards.specs.declared.exec.ExecCard.{ExecCard}
use Rattle.jcl_cards.specs.declared.exec.StepCondition.{StepCondition}
use Rattle.jcl_procs.specs.declared.step.FlatStep.{FlatStep}
use Rattle.jcl_procs.specs.Overrides.{conditions_overridden, is_step, names_steps, with_condition, with_step_condition, with_step_conditions, with_this}
use Rattle.statement_laws.specs.Ranges.{HasSoundCodes, IsSoundCondition, IsSoundExec, IsSoundStepCondition}
use Rattle.deck_laws.specs.Sound.{IsSoundStep}
use Rattle.deck_laws.proofs.Calls.{AreBrought}

with_codes : (c : Condition) (step : FlatStep) → HasSoundCodes c → IsSoundStep step → IsSoundStep (with_this c step)
with_codes c step codes sound = record {
  name = sound.name;
  procedure_step = sound.procedure_step;
  program = sound.program;
  codes = codes;
  begins_named = sound.begins_named;
  dds = sound.dds;
}

-- of every step
each_is : (condition : Option Condition) (steps : List FlatStep) → IsSoundCondition condition → AreBrought steps → AreBrought (with_condition condition steps)
each_is None steps codes brought = brought
each_is (Some c) steps codes brought = (
  subst (λ n. 1 ≤ n) (sym (length-map steps (with_this c))) brought.0,
  All-map IsSoundStep (with_this c) steps
      (All-weaker IsSoundStep (λ step. IsSoundStep (with_this c step)) (λ step. with_codes c step codes) steps brought.1),
)

-- and of one by its name
same_number : (c : StepCondition) (steps : List FlatStep) → length (with_step_condition steps c) ≡ length steps
same_number c [] = refl
same_number c (step ∷ steps) =
    cond_both (is_step c.step step) (record step { condition = c.condition } ∷ steps) (step ∷ with_step_condition steps c)
    (λ left. length left ≡ length (step ∷ steps)) (λ is. refl) (λ is. ap (λ n. suc n) (same_number c steps))

one_is : (c : StepCondition) (steps : List FlatStep) → IsSoundStepCondition c → All IsSoundStep steps → All IsSoundStep (with_step_condition steps c)
one_is c [] good sound = sound
one_is c (step ∷ steps) good sound =
    let first = All-head IsSoundStep step steps sound in
    let rest = All-tail IsSoundStep step steps sound in
    cond_both (is_step c.step step) (record step { condition = c.condition } ∷ steps) (step ∷ with_step_condition steps c) (All IsSoundStep)
    (λ is. All-cons IsSoundStep (with_this c.condition step) steps (with_codes c.condition step good.codes first) rest)
    (λ is. All-cons IsSoundStep step (with_step_condition steps c) first (one_is c steps good rest))

ones_are : (conditions : List StepCondition) (steps : List FlatStep) → All IsSoundStepCondition conditions → AreBrought steps →
    AreBrought (with_step_conditions steps conditions)
ones_are [] steps good brought = brought
ones_are (c ∷ conditions) steps good brought =
    ones_are conditions (with_step_condition steps c) (All-tail IsSoundStepCondition c conditions good)
    (subst (λ n. 1 ≤ n) (sym (same_number c steps)) brought.0, one_is c steps (All-head IsSoundStepCondition c conditions good) brought.1)

given : (named : Bool) (changed all : List FlatStep) → AreBrought changed →
    (let r : Result (List FlatStep) Cause = cond named (Ok changed) (Err (P NoSuchProcedureStep)) in r) ≡ Ok all → AreBrought all
given true changed all brought is = subst AreBrought (let same : changed ≡ all = cc in same) brought
given false changed all brought is = absurd (cc)

pub conditions_are : (steps : List FlatStep) (exec : ExecCard) (changed : List FlatStep) → IsSoundExec exec → AreBrought steps →
    conditions_overridden steps exec ≡ Ok changed → AreBrought changed
conditions_are steps exec changed sound brought is =
    given (names_steps steps exec.named_steps) (with_step_conditions (with_condition exec.condition steps) exec.step_conditions) changed
    (ones_are exec.step_conditions (with_condition exec.condition steps) sound.step_conditions (each_is exec.condition steps sound.condition brought)) is
