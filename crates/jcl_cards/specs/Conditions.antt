-- The keywords of an EXEC, each read once: what COND says in those before a place, and their fault.
use Rattle.std.specs.Prelude.{◌≡◌, ℕ, Bool, List, [], ◌∷◌, ◌++◌, codes, Option, Some, None, if◌then◌else◌}
use Rattle.std.specs.List.{flat_map}
use Rattle.std.specs.Str.{bytes_eq}
use Rattle.jcl_plan.specs.declared.fault.Cause.{Cause}
use Rattle.list_values.specs.declared.condition.Condition.{Condition}
use Rattle.operand_core.specs.Faults.{told}
use Rattle.operand_core.specs.Operands.{Keyword}
use Rattle.operand_core.specs.Qualified.{is_qualified}
use Rattle.operand_core.specs.Reading.{operand_with}
use Rattle.jcl_cards.specs.declared.exec_conditions.Conditions.{Conditions}
use Rattle.jcl_cards.specs.ExecCards.{OfCondition, calls, condition_in, condition_of, faults_of, is_step_condition, step_condition, step_named}
use Rattle.jcl_cards.specs.Execs.{faults_on, step_conditions_of}

-- what COND says in these
abbrev pub conditions_in : List Keyword → Conditions
conditions_in keywords = record { own = condition_in keywords; of_steps = step_conditions_of keywords }

-- of COND without a step the first counts
abbrev pub or_first : Option Condition → Condition → Option Condition
or_first None condition = Some condition
or_first (Some first) condition = Some first

abbrev pub with_condition : List ℕ → Condition → Conditions → Conditions
with_condition key condition old =
    if is_qualified key then record old { of_steps = old.of_steps ++ record { step = step_named key; condition = condition } ∷ [] }
    else record old { own = or_first old.own condition }

-- with one keyword more that has no fault
abbrev pub with_keyword : Keyword → Conditions → Conditions
with_keyword k old = record {
  own = if bytes_eq k.key (codes "COND") then or_first old.own (condition_of k.value).value else old.own;
  of_steps = if is_step_condition k then old.of_steps ++ step_condition k ∷ [] else old.of_steps;
}

pub record AddsRead (k : Keyword) (old new : Conditions) (fault : Option Cause) : Type 0 where
  pub fault_is : fault ≡ told (faults_of OfCondition k)
  pub added : fault ≡ None → new ≡ with_condition k.key (condition_of k.value).value old

pub record AddsKeyword (called : Bool) (k : Keyword) (old new : Conditions) (fault : Option Cause) : Type 0 where
  pub fault_is : fault ≡ told (faults_on called k)
  pub added : fault ≡ None → new ≡ with_keyword k old

-- all of them are read, and tell this fault
pub record AreAllRead (called : Bool) (keywords : List Keyword) (conditions : Conditions) (fault : Option Cause) : Type 0 where
  pub fault_is : fault ≡ told (flat_map (faults_on called) keywords)
  pub said : fault ≡ None → conditions ≡ conditions_in keywords

abbrev pub ReadsKeywords : Bool → List Keyword → Conditions × Option Cause → Type 0
ReadsKeywords called keywords p = AreAllRead called keywords p.0 p.1

-- a fault is that of the keywords beside these positional operands
abbrev pub IsOfKeywords : List (Option (List ℕ)) → List Keyword → Option Cause → Type 0
IsOfKeywords positional keywords fault = fault ≡ told (flat_map (faults_on (calls (operand_with positional keywords))) keywords)
