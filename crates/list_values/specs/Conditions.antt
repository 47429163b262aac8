-- COND: tests `(code,operator)`, of a step's statement also `(code,operator,step)` or with `step.procstep`, and EVEN or ONLY. (GC28-6704, COND
-- parameter)
use Rattle.std.specs.Prelude.{ℕ, Bool, true, false, not, ◌&&◌, ◌||◌, nat_lt, List, [], ◌∷◌, ◌++◌, length, map, Option, Some, None, is_none, count_by, codes, if◌then◌else◌, unwrap_or, nat_eq}
use Rattle.std.specs.List.{filter_map, flat_map, starts_with}
use Rattle.std.specs.Str.{bytes_eq}
use Rattle.jname_core.specs.Decimals.{number_within}
use Rattle.jcl_plan.specs.declared.fault.Cause.{Cause}
use Rattle.jcl_plan.specs.declared.fault.Cause.TheVariants.{P}
use Rattle.jcl_plan.specs.declared.fault.StatementFault.TheVariants.{BadValue, ExcludeOneAnother, TooManyTests}
use Rattle.jcl_plan.specs.declared.plan.AfterAbend.{AfterAbend}
use Rattle.jcl_plan.specs.declared.plan.AfterAbend.TheVariants as after
use Rattle.jcl_plan.specs.declared.plan.Operator.{Operator}
use Rattle.jcl_plan.specs.declared.plan.Operator.TheVariants as operator
use Rattle.operand_core.specs.Faults.{when}
use Rattle.operand_core.specs.Operands.{places_of}
use Rattle.operand_core.specs.Subparameters.{inside, is_wrapped}
use Rattle.list_values.specs.declared.condition.CodedTest.{CodedTest}
use Rattle.list_values.specs.declared.condition.Condition.{Condition}
use Rattle.value_core.specs.declared.reference.StepReference.{StepReference}
use Rattle.value_core.specs.Reads.{Read, bad, good}
use Rattle.value_core.specs.References.{step_reference}

abbrev pub operator_of : List ℕ → Option Operator
operator_of text =
    if bytes_eq text (codes "GT") then Some operator.Gt
    else (if bytes_eq text (codes "GE") then Some operator.Ge
    else (if bytes_eq text (codes "EQ") then Some operator.Eq
    else (if bytes_eq text (codes "LT") then Some operator.Lt
    else (if bytes_eq text (codes "LE") then Some operator.Le
    else (if bytes_eq text (codes "NE") then Some operator.Ne
    else None)))))

abbrev pub code_of : List ℕ → Option ℕ
code_of text = number_within 0 4095 text

abbrev pub test_with : List ℕ → List ℕ → Option StepReference → CodedTest
test_with code text step = record { code = unwrap_or (code_of code) 0; operator = unwrap_or (operator_of text) operator.Gt; step = step }

abbrev pub pair_faults : List ℕ → List ℕ → List Cause
pair_faults code text = when (is_none (code_of code) || is_none (operator_of text)) (P BadValue)

abbrev pub pair : List ℕ → List ℕ → Read (ℕ × Operator)
pair code text = record { value = (unwrap_or (code_of code) 0, unwrap_or (operator_of text) operator.Gt); faults = pair_faults code text }

abbrev pub no_test : CodedTest
no_test = record { code = 0; operator = operator.Gt; step = None }

-- the items of a test; of too few or too many none is read
abbrev pub test_of_items : Bool → List (List ℕ) → Read CodedTest
test_of_items true (c ∷ o ∷ s ∷ []) = record {
  value = test_with c o (Some (step_reference s).value);
  faults = pair_faults c o ++ (step_reference s).faults;
}
test_of_items steps (c ∷ o ∷ []) = record { value = test_with c o None; faults = pair_faults c o }
test_of_items steps items = bad no_test (P BadValue)

abbrev pub is_even_or_only : List ℕ → Bool
is_even_or_only text = bytes_eq text (codes "EVEN") || bytes_eq text (codes "ONLY")

-- each place is a test in parentheses, or of a step's statement EVEN or ONLY
abbrev pub is_word : Bool → List ℕ → Bool
is_word steps text = steps && is_even_or_only text

abbrev pub test_in : Bool → List ℕ → Option (Read CodedTest)
test_in steps text = if not (is_word steps text) && is_wrapped text then Some (test_of_items steps (places_of (inside text))) else None

abbrev pub is_neither : Bool → List ℕ → Bool
is_neither steps text = not (is_word steps text) && not (is_wrapped text)

abbrev pub tests_in : Bool → List (List ℕ) → List (Read CodedTest)
tests_in steps places = filter_map (test_in steps) places

abbrev pub after_abend_of : List (List ℕ) → AfterAbend
after_abend_of [] = after.Unsaid
after_abend_of (text ∷ places) =
    if bytes_eq text (codes "EVEN") then after.Even else (if bytes_eq text (codes "ONLY") then after.Only else after_abend_of places)

abbrev pub after_abend_if : Bool → List (List ℕ) → AfterAbend
after_abend_if true places = after_abend_of places
after_abend_if false places = after.Unsaid

abbrev pub condition_of_places : Bool → List (List ℕ) → Read Condition
condition_of_places steps places = record {
  value = record { tests = record { items = map (λ r. r.value) (tests_in steps places) }; after_abend = after_abend_if steps places };
  faults = flat_map (λ r. r.faults) (tests_in steps places)
      ++ (flat_map (λ text. when (is_neither steps text) (P BadValue)) places
      ++ (when (nat_lt 8 (length (tests_in steps places))) (P TooManyTests) ++ when (nat_lt 1 (count_by (is_word steps) places)) (P ExcludeOneAnother)));
}

abbrev pub no_condition : Condition
no_condition = record { tests = record { items = [] }; after_abend = after.Unsaid }

-- in parentheses whose first item is no test and no word stands one test
abbrev pub begins_list : List (List ℕ) → Bool
begins_list [] = false
begins_list (text ∷ places) = starts_with nat_eq text (codes "(") || is_even_or_only text

abbrev pub condition_in : Bool → List ℕ → Read Condition
condition_in steps text =
    condition_of_places steps (if begins_list (places_of (inside text)) then places_of (inside text) else text ∷ [])

abbrev pub condition : Bool → List ℕ → Read Condition
condition steps text =
    if is_word steps text then good (record { tests = record { items = [] }; after_abend = after_abend_of (text ∷ []) })
    else (if is_wrapped text then condition_in steps text else bad no_condition (P BadValue))
