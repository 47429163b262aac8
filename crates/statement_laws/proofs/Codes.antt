-- The codes of tests, whatever faults they have.
use Rattle.std.proofs.Common.{ℕ, ◌≤◌, Bool, true, false, ◌&&◌, not, cond, List, [], ◌∷◌, Some, None, arith}
use Rattle.std.specs.Prelude.{All}
use Rattle.std.specs.List.{cons_option}
use Rattle.std.proofs.lemmas.List.Elements.{All-cons, All-map, All-nil}
use Rattle.jcl_plan.specs.declared.fault.Cause.TheVariants.{P}
use Rattle.jcl_plan.specs.declared.fault.StatementFault.TheVariants.{BadValue}
use Rattle.jcl_plan.specs.declared.outcome.TheConstants.{GREATEST_CODE}
use Rattle.operand_core.specs.Operands.{places_of}
use Rattle.operand_core.specs.Subparameters.{inside, is_wrapped}
use Rattle.list_values.specs.declared.condition.CodedTest.{CodedTest}
use Rattle.list_values.specs.declared.condition.Condition.{Condition}
use Rattle.list_values.specs.Conditions.{after_abend_of, begins_list, condition, condition_in, condition_of_places, is_word, no_condition, test_of_items, tests_in}
use Rattle.value_core.specs.Reads.{Read, bad, good}
use Rattle.statement_laws.specs.Ranges.{HasSoundCodes}
use Rattle.statement_laws.proofs.NumbersWithin.{fits_within}

abbrev HasCode : CodedTest → Type 0
HasCode t = t.code ≤ GREATEST_CODE

code_fits : (steps : Bool) (items : List (List ℕ)) → HasCode (test_of_items steps items).value
code_fits true [] = omega arith
code_fits true (c ∷ []) = omega arith
code_fits true (c ∷ o ∷ []) = fits_within 0 4095 0 c (omega arith)
code_fits true (c ∷ o ∷ s ∷ []) = fits_within 0 4095 0 c (omega arith)
code_fits true (c ∷ o ∷ s ∷ t ∷ items) = omega arith
code_fits false [] = omega arith
code_fits false (c ∷ []) = omega arith
code_fits false (c ∷ o ∷ []) = fits_within 0 4095 0 c (omega arith)
code_fits false (c ∷ o ∷ s ∷ []) = omega arith
code_fits false (c ∷ o ∷ s ∷ t ∷ items) = omega arith

one_more : (is_test : Bool) (r : Read CodedTest) (rs : List (Read CodedTest)) → HasCode r.value → All (λ r. HasCode r.value) rs →
    All (λ r. HasCode r.value) (cons_option (cond is_test (Some r) None) rs)
one_more true r rs fits all = All-cons (λ (r : Read CodedTest). HasCode r.value) r rs fits all
one_more false r rs fits all = all

tests_fit : (steps : Bool) (places : List (List ℕ)) → All (λ r. HasCode r.value) (tests_in steps places)
tests_fit steps [] = All-nil (λ (r : Read CodedTest). HasCode r.value)
tests_fit steps (text ∷ places) =
    one_more (not (is_word steps text) && is_wrapped text) (test_of_items steps (places_of (inside text))) (tests_in steps places)
    (code_fits steps (places_of (inside text))) (tests_fit steps places)

places_fit : (steps : Bool) (places : List (List ℕ)) → HasSoundCodes (condition_of_places steps places).value
places_fit steps places = All-map HasCode (λ r. r.value) (tests_in steps places) (tests_fit steps places)

pub none_fit : HasSoundCodes no_condition
none_fit = All-nil HasCode

either_fits : (word wrapped : Bool) (r s : Read Condition) → HasSoundCodes r.value → HasSoundCodes s.value →
    HasSoundCodes (cond word r (cond wrapped s (bad no_condition (P BadValue)))).value
either_fits true wrapped r s is other = is
either_fits false true r s is other = other
either_fits false false r s is other = none_fit

-- COND
pub codes_fit : (steps : Bool) (text : List ℕ) → HasSoundCodes (condition steps text).value
codes_fit steps text =
    either_fits (is_word steps text) (is_wrapped text) (good (record { tests = record { items = [] }; after_abend = after_abend_of (text ∷ []) }))
    (condition_in steps text) none_fit
    (places_fit steps (cond (begins_list (places_of (inside text))) (places_of (inside text)) (text ∷ [])))
