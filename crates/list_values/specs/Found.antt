-- What was found of COND in front of the places that are left. (GC28-6704, COND parameter)
use Rattle.std.specs.Prelude.{◌≡◌, ℕ, ◌+◌, ◌≤◌, Bool, false, true, ◌||◌, nat_lt, List, ◌∷◌, ◌++◌, length, map, None, count_by}
use Rattle.std.specs.List.{flat_map, list_any}
use Rattle.jcl_plan.specs.declared.fault.Cause.{Cause}
use Rattle.jcl_plan.specs.declared.plan.AfterAbend.{AfterAbend}
use Rattle.jcl_plan.specs.declared.plan.AfterAbend.TheVariants as after
use Rattle.operand_core.specs.Faults.{earlier, told}
use Rattle.value_core.specs.Reads.{Read}
use Rattle.list_values.specs.declared.condition.CodedTest.{CodedTest}
use Rattle.list_values.specs.declared.found.Found.{Found}
use Rattle.list_values.specs.declared.found.FoundTests.{FoundTests}
use Rattle.list_values.specs.declared.found.FoundWords.{FoundWords}
use Rattle.list_values.specs.Conditions.{after_abend_if, after_abend_of, is_neither, is_word, tests_in}

-- EVEN or ONLY, which of the two it is
pub record IsWordOf (steps : Bool) (text : List ℕ) (word : AfterAbend) : Type 0 where
  pub is : is_word steps text ≡ true
  pub said : (places : List (List ℕ)) → after_abend_of (text ∷ places) ≡ word

-- of two words the first that is said
abbrev pub first_said : AfterAbend → AfterAbend → AfterAbend
first_said after.Unsaid later = later
first_said after.Even later = after.Even
first_said after.Only later = after.Only

abbrev pub is_said : AfterAbend → Bool
is_said after.Unsaid = false
is_said after.Even = true
is_said after.Only = true

abbrev pub words_said : AfterAbend → ℕ
words_said after.Unsaid = 0
words_said after.Even = 1
words_said after.Only = 1

abbrev pub faults_of : List (Read CodedTest) → List Cause
faults_of tests = flat_map (λ r. r.faults) tests

abbrev pub values_of : List (Read CodedTest) → List CodedTest
values_of tests = map (λ r. r.value) tests

-- the tests that were found, with those that are left, are all tests; where one has a fault, or there is a ninth, those that are kept do not count
pub record HasTests (found : FoundTests) (left all : List (Read CodedTest)) : Type 0 where
  pub faults : earlier found.fault (told (faults_of left)) ≡ told (faults_of all)
  pub ninth : (found.has_ninth || nat_lt 8 (length found.tests.items + length left)) ≡ nat_lt 8 (length all)
  pub few : length found.tests.items ≤ 8
  pub tests : found.fault ≡ None → found.has_ninth ≡ false → found.tests.items ++ values_of left ≡ values_of all

-- the words that were found, with those that are left, are all words
pub record HasWords (steps : Bool) (found : FoundWords) (left all : List (List ℕ)) : Type 0 where
  pub first : first_said found.after_abend (after_abend_if steps left) ≡ after_abend_if steps all
  pub second : (found.has_second || nat_lt 1 (words_said found.after_abend + count_by (is_word steps) left)) ≡ nat_lt 1 (count_by (is_word steps) all)

-- what was found, with what is left, is what stands in all places
pub record Continues (steps : Bool) (found : Found) (left all : List (List ℕ)) : Type 0 where
  pub tests : HasTests found.tests (tests_in steps left) (tests_in steps all)
  pub words : HasWords steps found.words left all
  pub others : (found.has_other || list_any (is_neither steps) left) ≡ list_any (is_neither steps) all
