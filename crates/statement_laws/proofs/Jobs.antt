-- A JOB of which no fault is told.
use Rattle.std.proofs.Common.{◌≡◌, ℕ, ◌≤◌, ◌==◌, Bool, true, false, not, cond, List, [], ◌∷◌, ◌++◌, length, codes, refl, arith}
use Rattle.std.specs.Prelude.{All}
use Rattle.std.specs.List.{flat_map}
use Rattle.std.proofs.lemmas.Bool.{not-false}
use Rattle.std.proofs.lemmas.List.Elements.{All-nil}
use Rattle.jname_core.specs.Characters.{is_job_class, is_letter_or_digit}
use Rattle.jname_core.specs.Grammar.{IsName8}
use Rattle.arrayvec.specs.ArrayVec.{ArrayVec}
use Rattle.jcl_plan.specs.declared.fault.Cause.{Cause}
use Rattle.jcl_plan.specs.declared.fault.Cause.TheVariants.{P}
use Rattle.jcl_plan.specs.declared.fault.StatementFault.TheVariants.{BadValue, MissingName}
use Rattle.jcl_plan.specs.declared.outcome.TheConstants.{GREATEST_CODE}
use Rattle.operand_core.specs.Faults.{name_faults, written_name_faults}
use Rattle.operand_core.specs.Operands.{Keyword, Operand, operand_of}
use Rattle.operand_core.specs.Values.{is_output_class}
use Rattle.operand_core.proofs.Faultless.{none_behind, none_in_front}
use Rattle.list_values.specs.declared.condition.CodedTest.{CodedTest}
use Rattle.jcl_cards.specs.JobCards.{class, first_or, is_class, is_key, job_name_faults, job_with, message_class, no_tests, priority, tests, unknown_on_job}
use Rattle.jcl_cards.specs.Keywords.{as_it_is, twice_faults, value_in}
use Rattle.statement_laws.specs.CardLaws.{JobCardsAreSound}
use Rattle.statement_laws.specs.Ranges.{IsSoundJob}
use Rattle.statement_laws.proofs.Codes.{codes_fit}
use Rattle.statement_laws.proofs.Faultless.{ReadIs, name_is, told_is, value_is, when_none}
use Rattle.statement_laws.proofs.NumbersWithin.{fits_within}

job_name_by : (empty : Bool) (name : List ℕ) → cond empty (P MissingName ∷ []) (name_faults name) ≡ [] → IsName8 name
job_name_by true name none = absurd (cc)
job_name_by false name none = name_is name none

class_by : (text : List ℕ) → is_class text ≡ true → is_job_class (first_or 65 text) ≡ true
class_by [] is = absurd (cc)
class_by (c ∷ []) is = is
class_by (c ∷ d ∷ cs) is = absurd (cc)

class_is : (text : List ℕ) → ReadIs (λ c. is_job_class c ≡ true) (class text)
class_is text none = class_by text (not-false (is_class text) (when_none (not (is_class text)) (P BadValue) none))

output_by : (text : List ℕ) → is_output_class text ≡ true → is_letter_or_digit (first_or 65 text) ≡ true
output_by [] is = absurd (cc)
output_by (c ∷ []) is = is
output_by (c ∷ d ∷ cs) is = absurd (cc)

message_class_is : (text : List ℕ) → ReadIs (λ c. is_letter_or_digit c ≡ true) (message_class text)
message_class_is text none = output_by text (not-false (is_output_class text) (when_none (not (is_output_class text)) (P BadValue) none))

priority_is : (text : List ℕ) → ReadIs (λ n. n ≤ 13) (priority text)
priority_is text none = fits_within 0 13 6 text (omega arith)

abbrev HasCodes : ArrayVec CodedTest → Type 0
HasCodes ts = All (λ t. t.code ≤ GREATEST_CODE) ts.items

tests_are : (text : List ℕ) → ReadIs HasCodes (tests text)
tests_are text none = codes_fit false text

-- the name and the keywords that have an effect are without a fault
record AllRead (named : List ℕ) (keywords : List Keyword) : Type 0 where
  name : job_name_faults named ≡ []
  class : (value_in (is_key (codes "CLASS")) class 65 keywords).faults ≡ []
  priority : (value_in (is_key (codes "PRTY")) priority 6 keywords).faults ≡ []
  message_class : (value_in (is_key (codes "MSGCLASS")) message_class 65 keywords).faults ≡ []
  tests : (value_in (is_key (codes "COND")) tests no_tests keywords).faults ≡ []

all_read : (name : List ℕ) (operand : Operand) → (job_with name operand).faults ≡ [] → AllRead name operand.keywords
all_read name operand none =
    let names : List Cause = job_name_faults name in
    let a = (value_in (is_key (codes "CLASS")) class 65 operand.keywords).faults in
    let b = (value_in (is_key (codes "PRTY")) priority 6 operand.keywords).faults in
    let c = (value_in (is_key (codes "MSGCLASS")) message_class 65 operand.keywords).faults in
    let d = (value_in (is_key (codes "COND")) tests no_tests operand.keywords).faults in
    let known = flat_map unknown_on_job operand.keywords in
    let seven = none_in_front (names ++ operand.faults ++ a ++ b ++ c ++ d ++ known) (twice_faults as_it_is operand.keywords) none in
    let six = none_in_front (names ++ operand.faults ++ a ++ b ++ c ++ d) known seven in
    let five = none_in_front (names ++ operand.faults ++ a ++ b ++ c) d six in
    let four = none_in_front (names ++ operand.faults ++ a ++ b) c five in
    let three = none_in_front (names ++ operand.faults ++ a) b four in
    let two = none_in_front (names ++ operand.faults) a three in
    record {
      name = none_in_front names operand.faults two;
      class = none_behind (names ++ operand.faults) a three;
      priority = none_behind (names ++ operand.faults ++ a) b four;
      message_class = none_behind (names ++ operand.faults ++ a ++ b) c five;
      tests = none_behind (names ++ operand.faults ++ a ++ b ++ c) d six;
    }

job_is : (name : List ℕ) (operand : Operand) → ReadIs IsSoundJob (job_with name operand)
job_is name operand none =
    let read = all_read name operand none in
    record {
      name = job_name_by (length name == 0) name read.name;
      class = value_is (λ c. is_job_class c ≡ true) (is_key (codes "CLASS")) class 65 refl class_is operand.keywords read.class;
      priority = value_is (λ n. n ≤ 13) (is_key (codes "PRTY")) priority 6 (omega arith) priority_is operand.keywords read.priority;
      message_class = value_is (λ c. is_letter_or_digit c ≡ true) (is_key (codes "MSGCLASS")) message_class 65 refl message_class_is operand.keywords
          read.message_class;
      codes = value_is HasCodes (is_key (codes "COND")) tests no_tests (All-nil (λ (t : CodedTest). t.code ≤ GREATEST_CODE)) tests_are operand.keywords
          read.tests;
    }

pub job_cards_are_sound : JobCardsAreSound
job_cards_are_sound name operand =
    told_is IsSoundJob (written_name_faults name) operand (job_with name (operand_of 2 operand)) (job_is name (operand_of 2 operand))
