-- The JOB statement. (GC28-6704, "JOB statement": accounting information, programmer's name, CLASS, PRTY, MSGCLASS, COND)
use Rattle.std.specs.Prelude.{ℕ, Bool, false, not, ◌==◌, List, [], ◌∷◌, ◌++◌, length, codes, Result, Ok, Err, is_some, unwrap_or, if◌then◌else◌}
use Rattle.std.specs.List.{flat_map}
use Rattle.std.specs.Str.{bytes_eq}
use Rattle.jname_core.specs.Characters.{is_job_class}
use Rattle.jname_core.specs.Decimals.{number_within}
use Rattle.arrayvec.specs.ArrayVec.{ArrayVec}
use Rattle.jcl_plan.specs.declared.fault.Cause.{Cause}
use Rattle.jcl_plan.specs.declared.fault.Cause.TheVariants.{P}
use Rattle.jcl_plan.specs.declared.fault.StatementFault.TheVariants.{BadValue, MissingName}
use Rattle.operand_core.specs.Faults.{name_faults, when, written_name_faults}
use Rattle.operand_core.specs.Keywords.{is_among, unknown_faults}
use Rattle.operand_core.specs.Operands.{Keyword, Operand, operand_of}
use Rattle.operand_core.specs.Values.{is_output_class}
use Rattle.list_values.specs.declared.condition.CodedTest.{CodedTest}
use Rattle.list_values.specs.Conditions.{condition}
use Rattle.value_core.specs.Reads.{Read, mapped}
use Rattle.jcl_cards.specs.declared.job.JobCard.{JobCard}
use Rattle.jcl_cards.specs.Keywords.{as_it_is, twice_faults, unless_long, value_in}

abbrev pub first_or : ℕ → List ℕ → ℕ
first_or other [] = other
first_or other (c ∷ cs) = c

-- A to O
abbrev pub is_class : List ℕ → Bool
is_class (c ∷ []) = is_job_class c
is_class _ = false

abbrev pub class : List ℕ → Read ℕ
class text = record { value = first_or 65 text; faults = when (not (is_class text)) (P BadValue) }

-- 0 to 13 in decimal, zeros before it allowed
abbrev pub priority : List ℕ → Read ℕ
priority text = record { value = unwrap_or (number_within 0 13 text) 6; faults = when (not (is_some (number_within 0 13 text))) (P BadValue) }

-- a letter or a digit
abbrev pub message_class : List ℕ → Read ℕ
message_class text = record { value = first_or 65 text; faults = when (not (is_output_class text)) (P BadValue) }

-- none of its tests names a step
abbrev pub tests : List ℕ → Read (ArrayVec CodedTest)
tests text = mapped (λ c. c.tests) (condition false text)

abbrev pub no_tests : ArrayVec CodedTest
no_tests = record { items = [] }

abbrev pub is_key : List ℕ → List ℕ → Bool
is_key wanted key = bytes_eq key wanted

-- what COND codes
abbrev pub tests_in : List Keyword → Read (ArrayVec CodedTest)
tests_in keywords = value_in (is_key (codes "COND")) tests no_tests keywords

-- keywords that have an effect, that are read for their form alone, and that are left out
abbrev pub known_on_job : List ℕ → Bool
known_on_job key = is_among (codes "CLASS" ∷ codes "PRTY" ∷ codes "MSGCLASS" ∷ codes "COND" ∷ codes "MSGLEVEL" ∷ codes "NOTIFY" ∷ codes "REGION"
    ∷ codes "TIME" ∷ []) key

abbrev pub left_out_on_job : List ℕ → Bool
left_out_on_job key = is_among (codes "RD" ∷ codes "RESTART" ∷ codes "TYPRUN" ∷ codes "ROLL" ∷ []) key

abbrev pub unknown_on_job : Keyword → List Cause
unknown_on_job k = if known_on_job k.key then [] else unknown_faults left_out_on_job k.key

-- it has a name
abbrev pub job_name_faults : List ℕ → List Cause
job_name_faults name = if length name == 0 then P MissingName ∷ [] else name_faults name

-- class A, priority 6 and message class A where none is coded
abbrev pub job_with : List ℕ → Operand → Read JobCard
job_with name operand = record {
  value = record {
    name = name;
    class = (value_in (is_key (codes "CLASS")) class 65 operand.keywords).value;
    priority = (value_in (is_key (codes "PRTY")) priority 6 operand.keywords).value;
    message_class = (value_in (is_key (codes "MSGCLASS")) message_class 65 operand.keywords).value;
    tests = (value_in (is_key (codes "COND")) tests no_tests operand.keywords).value;
  };
  faults = job_name_faults name ++ operand.faults
      ++ (value_in (is_key (codes "CLASS")) class 65 operand.keywords).faults
      ++ (value_in (is_key (codes "PRTY")) priority 6 operand.keywords).faults
      ++ (value_in (is_key (codes "MSGCLASS")) message_class 65 operand.keywords).faults
      ++ (value_in (is_key (codes "COND")) tests no_tests operand.keywords).faults
      ++ flat_map unknown_on_job operand.keywords ++ twice_faults as_it_is operand.keywords;
}

-- a card by its tests and its other words, where no fault is told
abbrev pub card_with : ArrayVec CodedTest → Result (((List ℕ × ℕ) × ℕ) × ℕ) Cause → Result JobCard Cause
card_with tests (Ok words) = Ok (record { name = words.0.0.0; class = words.0.0.1; priority = words.0.1; message_class = words.1; tests = tests })
card_with tests (Err fault) = Err fault

-- two positional operands are read for their form
abbrev pub job_card : List ℕ → List ℕ → Read JobCard
job_card name operand = unless_long (written_name_faults name) operand (job_with name (operand_of 2 operand))
