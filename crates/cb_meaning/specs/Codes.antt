-- The numbers by which records tell words. (This profile)
use Rattle.std.specs.Prelude.{ℕ, Bool, true, false, List, ◌∷◌, ◌++◌, Option, Some, None}
use Rattle.jcl_plan.specs.declared.plan.AfterAbend.{AfterAbend}
use Rattle.jcl_plan.specs.declared.plan.AfterAbend.TheVariants as after
use Rattle.jcl_plan.specs.declared.plan.ConditionalWord.{ConditionalWord}
use Rattle.jcl_plan.specs.declared.plan.ConditionalWord.TheVariants as conditional
use Rattle.jcl_plan.specs.declared.plan.Expiry.{Expiry}
use Rattle.jcl_plan.specs.declared.plan.Expiry.TheVariants as expiry
use Rattle.jcl_plan.specs.declared.plan.Operator.{Operator}
use Rattle.jcl_plan.specs.declared.plan.Operator.TheVariants as operator
use Rattle.jcl_plan.specs.declared.plan.Status.{Status}
use Rattle.jcl_plan.specs.declared.plan.Status.TheVariants as status
use Rattle.jcl_plan.specs.declared.plan.Test.{Test}
use Rattle.jcl_plan.specs.declared.plan.Word.{Word}
use Rattle.jcl_plan.specs.declared.plan.Word.TheVariants as word
use Rattle.cb_meaning.specs.Fields.{two_bytes}

abbrev pub operator_code : Operator → ℕ
operator_code operator.Gt = 1
operator_code operator.Ge = 2
operator_code operator.Eq = 3
operator_code operator.Lt = 4
operator_code operator.Le = 5
operator_code operator.Ne = 6

abbrev pub after_abend_code : AfterAbend → ℕ
after_abend_code after.Unsaid = 0
after_abend_code after.Even = 1
after_abend_code after.Only = 2

abbrev pub status_code : Status → ℕ
status_code status.New = 1
status_code status.Old = 2
status_code status.Shr = 3
status_code status.Mod = 4

abbrev pub normal_code : Option Word → ℕ
normal_code None = 0
normal_code (Some word.Delete) = 1
normal_code (Some word.Keep) = 2
normal_code (Some word.Pass) = 3
normal_code (Some word.Catlg) = 4
normal_code (Some word.Uncatlg) = 5

abbrev pub conditional_code : Option ConditionalWord → ℕ
conditional_code None = 0
conditional_code (Some conditional.Delete) = 1
conditional_code (Some conditional.Keep) = 2
conditional_code (Some conditional.Catlg) = 4
conditional_code (Some conditional.Uncatlg) = 5

-- what a set's label says of its expiry, and the day or the days
abbrev pub expiry_code : Expiry → ℕ
expiry_code expiry.NotCoded = 0
expiry_code (expiry.Day day) = 1
expiry_code (expiry.DaysFromToday days) = 2

abbrev pub expiry_number : Expiry → ℕ
expiry_number expiry.NotCoded = 0
expiry_number (expiry.Day day) = day
expiry_number (expiry.DaysFromToday days) = days

-- a test of the JOB statement, and one of a step, where 0 is all earlier steps
abbrev pub job_test_bytes : Test → List ℕ
job_test_bytes t = operator_code t.operator ∷ two_bytes t.code

abbrev pub or_zero : Option ℕ → ℕ
or_zero None = 0
or_zero (Some n) = n

abbrev pub step_test_bytes : Test → List ℕ
step_test_bytes t = operator_code t.operator ∷ (two_bytes t.code ++ two_bytes (or_zero t.step))

-- the marks of a DD: it continues a concatenation, RLSE, SPACE is coded
abbrev pub mark : Bool → ℕ → ℕ
mark true n = n
mark false n = 0
