-- The plan that the records of a job say, read along their links from the JCT on. Where strict reading tells no fault it is the plan that they
-- denote; else it says nothing. (This profile)
use Rattle.std.specs.Prelude.{ℕ, suc, zero, ◌+◌, Bool, List, [], ◌∷◌, ◌++◌, drop, map, take, Option, Some, None, ◌==◌, if◌then◌else◌}
use Rattle.jname_core.specs.declared.key.Key.{Key}
use Rattle.jname_core.specs.declared.key.Key.TheVariants.{Named, Relative, Temporary, Unnamed}
use Rattle.jname_core.specs.declared.key.Sign.{Sign}
use Rattle.jname_core.specs.declared.key.Sign.TheVariants.{Plus, Minus}
use Rattle.jcl_plan.specs.Texts.{trimmed}
use Rattle.jcl_plan.specs.declared.plan.AfterAbend.{AfterAbend}
use Rattle.jcl_plan.specs.declared.plan.AfterAbend.TheVariants as after
use Rattle.jcl_plan.specs.declared.plan.ConditionalWord.{ConditionalWord}
use Rattle.jcl_plan.specs.declared.plan.ConditionalWord.TheVariants as conditional
use Rattle.jcl_plan.specs.declared.plan.DdKind.{DdKind}
use Rattle.jcl_plan.specs.declared.plan.DdKind.TheVariants.{Cards, Dummy, Set, Sysout}
use Rattle.jcl_plan.specs.declared.plan.DdPlan.{DdPlan}
use Rattle.jcl_plan.specs.declared.plan.Expiry.{Expiry}
use Rattle.jcl_plan.specs.declared.plan.Expiry.TheVariants as expiry
use Rattle.jcl_plan.specs.declared.plan.JobPlan.{JobPlan}
use Rattle.jcl_plan.specs.declared.plan.Operator.{Operator}
use Rattle.jcl_plan.specs.declared.plan.Operator.TheVariants as operator
use Rattle.jcl_plan.specs.declared.plan.SetPlan.{SetPlan}
use Rattle.jcl_plan.specs.declared.plan.Space.{Space}
use Rattle.jcl_plan.specs.declared.plan.Status.{Status}
use Rattle.jcl_plan.specs.declared.plan.Status.TheVariants as status
use Rattle.jcl_plan.specs.declared.plan.StepPlan.{StepPlan}
use Rattle.jcl_plan.specs.declared.plan.Test.{Test}
use Rattle.jcl_plan.specs.declared.plan.VolumePlan.{VolumePlan}
use Rattle.jcl_plan.specs.declared.plan.VolumePlan.TheVariants as volume
use Rattle.jcl_plan.specs.declared.plan.Word.{Word}
use Rattle.jcl_plan.specs.declared.plan.Word.TheVariants as word
use Rattle.cb_meaning.specs.declared.layout.Layout.{Layout}
use Rattle.cb_meaning.specs.Fields.{byte_at, field, number_at, number_of, part}
use Rattle.cb_meaning.specs.Spelled.{Records}
use Rattle.cb_meaning.specs.Walks.{has_space, is_blank, jct_tests, releases, sct_tests}

-- words by their numbers
abbrev pub operator_read : ℕ → Operator
operator_read n =
    if n == 1 then operator.Gt
    else (if n == 2 then operator.Ge
    else (if n == 3 then operator.Eq
    else (if n == 4 then operator.Lt
    else (if n == 5 then operator.Le
    else operator.Ne))))

abbrev pub after_abend_read : ℕ → AfterAbend
after_abend_read n = if n == 0 then after.Unsaid else (if n == 1 then after.Even else after.Only)

abbrev pub status_read : ℕ → Status
status_read n = if n == 1 then status.New else (if n == 2 then status.Old else (if n == 3 then status.Shr else status.Mod))

abbrev pub normal_read : ℕ → Option Word
normal_read n =
    if n == 0 then None
    else (if n == 1 then Some word.Delete
    else (if n == 2 then Some word.Keep
    else (if n == 3 then Some word.Pass
    else (if n == 4 then Some word.Catlg
    else Some word.Uncatlg))))

abbrev pub conditional_read : ℕ → Option ConditionalWord
conditional_read n =
    if n == 0 then None
    else (if n == 1 then Some conditional.Delete
    else (if n == 2 then Some conditional.Keep
    else (if n == 4 then Some conditional.Catlg
    else Some conditional.Uncatlg)))

-- a name, or none where its field is blank; a number, or none where it is 0
abbrev pub name_read : List ℕ → Option (List ℕ)
name_read text = if is_blank text then None else Some (trimmed text)

abbrev pub number_read : ℕ → Option ℕ
number_read n = if n == 0 then None else Some n

-- a test of the JOB statement, and one of a step
abbrev pub job_test_read : List ℕ → Test
job_test_read t = record { operator = operator_read (byte_at t 0); code = number_of (part t 1 2); step = None }

abbrev pub step_test_read : List ℕ → Test
step_test_read t = record { operator = operator_read (byte_at t 0); code = number_of (part t 1 2); step = number_read (number_of (part t 3 2)) }

-- a set, of its SIOT and its JFCB
abbrev pub sign_read : ℕ → Sign
sign_read n = if n == 0 then Plus else Minus

abbrev pub key_read : List ℕ → Key
key_read r =
    if byte_at r 8 == 3 then Relative (trimmed (part r 12 44)) (sign_read (byte_at r 9)) (number_at r (field 10 2))
    else (if byte_at r 8 == 4 then Temporary (trimmed (part r 12 44))
    else (if byte_at r 8 == 5 then Unnamed (number_at r (field 12 2)) (number_at r (field 14 2))
    else Named (trimmed (part r 12 44))))

abbrev pub volume_read : List ℕ → List ℕ → VolumePlan
volume_read s r =
    if byte_at s 28 == 1 then volume.Serial (trimmed (part r 56 6))
    else (if byte_at s 28 == 2 then volume.OfName (trimmed (part r 62 44))
    else (if byte_at s 28 == 3 then volume.OfDd (number_at s (field 30 2)) (number_at s (field 32 2))
    else volume.NotCoded))

abbrev pub space_read : List ℕ → Option Space
space_read s =
    if has_space s then Some (record { primary = number_at s (field 34 2); secondary = number_at s (field 36 2); release = releases s })
    else None

-- the day of a set, by its kind and its number
abbrev pub expiry_read : ℕ → ℕ → Expiry
expiry_read kind days = if kind == 1 then expiry.Day days else (if kind == 2 then expiry.DaysFromToday days else expiry.NotCoded)

abbrev pub set_read : Layout → List ℕ → List ℕ → SetPlan
set_read l s r = record {
  key = key_read r;
  status = status_read (byte_at s 13);
  normal = normal_read (byte_at s 14);
  conditional = conditional_read (byte_at s 15);
  volume = volume_read s r;
  units = number_read (number_at s (field 38 2));
  space = space_read s;
  expiry = expiry_read (number_at r l.expiry_kind) (number_at r l.expiry_days);
}

-- the cards of one record, and of a chain of so many records at most
abbrev pub cards_of_record : List ℕ → List (List ℕ)
cards_of_record r = if byte_at r 10 == 2 then part r 16 80 ∷ part r 96 80 ∷ [] else part r 16 80 ∷ []

unfoldable pub cards_read : Layout → Records → ℕ → ℕ → List (List ℕ)
cards_read l q zero n = []
cards_read l q (suc fuel) n = if n == 0 then [] else cards_of_record (q.at n) ++ cards_read l q fuel (number_at (q.at n) l.next_cards)

abbrev pub kind_read : Layout → Records → List ℕ → DdKind
kind_read l q s =
    if byte_at s 12 == 1 then Set (set_read l s (q.at (number_at s l.below)))
    else (if byte_at s 12 == 3 then Sysout (byte_at s 25)
    else (if byte_at s 12 == 4 then Cards (cards_read l q (l.most_records + 1) (number_at s l.below))
    else Dummy))

abbrev pub dd_read : Layout → Records → List ℕ → DdPlan
dd_read l q s = record { name = name_read (part s 16 8); kind = kind_read l q s }

unfoldable pub dds_read : Layout → Records → ℕ → ℕ → List DdPlan
dds_read l q zero n = []
dds_read l q (suc fuel) n = if n == 0 then [] else dd_read l q (q.at n) ∷ dds_read l q fuel (number_at (q.at n) l.next_dd)

abbrev pub step_read : Layout → Records → List ℕ → StepPlan
step_read l q r = record {
  name = name_read (part r 16 8);
  procedure_step = name_read (part r 24 8);
  program = trimmed (part r 32 8);
  after_abend = after_abend_read (byte_at r 14);
  tests = record { items = map step_test_read (take (byte_at r 15) (sct_tests r)) };
  dds = dds_read l q (l.most_records + 1) (number_at r l.first_dd);
}

unfoldable pub steps_read : Layout → Records → ℕ → ℕ → List StepPlan
steps_read l q zero n = []
steps_read l q (suc fuel) n = if n == 0 then [] else step_read l q (q.at n) ∷ steps_read l q fuel (number_at (q.at n) l.next_step)

abbrev pub plan_read : Layout → Records → ℕ → JobPlan
plan_read l q n = record {
  name = trimmed (part (q.at n) 16 8);
  class = byte_at (q.at n) 9;
  priority = byte_at (q.at n) 10;
  message_class = byte_at (q.at n) 11;
  tests = record { items = map job_test_read (take (byte_at (q.at n) 24) (jct_tests (q.at n))) };
  steps = steps_read l q (l.most_records + 1) (number_at (q.at n) l.first_step);
}
