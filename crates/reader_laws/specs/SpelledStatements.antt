-- How the operands of JOB, EXEC and DD statements are spelled, and the cards that they are. (GC28-6704, "JOB statement", "EXEC statement",
-- "DD statement")
use Rattle.std.specs.Prelude.{◌≡◌, ◌≤◌, ℕ, Bool, true, false, List, [], ◌∷◌, length, codes, Option, Some, None}
use Rattle.std.specs.List.{list_all}
use Rattle.std.specs.Str.{bytes_eq}
use Rattle.jname_core.specs.Generations.{has_generation_form}
use Rattle.jcl_plan.specs.declared.plan.ConditionalWord.{ConditionalWord}
use Rattle.jcl_plan.specs.declared.plan.ConditionalWord.TheVariants as conditional
use Rattle.jcl_plan.specs.declared.plan.Status.{Status}
use Rattle.jcl_plan.specs.declared.plan.Status.TheVariants as status
use Rattle.jcl_plan.specs.declared.plan.Word.{Word}
use Rattle.jcl_plan.specs.declared.plan.Word.TheVariants as word
use Rattle.value_core.specs.declared.set.Disposition.{Disposition}
use Rattle.jcl_cards.specs.declared.coded.Coded.TheVariants.{NotGiven}
use Rattle.jcl_cards.specs.declared.exec.ExecCard.{ExecCard}
use Rattle.jcl_cards.specs.declared.exec.Runs.{Runs}
use Rattle.jcl_cards.specs.declared.job.JobCard.{JobCard}
use Rattle.jcl_dds.specs.declared.dd.DdCard.{DdCard}
use Rattle.reader_laws.specs.Spelled.{is_among, is_component, is_name, joined, number_with_zeros}
use Rattle.reader_laws.specs.SpelledOperands.{Keyed, Value, Values, is_positional, of_characters, operand_text}
use Rattle.reader_laws.specs.SpelledSessions.{class_characters}

abbrev pub keyed : List ℕ → List ℕ → Keyed
keyed key text = record { key = key; value = of_characters text }

-- a JOB statement with its two positional operands, a class for the job and for its listing, and zeros before its priority
pub record SpelledJob : Type 0 where
  pub name : List ℕ
  pub accounting : Value
  pub programmer : Value
  pub class : ℕ
  pub zeros : ℕ
  pub priority : ℕ
  pub message_class : ℕ

abbrev pub job_operand : SpelledJob → List ℕ
job_operand j = operand_text (j.accounting ∷ j.programmer ∷ [])
    (keyed (codes "CLASS") (j.class ∷ []) ∷ keyed (codes "PRTY") (number_with_zeros j.zeros j.priority)
    ∷ keyed (codes "MSGCLASS") (j.message_class ∷ []) ∷ [])

-- its card: no step of it is tested
abbrev pub job_of : SpelledJob → JobCard
job_of j = record { name = j.name; class = j.class; priority = j.priority; message_class = j.message_class; tests = record { items = [] } }

pub record IsJob (j : SpelledJob) : Type 0 where
  pub accounting : is_positional j.accounting ≡ true
  pub programmer : is_positional j.programmer ≡ true
  pub name : is_name j.name ≡ true
  pub class : is_among (codes "ABCDEFGHIJKLMNO") j.class ≡ true
  pub priority : j.priority ≤ 13
  pub message_class : is_among class_characters j.message_class ≡ true
  pub fits : length (job_operand j) ≤ 1024

-- a name, or none
abbrev pub name_text : Option (List ℕ) → List ℕ
name_text None = []
name_text (Some name) = name

abbrev pub is_name_or_none : Option (List ℕ) → Bool
is_name_or_none None = true
is_name_or_none (Some name) = is_name name

abbrev pub program_operand : List ℕ → List ℕ
program_operand program = operand_text [] (keyed (codes "PGM") program ∷ [])

abbrev pub call_operand : List ℕ → List ℕ
call_operand procedure = operand_text (of_characters procedure ∷ []) []

-- a step without a condition
abbrev pub step_of : Option (List ℕ) → Runs → ExecCard
step_of name runs = record { name = name; runs = runs; condition = None; step_conditions = []; named_steps = [] }

-- a DD of which nothing but its name is given
abbrev pub empty_dd : Option (List ℕ) → DdCard
empty_dd name = record {
  qualifier = None;
  name = name;
  word = None;
  set_name = NotGiven;
  disposition = NotGiven;
  unit = NotGiven;
  volume = NotGiven;
  space = NotGiven;
  sysout = NotGiven;
  dd_name = NotGiven;
  label = NotGiven;
  control_blocks = NotGiven;
  character_set = NotGiven;
  forms_control = NotGiven;
  output_limit = NotGiven;
}

abbrev pub sysout_operand : ℕ → List ℕ
sysout_operand class = operand_text [] (keyed (codes "SYSOUT") (class ∷ []) ∷ [])

-- the words of DISP: nothing stands for one that is left out
abbrev pub status_text : Status → List ℕ
status_text status.New = codes "NEW"
status_text status.Old = codes "OLD"
status_text status.Shr = codes "SHR"
status_text status.Mod = codes "MOD"

abbrev pub word_text : Option Word → List ℕ
word_text None = []
word_text (Some word.Delete) = codes "DELETE"
word_text (Some word.Keep) = codes "KEEP"
word_text (Some word.Pass) = codes "PASS"
word_text (Some word.Catlg) = codes "CATLG"
word_text (Some word.Uncatlg) = codes "UNCATLG"

abbrev pub conditional_text : Option ConditionalWord → List ℕ
conditional_text None = []
conditional_text (Some conditional.Delete) = codes "DELETE"
conditional_text (Some conditional.Keep) = codes "KEEP"
conditional_text (Some conditional.Catlg) = codes "CATLG"
conditional_text (Some conditional.Uncatlg) = codes "UNCATLG"

-- (status,normal,conditional)
abbrev pub three_words : Disposition → Value
three_words d =
    Value.Parentheses (Values.Before (of_characters (status_text d.status)) (Values.Before (of_characters (word_text d.normal)) (Values.Last
    (of_characters (conditional_text d.conditional))))) Value.End

-- a status by itself
abbrev pub status_alone : Status → Value
status_alone s = of_characters (status_text s)

abbrev pub only_status : Status → Disposition
only_status s = record { status = s; normal = None; conditional = None }

-- DSN and DISP
abbrev pub set_operand : List ℕ → Value → List ℕ
set_operand set words = operand_text [] (keyed (codes "DSN") set ∷ record { key = codes "DISP"; value = words } ∷ [])

-- a data set name of such components, which is no generation's name and is not NULLFILE
pub record IsSetName (part : List ℕ) (parts : List (List ℕ)) : Type 0 where
  pub components : list_all is_component (part ∷ parts) ≡ true
  pub fits : length (joined (part ∷ parts)) ≤ 44
  pub no_generation : has_generation_form (joined (part ∷ parts)) ≡ false
  pub no_null : bytes_eq (joined (part ∷ parts)) (codes "NULLFILE") ≡ false
