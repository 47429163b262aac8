-- What the parts of the reading say.
use Rattle.std.specs.Prelude.{ℕ, Bool, List, ◌∷◌, Result, Ok, Err}
use Rattle.std.specs.List.{list_any}
use Rattle.std.specs.Str.{bytes_eq}
use Rattle.jcl_plan.specs.declared.fault.Cause.{Cause}
use Rattle.operand_core.specs.Faults.{lower}
use Rattle.operand_core.specs.declared.operand.Operand as code
use Rattle.operand_core.specs.Operands.{Keyword, Operand}
use Rattle.operand_core.specs.Reading.{IsOperand}
use Rattle.jcl_cards.specs.declared.rules.Spelling.{Spelling}
use Rattle.jcl_cards.specs.declared.rules.Spelling.TheVariants.{One, Two}
use Rattle.jcl_cards.specs.JobCards.{job_name_faults}
use Rattle.jcl_cards.specs.Keywords.{as_it_is, spelled}
use Rattle.value_core.specs.Reads.{IsRead, Read}

-- a key as it is, or that of the two spellings which is the keyword's name
abbrev pub spelled_by : Spelling → List ℕ → List ℕ
spelled_by One = as_it_is
spelled_by Two = spelled

abbrev pub has_spelled : Spelling → List ℕ → List Keyword → Bool
has_spelled spelling key keywords = list_any (λ keyword. bytes_eq (spelled_by spelling keyword.key) key) keywords

-- the first of two answers, with the faults of both
abbrev pub and_later : {A : Type 0} → Result A Cause → Result A Cause → Result A Cause
and_later first (Ok later) = first
and_later (Ok a) (Err fault) = Err fault
and_later (Err fault) (Err other) = Err (lower fault other)

-- the name of a job
abbrev pub job_name : List ℕ → Read (List ℕ)
job_name name = record { value = name; faults = job_name_faults name }

-- the answer is what this reads of an operand
abbrev pub ReadsOperand : {A : Type 0} → (Operand → Read A) → code.Operand → Result A Cause → Type 0
ReadsOperand reads read result = (operand : Operand) → IsOperand read operand → IsRead result (reads operand)

-- what this reads of keywords, by the first of them and what the later ones are
abbrev pub IsReadBefore : {A : Type 0} → (List Keyword → Read A) → Keyword → Result A Cause → Result A Cause → Type 0
IsReadBefore reads keyword later result = (behind : List Keyword) → IsRead later (reads behind) → IsRead result (reads (keyword ∷ behind))
