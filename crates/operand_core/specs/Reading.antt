-- An operand as it is read.
use Rattle.std.specs.Prelude.{◌≡◌, ℕ, Bool, true, false, List, [], ◌∷◌, ◌++◌, map, Option, Some, None}
use Rattle.std.specs.List.{flat_map, list_any}
use Rattle.jcl_plan.specs.declared.fault.Cause.{Cause}
use Rattle.operand_core.specs.declared.operand.Collected.{Collected}
use Rattle.operand_core.specs.declared.operand.Operand as code
use Rattle.operand_core.specs.Faults.{earlier, told}
use Rattle.operand_core.specs.Operands.{Keyword, Operand, behind_positional, is_positional, keyword_of, keywords_of, part_faults, positional_parts, read_of}

-- an operand, and the one of its faults that is told
pub record IsOperand (read : code.Operand) (operand : Operand) : Type 0 where
  pub positional : read.positional.items ≡ operand.positional
  pub keywords : read.keywords.items ≡ operand.keywords
  pub fault : read.fault ≡ told operand.faults

-- the parts of an operand that are collected
pub record Parts : Type 0 where
  pub positional : List (Option (List ℕ))
  pub keywords : List Keyword
  pub crowded : Bool
  pub fault : Option Cause

abbrev pub parts_in : Collected → Parts
parts_in c = record { positional = c.positional.items; keywords = c.keywords.items; crowded = c.crowded; fault = c.fault }

abbrev pub no_parts : Parts
no_parts = record { positional = []; keywords = []; crowded = false; fault = None }

-- all that an operand has
abbrev pub all_parts : List (List ℕ) → Parts
all_parts parts = record {
  positional = map (λ part. read_of part part) (positional_parts parts);
  keywords = keywords_of parts;
  crowded = list_any is_positional (behind_positional parts);
  fault = told (flat_map part_faults parts);
}

-- one without a keyword stands behind the others that have none, or behind a keyword
abbrev pub put_positional : List ℕ → List Keyword → Parts → Parts
put_positional part [] s = record s { positional = s.positional ++ read_of part part ∷ [] }
put_positional part (k ∷ keywords) s = record s { crowded = true }

abbrev pub put_behind : List ℕ → Option (List ℕ × List ℕ) → Parts → Parts
put_behind part (Some found) s = record s { keywords = s.keywords ++ record { key = found.0; value = read_of part found.1 } ∷ [] }
put_behind part None s = put_positional part s.keywords s

abbrev pub with_fault : List ℕ → Parts → Parts
with_fault part s = record s { fault = earlier s.fault (told (part_faults part)) }

abbrev pub with_part : List ℕ → Parts → Parts
with_part part s = with_fault part (put_behind part (keyword_of part) s)

-- the fault is the one that is told of these of an operand
abbrev pub Tells : (Operand → List Cause) → code.Operand → Option Cause → Type 0
Tells faults_of read fault = (operand : Operand) → IsOperand read operand → fault ≡ told (faults_of operand)

-- an operand by its parts alone
abbrev pub operand_with : List (Option (List ℕ)) → List Keyword → Operand
operand_with positional keywords = record { positional = positional; keywords = keywords; faults = [] }
