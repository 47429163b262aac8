-- The keywords of a statement.
use Rattle.std.specs.Prelude.{ℕ, Bool, false, not, ◌&&◌, ◌||◌, nat_lt, List, [], ◌∷◌, length, Option, Some, None, if◌then◌else◌}
use Rattle.std.specs.List.{list_any}
use Rattle.std.specs.Str.{bytes_eq}
use Rattle.jcl_plan.specs.declared.fault.Cause.{Cause}
use Rattle.jcl_plan.specs.declared.fault.Cause.TheVariants.{P}
use Rattle.jcl_plan.specs.declared.fault.StatementFault.TheVariants.{BadValue, KeywordTwice, LeftOut, UnknownKeyword}
use Rattle.operand_core.specs.Faults.{when}
use Rattle.operand_core.specs.Operands.{Keyword}

abbrev pub is_among : List (List ℕ) → List ℕ → Bool
is_among words text = list_any (λ word. bytes_eq text word) words

abbrev pub has_key : List ℕ → List Keyword → Bool
has_key key keywords = list_any (λ keyword. bytes_eq keyword.key key) keywords

-- the value of the first keyword with this key, where it is read
abbrev pub value_of : List ℕ → List Keyword → Option (List ℕ)
value_of key [] = None
value_of key (keyword ∷ keywords) = if bytes_eq keyword.key key then keyword.value else value_of key keywords

-- a keyword is given twice, those that are not supported apart
abbrev pub has_twice : (List ℕ → Bool) → List Keyword → Bool
has_twice unsupported [] = false
has_twice unsupported (keyword ∷ keywords) = (not (unsupported keyword.key) && has_key keyword.key keywords) || has_twice unsupported keywords

abbrev pub twice_faults : (List ℕ → Bool) → List Keyword → List Cause
twice_faults unsupported keywords = when (has_twice unsupported keywords) (P KeywordTwice)

-- a keyword that the statement does not take: one that is left out for good, or an unknown one
abbrev pub unknown_faults : (List ℕ → Bool) → List ℕ → List Cause
unknown_faults left_out key = if left_out key then P LeftOut ∷ [] else P UnknownKeyword ∷ []

-- a value that is read and of wrong form
abbrev pub value_faults : (List ℕ → Bool) → Option (List ℕ) → List Cause
value_faults is_good None = []
value_faults is_good (Some value) = when (not (is_good value)) (P BadValue)

-- an operand of over 1,024 characters is not read
abbrev pub is_long : List ℕ → Bool
is_long operand = nat_lt 1024 (length operand)
