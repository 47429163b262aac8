-- Places of a value that begin with a keyword.
use Rattle.std.specs.Prelude.{ℕ, Bool, false, ◌&&◌, ◌||◌, nat_lt, List, ◌++◌, Option, Some, None, count_by}
use Rattle.std.specs.Str.{bytes_eq}
use Rattle.jcl_plan.specs.declared.fault.Cause.{Cause}
use Rattle.jcl_plan.specs.declared.fault.Cause.TheVariants.{P}
use Rattle.jcl_plan.specs.declared.fault.StatementFault.TheVariants.{ExcludeOneAnother, KeywordTwice}
use Rattle.operand_core.specs.Faults.{when}
use Rattle.operand_core.specs.Operands.{keyword_of}

abbrev pub has_key : List ℕ → Option (List ℕ × List ℕ) → Bool
has_key key None = false
has_key key (Some found) = bytes_eq found.0 key

-- how many have this keyword
abbrev pub times : List ℕ → List (List ℕ) → ℕ
times key places = count_by (λ text. has_key key (keyword_of text)) places

-- one of two keywords stands twice, or both stand
abbrev pub counts_faults : ℕ → ℕ → List Cause
counts_faults one other =
    when (nat_lt 1 one || nat_lt 1 other) (P KeywordTwice) ++ when (nat_lt 0 one && nat_lt 0 other) (P ExcludeOneAnother)

abbrev pub together_faults : List ℕ → List ℕ → List (List ℕ) → List Cause
together_faults one other places = counts_faults (times one places) (times other places)
