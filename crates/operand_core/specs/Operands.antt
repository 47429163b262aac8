-- An operand and its parts. (GC28-6704, "Positional and keyword parameters", "Fields in control statements")
use Rattle.std.specs.Prelude.{ℕ, ◌+◌, ◌-◌, Bool, false, not, ◌&&◌, ◌||◌, ◌==◌, nat_lt, List, [], ◌∷◌, ◌++◌, map, length, drop, take_while, Option, Some, None, is_some, if◌then◌else◌}
use Rattle.std.specs.List.{list_any, onto_first, flat_map}
use Rattle.jname_core.specs.Characters.{is_name_character}
use Rattle.card_core.specs.Fields.{quoted_after}
use Rattle.jcl_plan.specs.declared.fault.Cause.{Cause}
use Rattle.jcl_plan.specs.declared.fault.Cause.TheVariants.{P}
use Rattle.jcl_plan.specs.declared.fault.StatementFault.TheVariants.{BadValue, TooManyPositional, UnbalancedParentheses}
use Rattle.operand_core.specs.Faults.{when}

-- how many parentheses are open after a character; one that closes none open closes nothing
abbrev pub depth_after : Bool → ℕ → ℕ → ℕ
depth_after quoted depth c =
    if quoted then depth else (if c == 40 then depth + 1 else (if c == 41 then depth - 1 else depth))

-- a comma outside parentheses and apostrophes
abbrev pub ends_part : Bool → ℕ → ℕ → Bool
ends_part quoted depth c = not quoted && depth == 0 && c == 44

-- the parts of what is left, where apostrophes are open or not and so many parentheses are open
abbrev pub parts_from : Bool → ℕ → List ℕ → List (List ℕ)
parts_from quoted depth [] = [] ∷ []
parts_from quoted depth (c ∷ cs) =
    if ends_part quoted depth c then [] ∷ parts_from false 0 cs
    else onto_first c (parts_from (quoted_after quoted c) (depth_after quoted depth c) cs)

-- the places between commas
abbrev pub places_of : List ℕ → List (List ℕ)
places_of text = parts_from false 0 text

-- an empty operand has no parts
abbrev pub parts_of : List ℕ → List (List ℕ)
parts_of [] = []
parts_of (c ∷ cs) = places_of (c ∷ cs)

abbrev pub closes_nothing : Bool → ℕ → ℕ → Bool
closes_nothing quoted depth c = not quoted && depth == 0 && c == 41

abbrev pub balanced_from : Bool → ℕ → List ℕ → Bool
balanced_from quoted depth [] = depth == 0
balanced_from quoted depth (c ∷ cs) =
    if closes_nothing quoted depth c then false
    else balanced_from (quoted_after quoted c) (depth_after quoted depth c) cs

-- each parenthesis outside apostrophes has its other
abbrev pub is_balanced : List ℕ → Bool
is_balanced text = balanced_from false 0 text

abbrev pub open_at_end : Bool → List ℕ → Bool
open_at_end quoted [] = quoted
open_at_end quoted (c ∷ cs) = open_at_end (quoted_after quoted c) cs

-- its apostrophes close
abbrev pub is_closed : List ℕ → Bool
is_closed text = not (open_at_end false text)

-- a part whose parentheses do not balance, or whose apostrophes do not close, is not read: its keyword alone counts
abbrev pub is_read : List ℕ → Bool
is_read part = is_balanced part && is_closed part

abbrev pub read_of : List ℕ → List ℕ → Option (List ℕ)
read_of part text = if is_read part then Some text else None

abbrev pub part_faults : List ℕ → List Cause
part_faults part = if is_balanced part then when (not (is_closed part)) (P BadValue) else P UnbalancedParentheses ∷ []

-- a keyword and its value, or none where that is not read
pub record Keyword : Type 0 where
  pub key : List ℕ
  pub value : Option (List ℕ)

abbrev pub is_key_character : ℕ → Bool
is_key_character c = is_name_character c || c == 46

-- a key and what stands behind it
abbrev pub keyed : List ℕ → List ℕ → Option (List ℕ × List ℕ)
keyed [] behind = None
keyed (k ∷ ks) [] = None
keyed (k ∷ ks) (c ∷ cs) = if c == 61 then Some (k ∷ ks, cs) else None

-- one or more letters, digits, #, @, $ or periods directly followed by =, and what stands behind that
abbrev pub keyword_of : List ℕ → Option (List ℕ × List ℕ)
keyword_of part = keyed (take_while is_key_character part) (drop (length (take_while is_key_character part)) part)

abbrev pub is_positional : List ℕ → Bool
is_positional part = not (is_some (keyword_of part))

-- the parts before the first keyword
abbrev pub positional_parts : List (List ℕ) → List (List ℕ)
positional_parts parts = take_while is_positional parts

abbrev pub behind_positional : List (List ℕ) → List (List ℕ)
behind_positional parts = drop (length (positional_parts parts)) parts

abbrev pub onto_keywords : List ℕ → Option (List ℕ × List ℕ) → List Keyword → List Keyword
onto_keywords part None keywords = keywords
onto_keywords part (Some found) keywords = record { key = found.0; value = read_of part found.1 } ∷ keywords

abbrev pub keywords_of : List (List ℕ) → List Keyword
keywords_of [] = []
keywords_of (part ∷ parts) = onto_keywords part (keyword_of part) (keywords_of parts)

-- positional: in their places, none where one is not read
pub record Operand : Type 0 where
  pub positional : List (Option (List ℕ))
  pub keywords : List Keyword
  pub faults : List Cause

-- more than the statement takes, or one behind a keyword
abbrev pub is_crowded : ℕ → List (List ℕ) → Bool
is_crowded most parts = nat_lt most (length (positional_parts parts)) || list_any is_positional (behind_positional parts)

abbrev pub operand_of_parts : ℕ → List (List ℕ) → Operand
operand_of_parts most parts = record {
  positional = map (λ part. read_of part part) (positional_parts parts);
  keywords = keywords_of parts;
  faults = flat_map part_faults parts ++ when (is_crowded most parts) (P TooManyPositional);
}

-- the operand of a statement that takes so many positional ones at most
abbrev pub operand_of : ℕ → List ℕ → Operand
operand_of most text = operand_of_parts most (parts_of text)

abbrev pub first_of : List (Option (List ℕ)) → Option (List ℕ)
first_of [] = None
first_of (part ∷ parts) = part
