-- The keywords of an operand, each by its key: the first that stands counts, and each is asked for its faults.
use Rattle.std.specs.Prelude.{ℕ, Bool, true, false, ◌||◌, ◌==◌, nat_lt, List, [], ◌∷◌, ◌++◌, length, map, codes, Option, Some, None, unwrap_or, if◌then◌else◌}
use Rattle.std.specs.Str.{bytes_eq}
use Rattle.jname_core.specs.Characters.{is_name_character}
use Rattle.jname_core.specs.Faults.{first_fault, has_other_than}
use Rattle.jcl_plan.specs.declared.fault.Cause.{Cause}
use Rattle.jcl_plan.specs.declared.fault.Cause.TheVariants.{P}
use Rattle.jcl_plan.specs.declared.fault.StatementFault.TheVariants.{KeywordTwice}
use Rattle.operand_core.specs.Faults.{as_cause, long_faults, when}
use Rattle.operand_core.specs.Keywords.{has_key, is_long}
use Rattle.operand_core.specs.Operands.{Keyword}
use Rattle.operand_core.specs.Values.{unquoted}
use Rattle.value_core.specs.Reads.{Read, good, mapped}
use Rattle.jcl_symbols.specs.declared.symbol.Symbol.{Symbol}
use Rattle.jcl_cards.specs.declared.coded.Coded.{Coded}
use Rattle.jcl_cards.specs.declared.coded.Coded.TheVariants.{NotGiven, Nullified, Value}

-- a value, with the faults of a later one too
abbrev pub and_later : {A : Type 0} → Read A → Read A → Read A
and_later r later = record { value = r.value; faults = r.faults ++ later.faults }

-- on a JOB or an EXEC statement an empty value is read like any other; a part that is not read gives none
abbrev pub read_or : {A : Type 0} → (List ℕ → Read A) → A → Option (List ℕ) → Read A
read_or read other None = good other
read_or read other (Some text) = read text

abbrev pub value_in : {A : Type 0} → (List ℕ → Bool) → (List ℕ → Read A) → A → List Keyword → Read A
value_in is_key read other [] = good other
value_in is_key read other (k ∷ keywords) =
    if is_key k.key then and_later (read_or read other k.value) (value_in is_key read other keywords) else value_in is_key read other keywords

-- on a DD statement a keyword without a value counts as not coded, and nullifies in an override
abbrev pub coded_text : {A : Type 0} → (List ℕ → Read A) → Option (List ℕ) → Read (Coded A)
coded_text read None = good NotGiven
coded_text read (Some []) = good Nullified
coded_text read (Some (c ∷ cs)) = mapped Value (read (c ∷ cs))

abbrev pub coded_in : {A : Type 0} → (List ℕ → Bool) → (List ℕ → Read A) → List Keyword → Read (Coded A)
coded_in is_key read [] = good NotGiven
coded_in is_key read (k ∷ keywords) =
    if is_key k.key then and_later (coded_text read k.value) (coded_in is_key read keywords) else coded_in is_key read keywords

abbrev pub is_given : {A : Type 0} → Coded A → Bool
is_given NotGiven = false
is_given Nullified = false
is_given (Value a) = true

-- a keyword is given twice; two spellings of one keyword are one
abbrev pub stands_twice : (List ℕ → List ℕ) → List Keyword → Bool
stands_twice spelled [] = false
stands_twice spelled (k ∷ keywords) =
    has_key (spelled k.key) (map (λ other. record { key = spelled other.key; value = other.value }) keywords) || stands_twice spelled keywords

abbrev pub twice_faults : (List ℕ → List ℕ) → List Keyword → List Cause
twice_faults spelled keywords = when (stands_twice spelled keywords) (P KeywordTwice)

abbrev pub as_it_is : List ℕ → List ℕ
as_it_is key = key

-- keywords of a DD, some of which have two spellings
abbrev pub spelled : List ℕ → List ℕ
spelled key = if bytes_eq key (codes "DSN") then codes "DSNAME" else (if bytes_eq key (codes "VOL") then codes "VOLUME" else key)

-- a symbol has one to seven name characters
abbrev pub symbol_faults : List ℕ → List Cause
symbol_faults key = as_cause (first_fault (length key == 0) (nat_lt 7 (length key)) (has_other_than is_name_character key) false)

abbrev pub symbol_of : Keyword → Symbol
symbol_of k = record { name = k.key; value = unquoted (unwrap_or k.value []) }

-- an operand of over 1,024 characters is not read: of the other faults those of the name stay
abbrev pub unless_long : {A : Type 0} → List Cause → List ℕ → Read A → Read A
unless_long names operand r = if is_long operand then record { value = r.value; faults = long_faults names } else r
