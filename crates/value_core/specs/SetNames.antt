-- DSNAME: a name, a relative generation, a temporary name, a reference, NULLFILE. (GC28-6704, DSNAME parameter)
use Rattle.std.specs.Prelude.{ℕ, Bool, false, not, ◌&&◌, ◌||◌, ◌==◌, ◌+◌, ◌-◌, nat_lt, List, [], ◌∷◌, ◌++◌, take, drop, length, Option, Some, None, codes, if◌then◌else◌, unwrap_or, nat_eq}
use Rattle.std.specs.List.{list_any, starts_with, take_while}
use Rattle.std.specs.Str.{bytes_eq}
use Rattle.jname_core.specs.declared.key.Key.{Key}
use Rattle.jname_core.specs.declared.key.Key.TheVariants.{Named, Relative, Temporary}
use Rattle.jname_core.specs.declared.key.Sign.{Sign}
use Rattle.jname_core.specs.declared.key.Sign.TheVariants.{Plus, Minus}
use Rattle.jname_core.specs.Characters.{is_digit}
use Rattle.jname_core.specs.Decimals.{decimal_value, is_decimal}
use Rattle.jname_core.specs.Faults.{ds_name_fault, name8_fault}
use Rattle.jname_core.specs.declared.fault.NameFault.{NameFault}
use Rattle.jcl_plan.specs.declared.fault.Cause.{Cause}
use Rattle.jcl_plan.specs.declared.fault.Cause.TheVariants.{N, P}
use Rattle.jcl_plan.specs.declared.fault.StatementFault.TheVariants.{BadValue, MemberName}
use Rattle.operand_core.specs.Faults.{as_cause, name_faults}
use Rattle.value_core.specs.declared.set.SetName.{SetName}
use Rattle.value_core.specs.declared.set.SetName.TheVariants as name
use Rattle.value_core.specs.Reads.{Read, good, mapped}
use Rattle.value_core.specs.References.{dd_reference, is_reference}

-- what stands before the first parenthesis, and within it where it closes at the end
abbrev pub is_open : ℕ → Bool
is_open c = c == 40

abbrev pub before_parenthesis : List ℕ → List ℕ
before_parenthesis text = take_while (λ c. not (is_open c)) text

abbrev pub behind_parenthesis : List ℕ → List ℕ
behind_parenthesis text = drop (length (before_parenthesis text) + 1) text

abbrev pub ends_in_parenthesis : List ℕ → Bool
ends_in_parenthesis [] = false
ends_in_parenthesis (c ∷ []) = c == 41
ends_in_parenthesis (c ∷ d ∷ cs) = ends_in_parenthesis (d ∷ cs)

abbrev pub has_parentheses : List ℕ → Bool
has_parentheses text = list_any is_open text && ends_in_parenthesis text

abbrev pub without_last : List ℕ → List ℕ
without_last text = take (length text - 1) text

abbrev pub within_parentheses : List ℕ → Option (List ℕ)
within_parentheses text = if has_parentheses text then Some (without_last (behind_parenthesis text)) else None

abbrev pub named_part : List ℕ → List ℕ
named_part text = if has_parentheses text then before_parenthesis text else text

-- behind a name that is no relative generation's a name of a member is left out, and anything else has no meaning
abbrev pub member_faults : Option (List ℕ) → List Cause
member_faults None = []
member_faults (Some inside) = member_by (name8_fault inside)
  where
    member_by : Option NameFault → List Cause
    member_by None = P MemberName ∷ []
    member_by (Some fault) = P BadValue ∷ []

-- `&&name`, and `&name` where no symbol has that name
abbrev pub behind_ampersands : List ℕ → List ℕ
behind_ampersands text = if starts_with nat_eq text (codes "&&") then drop 2 text else drop 1 text

abbrev pub temporary : List ℕ → Option (List ℕ) → Read Key
temporary text inside = record { value = Temporary text; faults = name_faults text ++ member_faults inside }

-- an amount begins with a sign or a digit: 0, +n or -n, to 255
abbrev pub is_sign : ℕ → Bool
is_sign c = c == 43 || c == 45

abbrev pub begins_amount : Option (List ℕ) → Bool
begins_amount None = false
begins_amount (Some []) = false
begins_amount (Some (c ∷ cs)) = is_sign c || is_digit c

abbrev pub sign_of : List ℕ → Sign
sign_of [] = Plus
sign_of (c ∷ cs) = if c == 45 then Minus else Plus

abbrev pub is_signed : List ℕ → Bool
is_signed [] = false
is_signed (c ∷ cs) = is_sign c

abbrev pub digits_of : List ℕ → List ℕ
digits_of text = if is_signed text then drop 1 text else text

abbrev pub amount_faults : List ℕ → List Cause
amount_faults text =
    if not (is_decimal (digits_of text)) then P BadValue ∷ []
    else (if nat_lt 255 (decimal_value (digits_of text)) then N 4 ∷ []
    else (if not (is_signed text) && nat_lt 0 (decimal_value (digits_of text)) then P BadValue ∷ []
    else []))

-- 0 is the newest, whatever sign stands before it
abbrev pub sign_with : List ℕ → ℕ → Sign
sign_with text number = if number == 0 then Plus else sign_of text

abbrev pub amount : List ℕ → Read (Sign × ℕ)
amount text = record {
  value = (sign_with text (decimal_value (digits_of text)), decimal_value (digits_of text));
  faults = amount_faults text;
}

-- the base of a group has at most 35 characters
abbrev pub base : List ℕ → Read (List ℕ)
base text = record { value = text; faults = as_cause (ds_name_fault 35 text) }

abbrev pub relative : List ℕ → List ℕ → Read Key
relative text within = record {
  value = Relative text (amount within).value.0 (amount within).value.1;
  faults = (base text).faults ++ (amount within).faults;
}

abbrev pub ds_name : List ℕ → Read (List ℕ)
ds_name text = record { value = text; faults = as_cause (ds_name_fault 44 text) }

abbrev pub plain : List ℕ → Option (List ℕ) → Read Key
plain text inside = record { value = Named text; faults = (ds_name text).faults ++ member_faults inside }

abbrev pub key_of : List ℕ → Read Key
key_of text =
    if starts_with nat_eq text (codes "&") then temporary (behind_ampersands (named_part text)) (within_parentheses text)
    else (if begins_amount (within_parentheses text) then relative (named_part text) (unwrap_or (within_parentheses text) [])
    else plain (named_part text) (within_parentheses text))

abbrev pub of_dd : List ℕ → Read SetName
of_dd text = mapped name.OfDd (dd_reference text)

abbrev pub of_key : List ℕ → Read SetName
of_key text = mapped name.Of (key_of text)

abbrev pub set_name : List ℕ → Read SetName
set_name text =
    if bytes_eq text (codes "NULLFILE") then good name.Null
    else (if is_reference text then of_dd text
    else of_key text)
