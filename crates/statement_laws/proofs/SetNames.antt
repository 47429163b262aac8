-- DSNAME without a fault.
use Rattle.std.proofs.Common.{◌≡◌, ℕ, ◌≤◌, ◌&&◌, Bool, true, false, not, cond, nat_eq, nat_lt, List, [], ◌∷◌, codes, Option, unwrap_or, refl, ltb-false}
use Rattle.std.specs.List.{starts_with}
use Rattle.std.specs.Str.{bytes_eq}
use Rattle.jname_core.specs.Decimals.{decimal_value, is_decimal}
use Rattle.jcl_plan.specs.declared.fault.Cause.TheVariants.{N, P}
use Rattle.jcl_plan.specs.declared.fault.StatementFault.TheVariants.{BadValue}
use Rattle.operand_core.specs.Faults.{name_faults}
use Rattle.operand_core.proofs.Faultless.{none_behind, none_in_front}
use Rattle.value_core.specs.declared.set.SetName.{SetName}
use Rattle.value_core.specs.declared.set.SetName.TheVariants as name
use Rattle.value_core.specs.Reads.{good}
use Rattle.value_core.specs.References.{is_reference}
use Rattle.value_core.specs.SetNames.{amount, amount_faults, base, begins_amount, behind_ampersands, digits_of, ds_name, is_signed, key_of, member_faults, named_part, of_dd, of_key, plain, relative, set_name, temporary, within_parentheses}
use Rattle.jcl_cards.specs.declared.coded.Coded.TheVariants.{Value}
use Rattle.statement_laws.specs.Ranges.{CodesName, IsSoundKey}
use Rattle.statement_laws.proofs.Faultless.{ReadIs, ds_name_is, either_is, name_is}

-- `&&name`
temporary_is : (text : List ℕ) (inside : Option (List ℕ)) → ReadIs IsSoundKey (temporary text inside)
temporary_is text inside none = name_is text (none_in_front (name_faults text) (member_faults inside) none)

-- a relative generation: where its amount is over 255 that is a fault
amount_by : (bad large signed : Bool) → cond bad (P BadValue ∷ []) (cond large (N 4 ∷ []) (cond signed (P BadValue ∷ []) [])) ≡ [] → large ≡ false
amount_by false false signed none = refl
amount_by false true signed none = absurd (cc)
amount_by true large signed none = absurd (cc)

amount_fits : (text : List ℕ) → amount_faults text ≡ [] → decimal_value (digits_of text) ≤ 255
amount_fits text none =
    let number = decimal_value (digits_of text) in
    ltb-false 255 number (amount_by (not (is_decimal (digits_of text))) (nat_lt 255 number) (not (is_signed text) && nat_lt 0 number) none)

relative_is : (text within : List ℕ) → ReadIs IsSoundKey (relative text within)
relative_is text within none = (
  ds_name_is 35 text (none_in_front (base text).faults (amount within).faults none),
  amount_fits within (none_behind (base text).faults (amount within).faults none),
)

plain_is : (text : List ℕ) (inside : Option (List ℕ)) → ReadIs IsSoundKey (plain text inside)
plain_is text inside none = ds_name_is 44 text (none_in_front (ds_name text).faults (member_faults inside) none)

key_is : (text : List ℕ) → ReadIs IsSoundKey (key_of text)
key_is text =
    let named = named_part text in
    let within = within_parentheses text in
    let ampersands = starts_with nat_eq text (codes "&") in
    let left = temporary (behind_ampersands named) within in
    let number = relative named (unwrap_or within []) in
    let other = plain named within in
    either_is IsSoundKey ampersands left (cond (begins_amount within) number other)
    (λ is. temporary_is (behind_ampersands named) within)
    (λ is. either_is IsSoundKey (begins_amount within) number other (λ is. relative_is named (unwrap_or within [])) (λ is. plain_is named within))

abbrev IsSoundName : SetName → Type 0
IsSoundName set = CodesName IsSoundKey (Value set)

pub set_name_is : (text : List ℕ) → ReadIs IsSoundName (set_name text)
set_name_is text =
    either_is IsSoundName (bytes_eq text (codes "NULLFILE")) (good name.Null) (cond (is_reference text) (of_dd text) (of_key text))
    (λ is none. tt)
    (λ is. either_is IsSoundName (is_reference text) (of_dd text) (of_key text) (λ is none. tt) (λ is. key_is text))
