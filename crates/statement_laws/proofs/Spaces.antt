-- SPACE, whatever faults it has: a quantity that is not good is 0.
use Rattle.std.proofs.Common.{◌≡◌, ℕ, ◌≤◌, ◌&&◌, Bool, true, false, cond, nat_le, List, [], ◌∷◌, codes, refl, arith}
use Rattle.std.specs.Str.{bytes_eq}
use Rattle.std.proofs.lemmas.Bool.{leb-true}
use Rattle.jname_core.specs.Decimals.{decimal_value, is_decimal}
use Rattle.jcl_plan.specs.declared.fault.Cause.TheVariants.{P}
use Rattle.jcl_plan.specs.declared.fault.StatementFault.TheVariants.{BadValue, LeftOut}
use Rattle.jcl_plan.specs.declared.plan.Space.{Space}
use Rattle.operand_core.specs.Operands.{places_of}
use Rattle.operand_core.specs.Subparameters.{first_place, inside, is_wrapped, subparameters_of}
use Rattle.value_core.specs.Reads.{Read, bad}
use Rattle.value_core.specs.Spaces.{no_space, quantity, secondary_of, space, space_of_places, space_with, tracks_of}
use Rattle.jcl_cards.specs.declared.coded.Coded.TheVariants.{Value}
use Rattle.statement_laws.specs.Ranges.{IsSoundSpace}

abbrev IsSound : Read Space → Type 0
IsSound r = IsSoundSpace (Value r.value)

quantity_by : (decimal few : Bool) (n : ℕ) → (few ≡ true → n ≤ 4000) → cond (decimal && few) n 0 ≤ 4000
quantity_by true true n fits = fits refl
quantity_by true false n fits = omega arith
quantity_by false few n fits = omega arith

quantity_fits : (unit text : List ℕ) → quantity unit text ≤ 4000
quantity_fits unit text =
    let n = tracks_of unit (decimal_value text) in
    quantity_by (is_decimal text) (nat_le n 4000) n (leb-true n 4000)

secondary_fits : (unit : List ℕ) (places : List (List ℕ)) → secondary_of unit places ≤ 4000
secondary_fits unit [] = omega arith
secondary_fits unit (p ∷ []) = omega arith
secondary_fits unit (p ∷ s ∷ places) = quantity_fits unit s

with_is : (unit : List ℕ) (quantities further : List (List ℕ)) → IsSound (space_with unit quantities further)
with_is unit quantities further = (quantity_fits unit (first_place quantities), secondary_fits unit quantities)

none_is : IsSoundSpace (Value no_space)
none_is = (omega arith, omega arith)

either_fits : (b : Bool) (r s : Read Space) → IsSound r → IsSound s → IsSound (cond b r s)
either_fits true r s is other = is
either_fits false r s is other = other

places_are : (places : List (List ℕ)) → IsSound (space_of_places places)
places_are [] = none_is
places_are (unit ∷ []) =
    either_fits (bytes_eq unit (codes "ABSTR")) (bad no_space (P LeftOut)) (bad no_space (P BadValue)) none_is none_is
places_are (unit ∷ text ∷ further) =
    either_fits (bytes_eq unit (codes "ABSTR")) (bad no_space (P LeftOut)) (space_with unit (subparameters_of text) further) none_is
    (with_is unit (subparameters_of text) further)

pub space_is : (text : List ℕ) → IsSoundSpace (Value (space text).value)
space_is text =
    either_fits (is_wrapped text) (space_of_places (places_of (inside text))) (bad no_space (P BadValue)) (places_are (places_of (inside text))) none_is
