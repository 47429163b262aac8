-- SPACE with a bad unit: no other fault of it is told first
use Rattle.std.proofs.Common.{◌≡◌, ℕ, ◌+◌, Bool, true, false, cond, not, ◌&&◌, ◌||◌, ◌==◌, nat_lt, List, [], ◌∷◌, ◌++◌, length, Some, is_none, codes, refl, sym, ap, ◌∙◌}
use Rattle.std.specs.List.{list_all}
use Rattle.std.specs.Str.{bytes_eq}
use Rattle.jcl_plan.specs.declared.fault.Cause.{Cause}
use Rattle.jcl_plan.specs.declared.fault.Cause.TheVariants.{P}
use Rattle.jcl_plan.specs.declared.fault.StatementFault.TheVariants.{BadValue, LeftOut}
use Rattle.operand_core.specs.Faults.{earlier, lower, rank, told, when}
use Rattle.operand_core.specs.Operands.{places_of}
use Rattle.operand_core.specs.Subparameters.{inside, is_wrapped, subparameters_of}
use Rattle.operand_core.proofs.Told.{earlier_assoc}
use Rattle.value_core.specs.Reads.{bad}
use Rattle.value_core.specs.Spaces.{further_faults, further_place_faults, is_left_out, is_quantity, is_unit, no_space, quantity_faults, quantity_in, space, space_of_places, space_with}

-- a fault that is not told before a bad value
abbrev pub is_later : Cause → Bool
is_later fault = not (nat_lt (rank fault) (rank (P BadValue)))

lower_cases : (fault : Cause) (before : Bool) → nat_lt (rank fault) (rank (P BadValue)) ≡ before → not before ≡ true → lower (P BadValue) fault ≡ P BadValue
lower_cases fault true is h = absurd (cc)
lower_cases fault false is h = ap (λ (b : Bool). cond b fault (P BadValue)) is

and_left : (a b : Bool) → (a && b) ≡ true → a ≡ true
and_left true b h = refl
and_left false b h = h

and_right : (a b : Bool) → (a && b) ≡ true → b ≡ true
and_right true b h = h
and_right false b h = absurd (cc)

pub bad_first : (faults : List Cause) → list_all is_later faults ≡ true → told (P BadValue ∷ faults) ≡ Some (P BadValue)
bad_first [] h = refl
bad_first (fault ∷ faults) h =
    sym (earlier_assoc (Some (P BadValue)) (Some fault) (told faults))
    ∙ ap (λ one. earlier (Some one) (told faults))
    (lower_cases fault (nat_lt (rank fault) (rank (P BadValue))) refl (and_left (is_later fault) (list_all is_later faults) h))
    ∙ bad_first faults (and_right (is_later fault) (list_all is_later faults) h)

later_when : (b : Bool) (fault : Cause) → is_later fault ≡ true → list_all is_later (when b fault) ≡ true
later_when true fault h = ap (λ (x : Bool). x && true) h
later_when false fault h = refl

later_append : (xs ys : List Cause) → list_all is_later xs ≡ true → list_all is_later ys ≡ true → list_all is_later (xs ++ ys) ≡ true
later_append [] ys h k = k
later_append (x ∷ xs) ys h k =
    ap (λ (b : Bool). b && list_all is_later (xs ++ ys)) (and_left (is_later x) (list_all is_later xs) h)
    ∙ later_append xs ys (and_right (is_later x) (list_all is_later xs) h) k

later_quantities : (unit : List ℕ) (places : List (List ℕ)) → list_all is_later (quantity_faults unit places) ≡ true
later_quantities unit [] = refl
later_quantities unit (p ∷ []) = later_when (not (is_quantity unit p)) (P BadValue) refl
later_quantities unit (p ∷ s ∷ []) = later_when (not (is_quantity unit p) || not (is_quantity unit s)) (P BadValue) refl
later_quantities unit (p ∷ s ∷ d ∷ []) =
    later_append (when (is_none (quantity_in unit p) || (not (length s == 0) && not (is_quantity unit s)) || length d == 0) (P BadValue)) (when (not (length d == 0)) (P LeftOut))
    (later_when (is_none (quantity_in unit p) || (not (length s == 0) && not (is_quantity unit s)) || length d == 0) (P BadValue) refl)
    (later_when (not (length d == 0)) (P LeftOut) refl)
later_quantities unit (p ∷ s ∷ d ∷ e ∷ more) = refl

later_either : (b c : Bool) → list_all is_later (cond b (P LeftOut ∷ []) (when c (P BadValue))) ≡ true
later_either true c = refl
later_either false c = later_when c (P BadValue) refl

later_further : (k : ℕ) (places : List (List ℕ)) → list_all is_later (further_faults k places) ≡ true
later_further k [] = refl
later_further k (text ∷ places) =
    later_append (further_place_faults k text (length places == 0)) (further_faults (k + 1) places)
    (later_either (is_left_out text) (not (k == 2 && bytes_eq text (codes "RLSE")) && (not (length text == 0) || length places == 0 || nat_lt 4 k)))
    (later_further (k + 1) places)

pub space_with_bad_unit : (text unit quantities : List ℕ) (further : List (List ℕ)) → is_wrapped text ≡ true → places_of (inside text) ≡ unit ∷ (quantities ∷ further) →
    bytes_eq unit (codes "ABSTR") ≡ false → is_unit unit ≡ false → told (space text).faults ≡ Some (P BadValue)
space_with_bad_unit text unit quantities further wrapped places relative no_unit =
    ap (λ (b : Bool). told (cond b (space_of_places (places_of (inside text))) (bad no_space (P BadValue))).faults) wrapped
    ∙ ap (λ xs. told (space_of_places xs).faults) places
    ∙ ap (λ (b : Bool). told (cond b (bad no_space (P LeftOut)) (space_with unit (subparameters_of quantities) further)).faults) relative
    ∙ ap (λ (b : Bool). told (when (not b) (P BadValue) ++ (quantity_faults unit (subparameters_of quantities) ++ further_faults 2 further))) no_unit
    ∙ bad_first (quantity_faults unit (subparameters_of quantities) ++ further_faults 2 further)
    (later_append (quantity_faults unit (subparameters_of quantities)) (further_faults 2 further) (later_quantities unit (subparameters_of quantities)) (later_further 2 further))
