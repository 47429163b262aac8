-- what VOLUME names, place by place
use Rattle.std.proofs.Common.{◌≡◌, ℕ, Bool, true, false, cond, List, [], ◌∷◌, ◌++◌, Option, Some, None, Result, Ok, Err, refl, sym, ap, ◌∙◌}
use Rattle.std.specs.List.{list_any, onto_first}
use Rattle.std.proofs.lemmas.Bool.{or_parts}
use Rattle.card_core.specs.Fields.{quoted_after}
use Rattle.jcl_plan.specs.declared.fault.Cause.{Cause}
use Rattle.jcl_plan.specs.declared.fault.Cause.TheVariants.{P}
use Rattle.jcl_plan.specs.declared.fault.StatementFault.TheVariants.{BadValue, SeveralSerials}
use Rattle.jname_core.specs.Faults.{is_no_serial}
use Rattle.jname_core.specs.Grammar.{IsSerial}
use Rattle.jname_core.proofs.Names.{serial_from_kept}
use Rattle.operand_core.specs.Faults.{earlier, lower, or_fault, told, when}
use Rattle.operand_core.specs.Operands.{depth_after, ends_part, keyword_of, parts_from, places_of}
use Rattle.operand_core.specs.Subparameters.{first_place, inside, is_wrapped, subparameters_of}
use Rattle.operand_core.proofs.Told.{earlier_assoc, told_append}
use Rattle.value_core.specs.declared.set.VolumeName.{VolumeName}
use Rattle.value_core.specs.declared.set.VolumeName.TheVariants as volume
use Rattle.value_core.specs.Reads.{Read}
use Rattle.value_core.specs.VolumeNames.{first_named, or_later, volume_place, with_later}

-- a value has a place
onto_some : (c : ℕ) (parts : List (List ℕ)) → onto_first c parts ≡ [] → ⊥
onto_some c [] h = cc
onto_some c (part ∷ parts) h = cc

some_cases : (c : ℕ) (others parts : List (List ℕ)) (ends : Bool) → cond ends ([] ∷ others) (onto_first c parts) ≡ [] → ⊥
some_cases c others parts true h = cc
some_cases c others parts false h = onto_some c parts h

places_some : (text : List ℕ) → places_of text ≡ [] → ⊥
places_some [] h = cc
places_some (c ∷ cs) h = some_cases c (places_of cs) (parts_from (quoted_after false c) (depth_after false 0 c) cs) (ends_part false 0 c) h

value_cases : (value : List ℕ) (wrapped : Bool) → cond wrapped (places_of (inside value)) (value ∷ []) ≡ [] → ⊥
value_cases value true h = places_some (inside value) h
value_cases value false h = cc

some_place : (value : List ℕ) → subparameters_of value ≡ [] → ⊥
some_place value h = value_cases value (is_wrapped value) h

first_kept : (places : List (List ℕ)) → (places ≡ [] → ⊥) → list_any is_no_serial places ≡ false → IsSerial (first_place places)
first_kept [] some h = absurd (some refl)
first_kept (place ∷ places) some h = serial_from_kept place (or_parts (is_no_serial place) (list_any is_no_serial places) h).0

-- the first place of a value without a bad serial is one
pub first_is_serial : (value : List ℕ) → list_any is_no_serial (subparameters_of value) ≡ false → IsSerial (first_place (subparameters_of value))
first_is_serial value h = first_kept (subparameters_of value) (some_place value) h

abbrev pub serial_faults : Bool → Bool → List Cause
serial_faults several bad = when several (P SeveralSerials) ++ when bad (P BadValue)

pub bad_serial : (several : Bool) → told (serial_faults several true) ≡ Some (P BadValue)
bad_serial true = refl
bad_serial false = refl

-- one volume behind another
pub any_later : (later : Result VolumeName Cause) → with_later (Ok volume.Any) later ≡ later
any_later (Ok v) = refl
any_later (Err fault) = refl

or_any : (v : VolumeName) → or_later v volume.Any ≡ v
or_any volume.Any = refl
or_any (volume.Serial text) = refl
or_any (volume.OfName text) = refl
or_any (volume.OfDd dd) = refl

pub later_any : (r : Result VolumeName Cause) → with_later r (Ok volume.Any) ≡ r
later_any (Ok v) = ap (λ (w : VolumeName). let r : Result VolumeName Cause = Ok w in r) (or_any v)
later_any (Err fault) = refl

or_later_assoc : (a b c : VolumeName) → or_later (or_later a b) c ≡ or_later a (or_later b c)
or_later_assoc volume.Any b c = refl
or_later_assoc (volume.Serial text) b c = refl
or_later_assoc (volume.OfName text) b c = refl
or_later_assoc (volume.OfDd dd) b c = refl

lower_assoc : (a b c : Cause) → lower (lower a b) c ≡ lower a (lower b c)
lower_assoc a b c =
    let same : Some (lower (lower a b) c) ≡ Some (lower a (lower b c)) = earlier_assoc (Some a) (Some b) (Some c) in
    cc

pub with_later_assoc : (a b c : Result VolumeName Cause) → with_later (with_later a b) c ≡ with_later a (with_later b c)
with_later_assoc (Ok a) (Ok b) (Ok c) = ap (λ (v : VolumeName). let r : Result VolumeName Cause = Ok v in r) (or_later_assoc a b c)
with_later_assoc (Ok a) (Ok b) (Err c) = refl
with_later_assoc (Ok a) (Err b) (Ok c) = refl
with_later_assoc (Ok a) (Err b) (Err c) = refl
with_later_assoc (Err a) (Ok b) (Ok c) = refl
with_later_assoc (Err a) (Ok b) (Err c) = refl
with_later_assoc (Err a) (Err b) (Ok c) = refl
with_later_assoc (Err a) (Err b) (Err c) = ap (λ (f : Cause). let r : Result VolumeName Cause = Err f in r) (lower_assoc a b c)

abbrev pub answer : Read VolumeName → Result VolumeName Cause
answer r = or_fault (told r.faults) r.value

later_told : (f g : Option Cause) (v w : VolumeName) → with_later (or_fault f v) (or_fault g w) ≡ or_fault (earlier f g) (or_later v w)
later_told None None v w = refl
later_told None (Some g) v w = refl
later_told (Some f) None v w = refl
later_told (Some f) (Some g) v w = refl

-- of one more place
pub named_more : (place : List ℕ) (places : List (List ℕ)) →
    with_later (answer (volume_place place (keyword_of place))) (answer (first_named places)) ≡ answer (first_named (place ∷ places))
named_more place places =
    later_told (told (volume_place place (keyword_of place)).faults) (told (first_named places).faults) (volume_place place (keyword_of place)).value (first_named places).value
    ∙ ap (λ f. let r : Result VolumeName Cause = or_fault f (first_named (place ∷ places)).value in r)
    (sym (told_append (volume_place place (keyword_of place)).faults (first_named places).faults))

not_serial : (text : List ℕ) (bad : Bool) → is_no_serial text ≡ bad → (IsSerial text → ⊥) → true ≡ bad
not_serial text true is h = refl
not_serial text false is h = absurd (h (serial_from_kept text is))

pub no_serial : (text : List ℕ) → (IsSerial text → ⊥) → true ≡ is_no_serial text
no_serial text h = not_serial text (is_no_serial text) refl h
