-- VOLUME without a fault.
use Rattle.std.proofs.Common.{◌≡◌, ℕ, Bool, true, false, cond, nat_lt, List, [], ◌∷◌, length, codes, Option, Some, None}
use Rattle.std.specs.List.{flat_map, list_any, onto_first}
use Rattle.std.specs.Str.{bytes_eq}
use Rattle.std.proofs.lemmas.Bool.{or_parts}
use Rattle.jname_core.specs.Faults.{ds_name_fault, is_no_serial}
use Rattle.jname_core.specs.Grammar.{IsSerial}
use Rattle.jname_core.proofs.Names.{serial_from_kept}
use Rattle.card_core.specs.Fields.{quoted_after}
use Rattle.jcl_plan.specs.declared.fault.Cause.{Cause}
use Rattle.jcl_plan.specs.declared.fault.Cause.TheVariants.{P}
use Rattle.jcl_plan.specs.declared.fault.StatementFault.TheVariants.{BadValue, SeveralSerials}
use Rattle.operand_core.specs.Faults.{as_cause, when}
use Rattle.operand_core.specs.Operands.{depth_after, ends_part, keyword_of, parts_from, places_of}
use Rattle.operand_core.specs.Subparameters.{first_place, inside, is_wrapped, subparameters_of}
use Rattle.operand_core.proofs.Faultless.{none_behind, none_in_front}
use Rattle.value_core.specs.declared.set.VolumeName.{VolumeName}
use Rattle.value_core.specs.declared.set.VolumeName.TheVariants as volume
use Rattle.value_core.specs.Places.{together_faults}
use Rattle.value_core.specs.Reads.{Read, bad, good}
use Rattle.value_core.specs.References.{is_reference}
use Rattle.value_core.specs.VolumeNames.{by_key, first_named, is_dropped, is_other_name, named_in, of_dd, of_name, or_later, volume_place, reference, serial, volume_name}
use Rattle.jcl_cards.specs.declared.coded.Coded.TheVariants.{Value}
use Rattle.statement_laws.specs.Ranges.{IsSoundVolume}
use Rattle.statement_laws.proofs.Faultless.{ReadIs, ds_name_is, either_is, when_none}

abbrev IsVolume : VolumeName → Type 0
IsVolume v = IsSoundVolume (Value v)

-- a text has one place at least
abbrev HasPlace : List (List ℕ) → Type 0
HasPlace [] = ⊥
HasPlace (place ∷ places) = Unit {0}

onto_some : (c : ℕ) (places : List (List ℕ)) → HasPlace (onto_first c places)
onto_some c [] = tt
onto_some c (place ∷ places) = tt

either_some : (ends : Bool) (c : ℕ) (others places : List (List ℕ)) → HasPlace (cond ends ([] ∷ others) (onto_first c places))
either_some true c others places = tt
either_some false c others places = onto_some c places

some_from : (quoted : Bool) (depth : ℕ) (text : List ℕ) → HasPlace (parts_from quoted depth text)
some_from quoted depth [] = tt
some_from quoted depth (c ∷ cs) =
    either_some (ends_part quoted depth c) c (parts_from false 0 cs) (parts_from (quoted_after quoted c) (depth_after quoted depth c) cs)

some_by : (wrapped : Bool) (text value : List ℕ) → HasPlace (cond wrapped (places_of text) (value ∷ []))
some_by true text value = some_from false 0 text
some_by false text value = tt

some_place : (value : List ℕ) → HasPlace (subparameters_of value)
some_place value = some_by (is_wrapped value) (inside value) value

-- one serial
first_serial : (places : List (List ℕ)) → HasPlace places → list_any is_no_serial places ≡ false → IsSerial (first_place places)
first_serial [] some none = absurd some
first_serial (place ∷ places) some none = serial_from_kept place (or_parts (is_no_serial place) (list_any is_no_serial places) none).0

serial_is : (text : List ℕ) → ReadIs IsVolume (serial text)
serial_is text none =
    let places = subparameters_of text in
    let several = when (nat_lt 1 (length places)) (P SeveralSerials) in
    let wrong = list_any is_no_serial places in
    first_serial places (some_place text) (when_none wrong (P BadValue) (none_behind several (when wrong (P BadValue)) none))

-- the volume of a set or of a DD
of_name_is : (text : List ℕ) → ReadIs IsVolume (of_name text)
of_name_is text =
    either_is IsVolume (is_other_name text) (bad volume.Any (P BadValue)) (record { value = volume.OfName text; faults = as_cause (ds_name_fault 44 text) })
    (λ is none. tt) (λ is none. ds_name_is 44 text none)

reference_is : (text : List ℕ) → ReadIs IsVolume (reference text)
reference_is text = either_is IsVolume (is_reference text) (of_dd text) (of_name text) (λ is none. tt) (λ is. of_name_is text)

by_key_is : (key text : List ℕ) → ReadIs IsVolume (by_key key text)
by_key_is key text =
    let unknown : Read VolumeName = bad volume.Any (P BadValue) in
    let referred = cond (bytes_eq key (codes "REF")) (reference text) unknown in
    either_is IsVolume (bytes_eq key (codes "SER")) (serial text) referred (λ is. serial_is text)
    (λ is. either_is IsVolume (bytes_eq key (codes "REF")) (reference text) unknown (λ is. reference_is text) (λ is none. tt))

place_is : (text : List ℕ) (found : Option (List ℕ × List ℕ)) → ReadIs IsVolume (volume_place text found)
place_is text None =
    either_is IsVolume (is_dropped text) (good volume.Any) (bad volume.Any (P BadValue)) (λ is none. tt) (λ is none. tt)
place_is text (Some found) = by_key_is found.0 found.1

-- of several places the first that names one
later_is : (v later : VolumeName) → IsVolume v → IsVolume later → IsVolume (or_later v later)
later_is volume.Any later is behind = behind
later_is (volume.Serial text) later is behind = is
later_is (volume.OfName text) later is behind = is
later_is (volume.OfDd dd) later is behind = is

abbrev faults_at : List ℕ → List Cause
faults_at text = (volume_place text (keyword_of text)).faults

named_is : (places : List (List ℕ)) → flat_map faults_at places ≡ [] → IsVolume (named_in places)
named_is [] none = tt
named_is (text ∷ places) none =
    later_is (volume_place text (keyword_of text)).value (named_in places)
    (place_is text (keyword_of text) (none_in_front (faults_at text) (flat_map faults_at places) none))
    (named_is places (none_behind (faults_at text) (flat_map faults_at places) none))

pub volume_is : (text : List ℕ) → ReadIs IsVolume (volume_name text)
volume_is text none =
    let places = subparameters_of text in
    named_is places (none_in_front (first_named places).faults (together_faults (codes "SER") (codes "REF") places) none)
