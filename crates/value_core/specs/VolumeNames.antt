-- VOLUME: SER or REF; PRIVATE, RETAIN and counts are dropped. (GC28-6704, VOLUME parameter)
use Rattle.std.specs.Prelude.{ℕ, Bool, ◌||◌, ◌==◌, nat_lt, List, [], ◌∷◌, ◌++◌, length, Option, Some, None, Result, Ok, Err, codes, if◌then◌else◌, nat_eq}
use Rattle.std.specs.List.{flat_map, list_all, list_any, starts_with}
use Rattle.std.specs.Str.{bytes_eq}
use Rattle.jname_core.specs.Characters.{is_digit}
use Rattle.jname_core.specs.Faults.{ds_name_fault, is_no_serial}
use Rattle.jcl_plan.specs.declared.fault.Cause.{Cause}
use Rattle.jcl_plan.specs.declared.fault.Cause.TheVariants.{P}
use Rattle.jcl_plan.specs.declared.fault.StatementFault.TheVariants.{BadValue, SeveralSerials}
use Rattle.operand_core.specs.Faults.{as_cause, when}
use Rattle.operand_core.specs.Operands.{keyword_of}
use Rattle.operand_core.specs.Subparameters.{first_place, subparameters_of}
use Rattle.value_core.specs.declared.set.VolumeName.{VolumeName}
use Rattle.value_core.specs.declared.set.VolumeName.TheVariants as volume
use Rattle.value_core.specs.Places.{together_faults}
use Rattle.value_core.specs.Reads.{Read, and_faults, bad, both, good, mapped}
use Rattle.value_core.specs.References.{dd_reference, is_reference}

-- one serial
abbrev pub serial : List ℕ → Read VolumeName
serial text = record {
  value = volume.Serial (first_place (subparameters_of text));
  faults = when (nat_lt 1 (length (subparameters_of text))) (P SeveralSerials) ++ when (list_any is_no_serial (subparameters_of text)) (P BadValue);
}

-- that of an earlier DD, or of a data set, which is neither relative nor temporary
abbrev pub is_other_name : List ℕ → Bool
is_other_name text = starts_with nat_eq text (codes "&") || list_any (λ c. c == 40) text

abbrev pub of_name : List ℕ → Read VolumeName
of_name text =
    if is_other_name text then bad volume.Any (P BadValue) else record { value = volume.OfName text; faults = as_cause (ds_name_fault 44 text) }

abbrev pub of_dd : List ℕ → Read VolumeName
of_dd text = mapped volume.OfDd (dd_reference text)

abbrev pub reference : List ℕ → Read VolumeName
reference text = if is_reference text then of_dd text else of_name text

-- a place of VOLUME
abbrev pub is_dropped : List ℕ → Bool
is_dropped text = list_all is_digit text || bytes_eq text (codes "PRIVATE") || bytes_eq text (codes "RETAIN")

abbrev pub by_key : List ℕ → List ℕ → Read VolumeName
by_key key text =
    if bytes_eq key (codes "SER") then serial text else (if bytes_eq key (codes "REF") then reference text else bad volume.Any (P BadValue))

abbrev pub volume_place : List ℕ → Option (List ℕ × List ℕ) → Read VolumeName
volume_place text None = if is_dropped text then good volume.Any else bad volume.Any (P BadValue)
volume_place text (Some found) = by_key found.0 found.1

-- the volume that the first place which names one names
abbrev pub or_later : VolumeName → VolumeName → VolumeName
or_later volume.Any later = later
or_later (volume.Serial text) later = volume.Serial text
or_later (volume.OfName text) later = volume.OfName text
or_later (volume.OfDd dd) later = volume.OfDd dd

-- two answers as one
abbrev pub with_later : Result VolumeName Cause → Result VolumeName Cause → Result VolumeName Cause
with_later volume later = either (both volume later)
  where
    either : Result (VolumeName × VolumeName) Cause → Result VolumeName Cause
    either (Ok found) = Ok (or_later found.0 found.1)
    either (Err fault) = Err fault

abbrev pub named_in : List (List ℕ) → VolumeName
named_in [] = volume.Any
named_in (text ∷ places) = or_later (volume_place text (keyword_of text)).value (named_in places)

abbrev pub first_named : List (List ℕ) → Read VolumeName
first_named places = record { value = named_in places; faults = flat_map (λ text. (volume_place text (keyword_of text)).faults) places }

abbrev pub volume_of_places : List (List ℕ) → Read VolumeName
volume_of_places places = and_faults (first_named places) (together_faults (codes "SER") (codes "REF") places)

abbrev pub volume_name : List ℕ → Read VolumeName
volume_name text = volume_of_places (subparameters_of text)
