-- LABEL: EXPDT=yyddd, EXPDT=yyyy/ddd or RETPD=nnnn, alone or behind four places at most. (GC28-6704, LABEL parameter; yyyy/ddd is this profile's)
use Rattle.std.specs.Prelude.{ℕ, Bool, ◌||◌, ◌==◌, nat_lt, nat_le, List, [], ◌∷◌, ◌++◌, length, Option, Some, None, is_none, codes, if◌then◌else◌}
use Rattle.std.specs.List.{flat_map, list_any}
use Rattle.std.specs.Str.{bytes_eq}
use Rattle.jname_core.specs.Decimals.{number_within}
use Rattle.jcl_plan.specs.declared.fault.Cause.{Cause}
use Rattle.jcl_plan.specs.declared.fault.Cause.TheVariants.{P}
use Rattle.jcl_plan.specs.declared.fault.StatementFault.TheVariants.{BadValue}
use Rattle.jcl_plan.specs.declared.plan.Expiry.{Expiry}
use Rattle.jcl_plan.specs.declared.plan.Expiry.TheVariants as expiry
use Rattle.date_core.specs.Written.{short_day, written_day}
use Rattle.operand_core.specs.Faults.{when}
use Rattle.operand_core.specs.Operands.{behind_positional, keyword_of, is_positional, positional_parts}
use Rattle.operand_core.specs.Subparameters.{subparameters_of}
use Rattle.value_core.specs.Places.{together_faults}
use Rattle.value_core.specs.Reads.{Read}

-- the day of EXPDT: yyddd of a year from 1900 to 1999, or yyyy/ddd
abbrev pub expiry_day : List ℕ → Option ℕ
expiry_day text = if length text == 5 then short_day text else written_day text

-- the days of RETPD: one to four digits
abbrev pub period : List ℕ → Option ℕ
period text = if nat_lt 4 (length text) then None else number_within 0 9999 text

abbrev pub as_day : Option ℕ → Option Expiry
as_day None = None
as_day (Some day) = Some (expiry.Day day)

abbrev pub as_period : Option ℕ → Option Expiry
as_period None = None
as_period (Some days) = Some (expiry.DaysFromToday days)

-- what a keyword of LABEL says, where its value is a good one
abbrev pub expiry_by : List ℕ → List ℕ → Option Expiry
expiry_by key text =
    if bytes_eq key (codes "EXPDT") then as_day (expiry_day text)
    else (if bytes_eq key (codes "RETPD") then as_period (period text) else None)

abbrev pub expiry_at : Option (List ℕ × List ℕ) → Option Expiry
expiry_at None = None
expiry_at (Some found) = expiry_by found.0 found.1

abbrev pub place_faults : Option (List ℕ × List ℕ) → List Cause
place_faults None = []
place_faults (Some found) = when (is_none (expiry_by found.0 found.1)) (P BadValue)

-- a place without a keyword behind one with it, or a fifth, and no keyword at all
abbrev pub is_crowded : List (List ℕ) → Bool
is_crowded places =
    nat_lt 4 (length (positional_parts places)) || list_any is_positional (behind_positional places) || length (behind_positional places) == 0

abbrev pub label_faults_of : List (List ℕ) → List Cause
label_faults_of places =
    flat_map (λ text. place_faults (keyword_of text)) places
    ++ (when (is_crowded places) (P BadValue) ++ together_faults (codes "EXPDT") (codes "RETPD") places)

abbrev pub label_faults : List ℕ → List Cause
label_faults text = label_faults_of (subparameters_of text)

-- what the first of the places says that says something; there is one where there is no fault
abbrev pub first_expiry : Option Expiry → Expiry → Expiry
first_expiry None later = later
first_expiry (Some said) later = said

abbrev pub expiry_in : List (List ℕ) → Expiry
expiry_in [] = expiry.NotCoded
expiry_in (place ∷ places) = first_expiry (expiry_at (keyword_of place)) (expiry_in places)

abbrev pub label : List ℕ → Read Expiry
label text = record { value = expiry_in (subparameters_of text); faults = label_faults text }
