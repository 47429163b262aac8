-- Strict reading: the first fault of a job's records. The walk goes in the order of writing, from the JCT that the queue names; arriving at a
-- record tells B1, B2, B3, B4 in this order, then B10 past a limit; in a record its fields, the lowest number first; a chain that is followed
-- to its end tells B5 where its count differs. (This profile)
use Rattle.std.specs.Prelude.{ℕ, suc, zero, ◌+◌, ◌*◌, ◌-◌, Bool, true, false, not, ◌&&◌, ◌||◌, ◌==◌, nat_le, nat_lt, min, bit_and, List, [], ◌∷◌, ◌++◌, take, drop, length, slice_index_or, Option, Some, None, is_none, Result, Ok, Err, if◌then◌else◌}
use Rattle.std.specs.List.{list_all, list_any}
use Rattle.jname_core.specs.Characters.{is_job_class, is_letter_or_digit}
use Rattle.jname_core.specs.Faults.{ds_name_fault, is_no_serial, name8_fault}
use Rattle.jname_core.specs.Generations.{has_generation_form}
use Rattle.jcl_plan.specs.declared.outcome.TheConstants.{GREATEST_CODE}
use Rattle.jcl_plan.specs.Texts.{trimmed}
use Rattle.cb_meaning.specs.declared.layout.Field.{Field}
use Rattle.cb_meaning.specs.declared.layout.Layout.{Layout}
use Rattle.cb_meaning.specs.declared.layout.TheConstants.{LAST_DAY, MOST_DAYS}
use Rattle.cb_meaning.specs.Fields.{byte_at, field, is_zero_but, number_at, number_of, part}
use Rattle.cb_meaning.specs.Spelled.{Records, card_fields, card_record, common, jct, jct_fields, jfcb, jfcb_fields, sct, sct_fields, siot, status_bytes}
use Rattle.cb_meaning.specs.Writable.{most_dds, most_tracks}

-- the faults of one record, of which the lowest is told
abbrev pub told_if : ℕ → Bool → List ℕ
told_if n true = n ∷ []
told_if n false = []

abbrev pub lower : ℕ → Option ℕ → Option ℕ
lower n None = Some n
lower n (Some m) = Some (min n m)

abbrev pub lowest : List ℕ → Option ℕ
lowest [] = None
lowest (n ∷ ns) = lower n (lowest ns)

-- what follows where there is no fault
abbrev pub unless_fault : {A : Type 0} → Option ℕ → (Unit {0} → Result A ℕ) → Result A ℕ
unless_fault (Some fault) next = Err fault
unless_fault None next = next tt

abbrev pub and_then : {A B : Type 0} → Result A ℕ → (A → Result B ℕ) → Result B ℕ
and_then (Err fault) next = Err fault
and_then (Ok a) next = next a

-- arriving at a record: a free one is of no kind and has no owner
abbrev pub is_free : Records → ℕ → Bool
is_free q n = list_any (λ f. f == n) q.free

abbrev pub kind_of : Records → ℕ → ℕ
kind_of q n = if is_free q n then 0 else byte_at (q.at n) 0

abbrev pub owner_of : Records → ℕ → ℕ
owner_of q n = if is_free q n then 0 else number_at (q.at n) (field 2 2)

abbrev pub arrival_fault : Layout → Records → ℕ → ℕ → List ℕ → ℕ → Option ℕ
arrival_fault l q job kind seen n =
    if nat_lt n 1 || nat_lt l.most_records n then Some 1
    else (if not (kind_of q n == kind) then Some 2
    else (if not (owner_of q n == job) then Some 3
    else (if list_any (λ m. m == n) seen then Some 4
    else None)))

-- names: 1 to 8 characters and blanks behind them
abbrev pub is_blank : List ℕ → Bool
is_blank text = list_all (λ c. c == 32) text

abbrev pub is_name : List ℕ → Bool
is_name text = is_none (name8_fault (trimmed text))

abbrev pub is_name_or_blank : List ℕ → Bool
is_name_or_blank text = is_blank text || is_name text

abbrev pub is_ds_name : ℕ → List ℕ → Bool
is_ds_name limit text = is_none (ds_name_fault limit (trimmed text))

abbrev pub is_serial : List ℕ → Bool
is_serial text = not (is_no_serial (trimmed text))

-- eight tests of so many bytes each
abbrev pub in_parts : ℕ → ℕ → List ℕ → List (List ℕ)
in_parts zero width bytes = []
in_parts (suc n) width bytes = take width bytes ∷ in_parts n width (drop width bytes)

abbrev pub is_bad_test : List ℕ → Bool
is_bad_test t = nat_lt (byte_at t 0) 1 || nat_lt 6 (byte_at t 0) || nat_lt GREATEST_CODE (number_of (part t 1 2))

-- a test of a step that is not earlier than the k-th
abbrev pub looks_forward : ℕ → List ℕ → Bool
looks_forward k t = nat_le k (number_of (part t 3 2))

abbrev pub are_zero : List (List ℕ) → Bool
are_zero ts = list_all (λ t. list_all (λ b. b == 0) t) ts

-- JCT
abbrev pub jct_tests : List ℕ → List (List ℕ)
jct_tests r = in_parts 8 3 (part r 26 24)

abbrev pub jct_faults : Layout → List ℕ → List ℕ
jct_faults l r =
    told_if 6 (not (is_name (part r 16 8)))
    ++ told_if 8 (nat_lt 8 (byte_at r 24) || list_any is_bad_test (take (byte_at r 24) (jct_tests r)))
    ++ told_if 11 (not (byte_at r 8 == l.number))
    ++ told_if 12 (not (is_job_class (byte_at r 9)) || nat_lt 13 (byte_at r 10) || not (is_letter_or_digit (byte_at r 11))
    || not (are_zero (drop (byte_at r 24) (jct_tests r))) || not (is_zero_but (jct_fields l) r))

-- SCT of the k-th step
abbrev pub sct_tests : List ℕ → List (List ℕ)
sct_tests r = in_parts 8 5 (part r 40 40)

abbrev pub sct_faults : Layout → ℕ → List ℕ → List ℕ
sct_faults l k r =
    told_if 6 (not (is_name_or_blank (part r 16 8)) || not (is_name_or_blank (part r 24 8)) || not (is_name (part r 32 8)))
    ++ told_if 8 (nat_lt 8 (byte_at r 15) || list_any is_bad_test (take (byte_at r 15) (sct_tests r)))
    ++ told_if 9 (list_any (looks_forward k) (take (byte_at r 15) (sct_tests r)))
    ++ told_if 12 (nat_lt 2 (byte_at r 14) || not (are_zero (drop (byte_at r 15) (sct_tests r))) || not (is_zero_but (sct_fields l) r))

-- the steps that were read, and of each which of its DDs are sets
abbrev pub is_set_at : List (List Bool) → ℕ → ℕ → Bool
is_set_at steps step dd = slice_index_or (slice_index_or steps (step - 1) []) (dd - 1) false

-- an earlier DD for a set, seen from the d-th of the k-th step
abbrev pub is_earlier_set : List (List Bool) → ℕ → ℕ → ℕ → ℕ → Bool
is_earlier_set steps k d step dd = nat_le 1 step && nat_le 1 dd && (nat_lt step k || (step == k && nat_lt dd d)) && is_set_at steps step dd

-- SIOT: the fields that its kind uses
abbrev pub is_set : List ℕ → Bool
is_set r = byte_at r 12 == 1

abbrev pub is_sysout : List ℕ → Bool
is_sysout r = byte_at r 12 == 3

abbrev pub has_cards : List ℕ → Bool
has_cards r = byte_at r 12 == 4

abbrev pub fields_if : Bool → List Field → List Field
fields_if true fields = fields
fields_if false fields = []

abbrev pub siot_fields_used : Layout → List ℕ → List Field
siot_fields_used l r = common l ++ l.next_dd ∷ field 12 1 ∷ field 16 9 ∷ status_bytes
    ∷ (fields_if (is_set r) (l.below ∷ field 13 3 ∷ field 28 1 ∷ field 34 6 ∷ [])
    ++ fields_if (is_set r && byte_at r 28 == 3) (field 30 4 ∷ [])
    ++ fields_if (is_sysout r) (field 25 1 ∷ [])
    ++ fields_if (has_cards r) (l.below ∷ l.cards ∷ []))

abbrev pub is_known_kind : List ℕ → Bool
is_known_kind r = nat_le 1 (byte_at r 12) && nat_le (byte_at r 12) 4

abbrev pub continues : List ℕ → Bool
continues r = bit_and (byte_at r 24) 1 == 1

abbrev pub has_space : List ℕ → Bool
has_space r = bit_and (byte_at r 24) 4 == 4

abbrev pub releases : List ℕ → Bool
releases r = bit_and (byte_at r 24) 2 == 2

abbrev pub set_words_bad : List ℕ → Bool
set_words_bad r = nat_lt (byte_at r 13) 1 || nat_lt 4 (byte_at r 13) || nat_lt 5 (byte_at r 14) || nat_lt 5 (byte_at r 15) || byte_at r 15 == 3

abbrev pub set_numbers_bad : ℕ → List ℕ → Bool
set_numbers_bad units r = nat_lt most_tracks (number_at r (field 34 2)) || nat_lt most_tracks (number_at r (field 36 2))
    || (not (has_space r) && (releases r || nat_lt 0 (number_at r (field 34 2)) || nat_lt 0 (number_at r (field 36 2))))
    || nat_lt units (number_at r (field 38 2)) || nat_lt 3 (byte_at r 28)

-- of a kind that is not known its name alone is asked
abbrev pub siot_faults : Layout → ℕ → List (List Bool) → ℕ → ℕ → List ℕ → List ℕ
siot_faults l units steps k d r =
    told_if 6 (if continues r then not (is_blank (part r 16 8)) else not (is_name (part r 16 8)))
    ++ told_if 7 (not (is_known_kind r) || (is_set r && set_words_bad r))
    ++ told_if 9 (is_set r && byte_at r 28 == 3 && not (is_earlier_set steps k d (number_at r (field 30 2)) (number_at r (field 32 2))))
    ++ told_if 12 (nat_lt 7 (byte_at r 24) || (continues r && d == 1) || (is_set r && set_numbers_bad units r) || (is_sysout r && not (is_letter_or_digit (byte_at r 25)))
    || (is_known_kind r && not (is_set r) && (has_space r || releases r)) || (is_known_kind r && not (is_zero_but (siot_fields_used l r) r)))

-- JFCB of a DD, whose SIOT says how its volume is found
abbrev pub is_relative : List ℕ → Bool
is_relative r = byte_at r 8 == 3

abbrev pub set_name_bad : List ℕ → Bool
set_name_bad r =
    (byte_at r 8 == 1 && (not (is_ds_name 44 (part r 12 44)) || has_generation_form (trimmed (part r 12 44))))
    || (byte_at r 8 == 2 && not (is_ds_name 44 (part r 12 44) && has_generation_form (trimmed (part r 12 44))))
    || (is_relative r && not (is_ds_name 35 (part r 12 44)))
    || (byte_at r 8 == 4 && not (is_name (part r 12 44)))
    || (byte_at r 8 == 5 && not (is_blank (part r 16 40)))

abbrev pub stems_forward : List (List Bool) → ℕ → ℕ → List ℕ → Bool
stems_forward steps k d r = byte_at r 8 == 5
    && not ((number_at r (field 12 2) == k && number_at r (field 14 2) == d) || is_earlier_set steps k d (number_at r (field 12 2)) (number_at r (field 14 2)))

-- a kind that is none, a number where there is no day, one past the last day, or too many days
abbrev pub is_no_expiry : ℕ → ℕ → Bool
is_no_expiry kind days = nat_lt 2 kind || (kind == 0 && nat_lt 0 days) || (kind == 1 && nat_lt LAST_DAY days) || (kind == 2 && nat_lt MOST_DAYS days)

abbrev pub expiry_bad : Layout → List ℕ → Bool
expiry_bad l r = is_no_expiry (number_at r l.expiry_kind) (number_at r l.expiry_days)

abbrev pub jfcb_faults : Layout → List (List Bool) → ℕ → ℕ → List ℕ → List ℕ → List ℕ
jfcb_faults l steps k d s r =
    told_if 6 (set_name_bad r || (if byte_at s 28 == 1 then not (is_serial (part r 56 6)) else not (is_blank (part r 56 6)))
    || (if byte_at s 28 == 2 then not (is_ds_name 44 (part r 62 44)) else not (is_blank (part r 62 44))))
    ++ told_if 9 (stems_forward steps k d r)
    ++ told_if 12 (nat_lt (byte_at r 8) 1 || nat_lt 5 (byte_at r 8) || (is_relative r && (nat_lt 1 (byte_at r 9) || nat_lt 255 (number_at r (field 10 2))))
    || (not (is_relative r) && not (list_all (λ b. b == 0) (part r 9 3))) || expiry_bad l r || not (is_zero_but (jfcb_fields l) r))

-- records of cards
abbrev pub are_printable : List ℕ → Bool
are_printable text = list_all (λ c. nat_le 32 c && nat_le c 126) text

abbrev pub card_faults : Layout → List ℕ → List ℕ
card_faults l r =
    told_if 12 (nat_lt (byte_at r 10) 1 || nat_lt 2 (byte_at r 10) || not (are_printable (part r 16 80))
    || (byte_at r 10 == 2 && not (are_printable (part r 96 80))) || (byte_at r 10 == 1 && not (list_all (λ b. b == 0) (part r 96 80)))
    || not (is_zero_but (card_fields l) r))

-- The walk. Each record is met once, so that no chain is longer than there are records. It answers with the numbers that were met.
unfoldable pub walk_cards : Layout → Records → ℕ → ℕ → ℕ → ℕ → List ℕ → ℕ → Result (List ℕ) ℕ
walk_cards l q job zero stated read seen n = Err 4
walk_cards l q job (suc fuel) stated read seen n =
    if n == 0 then (if read == stated then Ok seen else Err 5)
    else unless_fault (arrival_fault l q job card_record seen n) (λ _.
    unless_fault (lowest (card_faults l (q.at n))) (λ _.
    if nat_lt stated (read + byte_at (q.at n) 10) then Err 10
    else walk_cards l q job fuel stated (read + byte_at (q.at n) 10) (n ∷ seen) (number_at (q.at n) l.next_cards)))

abbrev pub walk_jfcb : Layout → Records → ℕ → List (List Bool) → ℕ → ℕ → List ℕ → List ℕ → ℕ → Result (List ℕ) ℕ
walk_jfcb l q job steps k d s seen n =
    unless_fault (arrival_fault l q job jfcb seen n) (λ _. unless_fault (lowest (jfcb_faults l steps k d s (q.at n))) (λ _. Ok (n ∷ seen)))

-- what stands below an SIOT
abbrev pub walk_below : Layout → Records → ℕ → ℕ → List (List Bool) → ℕ → ℕ → List ℕ → List ℕ → Result (List ℕ) ℕ
walk_below l q job fuel steps k d r seen =
    if is_set r then walk_jfcb l q job steps k d r seen (number_at r l.below)
    else (if has_cards r then walk_cards l q job fuel (number_at r l.cards) 0 seen (number_at r l.below) else Ok seen)

-- the steps that were read, with one DD more of the last
abbrev pub with_dds : List (List Bool) → List Bool → List (List Bool)
with_dds steps dds = steps ++ dds ∷ []

unfoldable pub walk_dds : Layout → ℕ → Records → ℕ → ℕ → ℕ → List (List Bool) → List Bool → List ℕ → ℕ → Result (List Bool × List ℕ) ℕ
walk_dds l units q job zero stated steps dds seen n = Err 4
walk_dds l units q job (suc fuel) stated steps dds seen n =
    if n == 0 then (if length dds == stated then Ok (dds, seen) else Err 5)
    else unless_fault (arrival_fault l q job siot seen n) (λ _.
    if length dds == most_dds then Err 10
    else unless_fault (lowest (siot_faults l units (with_dds steps dds) (length steps + 1) (length dds + 1) (q.at n))) (λ _.
    and_then (walk_below l q job (suc fuel) (with_dds steps dds) (length steps + 1) (length dds + 1) (q.at n) (n ∷ seen)) (λ met.
    walk_dds l units q job fuel stated steps (dds ++ is_set (q.at n) ∷ []) met (number_at (q.at n) l.next_dd))))

unfoldable pub walk_steps : Layout → ℕ → Records → ℕ → ℕ → ℕ → List (List Bool) → List ℕ → ℕ → Result (List ℕ) ℕ
walk_steps l units q job zero stated steps seen n = Err 4
walk_steps l units q job (suc fuel) stated steps seen n =
    if n == 0 then (if length steps == stated then Ok seen else Err 5)
    else unless_fault (arrival_fault l q job sct seen n) (λ _.
    if length steps == l.most_steps then Err 10
    else unless_fault (lowest (sct_faults l (length steps + 1) (q.at n))) (λ _.
    and_then (walk_dds l units q job (l.most_records + 1) (number_at (q.at n) l.dds) steps [] (n ∷ seen) (number_at (q.at n) l.first_dd)) (λ read.
    walk_steps l units q job fuel stated (with_dds steps read.0) read.1 (number_at (q.at n) l.next_step))))

abbrev pub walk_job : Layout → ℕ → Records → ℕ → ℕ → Result (List ℕ) ℕ
walk_job l units q job n =
    unless_fault (arrival_fault l q job jct [] n) (λ _.
    unless_fault (lowest (jct_faults l (q.at n))) (λ _.
    if number_at (q.at n) l.first_step == 0 then Err 5
    else walk_steps l units q job (l.most_records + 1) (number_at (q.at n) l.steps) [] (n ∷ []) (number_at (q.at n) l.first_step)))

-- The number n of the fault Bn that strict reading tells first of the job whose JCT has this number, or none.
abbrev pub fault_told : {A : Type 0} → Result A ℕ → Option ℕ
fault_told (Ok a) = None
fault_told (Err fault) = Some fault

abbrev pub first_fault : Layout → ℕ → Records → ℕ → ℕ → Option ℕ
first_fault l units q job n = fault_told (walk_job l units q job n)
