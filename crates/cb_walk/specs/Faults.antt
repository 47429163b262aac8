-- The faults of a record, as they are looked for. (This profile)
use Rattle.std.specs.Prelude.{ℕ, ◌||◌, ◌&&◌, ◌==◌, Bool, List, nat_lt, not, if◌then◌else◌}
use Rattle.std.specs.List.{list_all}
use Rattle.jname_core.specs.Characters.{is_letter_or_digit}
use Rattle.jname_core.specs.Generations.{has_generation_form}
use Rattle.jcl_plan.specs.Texts.{trimmed}
use Rattle.cb_meaning.specs.declared.layout.Layout.{Layout}
use Rattle.cb_meaning.specs.Fields.{byte_at, field, is_zero_but, number_at, part}
use Rattle.cb_meaning.specs.Spelled.{jfcb_fields}
use Rattle.cb_meaning.specs.Walks.{are_printable, continues, expiry_bad, has_space, is_blank, is_ds_name, is_earlier_set, is_known_kind, is_relative, is_serial, is_set, is_sysout, releases, set_name_bad, set_numbers_bad, siot_fields_used}

-- of a record of cards: the second card is not printable, or its place is not zero where there is one card
abbrev pub second_card_bad : List ℕ → Bool
second_card_bad r = byte_at r 10 == 2 && not (are_printable (part r 96 80)) || (byte_at r 10 == 1 && not (list_all (λ b. b == 0) (part r 96 80)))

-- of an SIOT, the d-th of the k-th step: VOL refers to a DD that is no earlier set
abbrev pub volume_forward : List (List Bool) → ℕ → ℕ → List ℕ → Bool
volume_forward steps k d r = is_set r && byte_at r 28 == 3 && not (is_earlier_set steps k d (number_at r (field 30 2)) (number_at r (field 32 2)))

-- its marks, a class that is none, numbers of a set, or a DD that continues none
abbrev pub numbers_bad : ℕ → Bool → List ℕ → Bool
numbers_bad units first r = nat_lt 7 (byte_at r 24) || (continues r && first) || (is_set r && set_numbers_bad units r)
    || (is_sysout r && not (is_letter_or_digit (byte_at r 25)))

-- the same, space where no set is, or bytes that its kind does not use
abbrev pub other_bad : Layout → ℕ → Bool → List ℕ → Bool
other_bad l units first r = nat_lt 7 (byte_at r 24) || (continues r && first) || (is_set r && set_numbers_bad units r)
    || (is_sysout r && not (is_letter_or_digit (byte_at r 25)))
    || (is_known_kind r && not (is_set r) && (has_space r || releases r)) || (is_known_kind r && not (is_zero_but (siot_fields_used l r) r))

-- of a JFCB: the name is none of a permanent set
abbrev pub permanent_name_bad : List ℕ → Bool
permanent_name_bad r =
    (byte_at r 8 == 1 && (not (is_ds_name 44 (part r 12 44)) || has_generation_form (trimmed (part r 12 44))))
    || (byte_at r 8 == 2 && not (is_ds_name 44 (part r 12 44) && has_generation_form (trimmed (part r 12 44))))

-- the serial, and the name that VOL refers to, as the SIOT has it
abbrev pub serial_bad : List ℕ → List ℕ → Bool
serial_bad s r = if byte_at s 28 == 1 then not (is_serial (part r 56 6)) else not (is_blank (part r 56 6))

abbrev pub reference_bad : List ℕ → List ℕ → Bool
reference_bad s r = if byte_at s 28 == 2 then not (is_ds_name 44 (part r 62 44)) else not (is_blank (part r 62 44))

abbrev pub names_bad : List ℕ → List ℕ → Bool
names_bad s r = set_name_bad r || serial_bad s r || reference_bad s r

-- the amount of a relative name, or bytes where there is none
abbrev pub amount_bad : List ℕ → Bool
amount_bad r = (is_relative r && (nat_lt 1 (byte_at r 9) || nat_lt 255 (number_at r (field 10 2)))) || (not (is_relative r) && not (list_all (λ b. b == 0) (part r 9 3)))

-- its kind, the amount, or bytes that it does not use
abbrev pub rest_bad : Layout → List ℕ → Bool
rest_bad l r = nat_lt (byte_at r 8) 1 || nat_lt 5 (byte_at r 8) || (is_relative r && (nat_lt 1 (byte_at r 9) || nat_lt 255 (number_at r (field 10 2))))
    || (not (is_relative r) && not (list_all (λ b. b == 0) (part r 9 3))) || expiry_bad l r || not (is_zero_but (jfcb_fields l) r)
