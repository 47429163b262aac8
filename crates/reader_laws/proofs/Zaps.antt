-- A zap as it is spelled.
use Rattle.std.proofs.Common.{◌≡◌, ◌≤◌, ◌<◌, ◌^◌, ◌-◌, ◌/◌, ◌%◌, ◌++◌, ℕ, zero, suc, Bool, true, false, ◌==◌, cond, List, [], ◌∷◌, Option, Some, Result, not, length, slice_index, refl, ap, ◌∙◌, arith}
use Rattle.std.specs.Result.{result_ok}
use Rattle.std.specs.List.{join_with_byte, list_all, slice_split}
use Rattle.std.proofs.lemmas.Bool.{and_parts, ltb-true}
use Rattle.std.proofs.lemmas.List.Splits.{slice_split_at, slice_split_none}
use Rattle.hex.specs.Hex.{IsBytes, encode_lower, encode_upper, encode_with, lower_digits, upper_digits}
use Rattle.hex.specs.declared.error.FromHexError.{FromHexError}
use Rattle.hex.proofs.HexLemmas.{decode_of-encode_lower, decode_of-encode_upper}
use Rattle.cb_meaning.specs.declared.layout.TheConstants.{QUEUE_LAYOUT, RECORD_BYTES}
use Rattle.session_input.specs.declared.event.Event.TheVariants as event
use Rattle.session_input.specs.declared.event.TheConstants.{FIRST_OPEN}
use Rattle.jname_core.specs.Characters.{is_digit}
use Rattle.jname_core.specs.Decimals.{number_within}
use Rattle.session_text.specs.declared.statement.Says.TheVariants as says
use Rattle.session_text.specs.Statements.{bad, bytes_in, stays_within, zap_by, zap_with}
use Rattle.reader_laws.specs.SpelledForms.{Form, number}
use Rattle.reader_laws.specs.SpelledSessions.{hex_digits, is_byte, zap_parts}
use Rattle.reader_laws.specs.WrittenCards.{is_empty}
use Rattle.reader_laws.proofs.Fields.{is_false, none_pass}
use Rattle.reader_laws.proofs.Said.{all_both, before_something, both, each, is_good, is_good_field, number_good, number_spells}
use Rattle.reader_laws.proofs.Decimals.{within_is}

abbrev is_no_comma : ℕ → Bool
is_no_comma c = not (c == 44)

-- hexadecimal digits
entry_passes : (p : ℕ → Bool) (table : List ℕ) (k : ℕ) → list_all p table ≡ true → p 0 ≡ true → p (slice_index table k) ≡ true
entry_passes p [] k h past = past
entry_passes p (c ∷ table) zero h past = (and_parts (p c) (list_all p table) h).0
entry_passes p (c ∷ table) (suc k) h past = entry_passes p table k (and_parts (p c) (list_all p table) h).1 past

encoded_pass : (p : ℕ → Bool) (table bytes : List ℕ) → list_all p table ≡ true → p 0 ≡ true → list_all p (encode_with table bytes) ≡ true
unfolding encode_with
encoded_pass p table [] h past = refl
encoded_pass p table (b ∷ bytes) h past =
    both (p (slice_index table (b / 16))) _ (entry_passes p table (b / 16) h past)
    (both (p (slice_index table (b % 16))) _ (entry_passes p table (b % 16) h past) (encoded_pass p table bytes h past))

digits_pass : (p : ℕ → Bool) (form : Form) (bytes : List ℕ) → list_all p lower_digits ≡ true → list_all p upper_digits ≡ true → p 0 ≡ true →
    list_all p (hex_digits form bytes) ≡ true
digits_pass p form bytes lower upper past = by form.short
  where
    by : (short : Bool) → list_all p (cond short (encode_lower bytes) (encode_upper bytes)) ≡ true
    by true = encoded_pass p lower_digits bytes lower past
    by false = encoded_pass p upper_digits bytes upper past

bytes_are : (bytes : List ℕ) → list_all is_byte bytes ≡ true → IsBytes bytes
bytes_are bytes h = λ i. ltb-true (slice_index bytes i) 256 (entry_passes is_byte bytes i h refl)

digits_read : (form : Form) (bytes : List ℕ) → list_all is_byte bytes ≡ true → bytes_in (hex_digits form bytes) ≡ Some bytes
digits_read form bytes h = by form.short
  where
    by : (short : Bool) → bytes_in (cond short (encode_lower bytes) (encode_upper bytes)) ≡ Some bytes
    by true = ap (λ (r : Result (List ℕ) FromHexError). result_ok r) (decode_of-encode_lower bytes (bytes_are bytes h))
    by false = ap (λ (r : Result (List ℕ) FromHexError). result_ok r) (decode_of-encode_upper bytes (bytes_are bytes h))

-- three parts with commas between them
digit_no_comma : (c : ℕ) → is_digit c ≡ true → is_no_comma c ≡ true
digit_no_comma c h = grind (arith)

number_no_comma : (form : Form) (n : ℕ) → n < 2 ^ 64 → list_all is_no_comma (number form n) ≡ true
number_no_comma form n h = each is_digit is_no_comma (number form n) digit_no_comma (number_spells form n h).digits_all

parts_listed : (x y z : List ℕ) → list_all is_no_comma x ≡ true → list_all is_no_comma y ≡ true → list_all is_no_comma z ≡ true →
    slice_split (λ c. c == 44) (join_with_byte 44 (x ∷ y ∷ z ∷ [])) ≡ x ∷ y ∷ z ∷ []
parts_listed x y z h k l =
    slice_split_at (λ c. c == 44) x 44 (join_with_byte 44 (y ∷ z ∷ [])) (none_pass (λ c. c == 44) x h) refl
    ∙ ap (λ (parts : List (List ℕ)). x ∷ parts) (slice_split_at (λ c. c == 44) y 44 z (none_pass (λ c. c == 44) y k) refl)
    ∙ ap (λ (parts : List (List ℕ)). x ∷ y ∷ parts) (slice_split_none (λ c. c == 44) z (none_pass (λ c. c == 44) z l))

parts_good : (x y z : List ℕ) → is_good_field x ≡ true → list_all is_good y ≡ true → list_all is_good z ≡ true →
    is_good_field (join_with_byte 44 (x ∷ y ∷ z ∷ [])) ≡ true
parts_good x y z h k l =
    let halves = and_parts (list_all is_good x) (not (is_empty x)) h in
    both (list_all is_good (x ++ 44 ∷ (y ++ 44 ∷ z))) (not (is_empty (x ++ 44 ∷ (y ++ 44 ∷ z))))
    (all_both is_good x (44 ∷ (y ++ 44 ∷ z)) halves.0 (all_both is_good y (44 ∷ z) k l))
    (ap not (before_something x (44 ∷ (y ++ 44 ∷ z)) (is_false (is_empty x) halves.1)))

pub zap_good : (form : Form) (n offset : ℕ) (bytes : List ℕ) → n < 2 ^ 64 → offset < 2 ^ 64 →
    is_good_field (join_with_byte 44 (zap_parts form n offset bytes)) ≡ true
zap_good form n offset bytes h k =
    let digits = and_parts (list_all is_good (number form offset)) (not (is_empty (number form offset))) (number_good form offset k) in
    parts_good (number form n) (number form offset) (hex_digits form bytes) (number_good form n h) digits.0
    (digits_pass is_good form bytes refl refl refl)

pub zap_read : (form : Form) (n offset : ℕ) (bytes : List ℕ) → 1 ≤ n → n ≤ QUEUE_LAYOUT.most_records → FIRST_OPEN ≤ offset → offset ≤ RECORD_BYTES - 1 →
    list_all is_byte bytes ≡ true → stays_within offset (length bytes) ≡ true →
    zap_by (slice_split (λ c. c == 44) (join_with_byte 44 (zap_parts form n offset bytes))) ≡ says.Events (event.Zap n offset bytes) 1
zap_read form n offset bytes low high first last are stays =
    let most : n ≤ 65536 = high in
    let inside : offset ≤ 175 = last in
    let digits : List ℕ = hex_digits form bytes in
    ap zap_by (parts_listed (number form n) (number form offset) digits (number_no_comma form n (omega arith))
    (number_no_comma form offset (omega arith)) (digits_pass is_no_comma form bytes refl refl refl))
    ∙ ap (λ (m : Option ℕ). zap_with m (number_within FIRST_OPEN (RECORD_BYTES - 1) (number form offset)) (bytes_in digits))
    (within_is form.zeros 1 QUEUE_LAYOUT.most_records n (omega arith) low high)
    ∙ ap (λ (m : Option ℕ). zap_with (Some n) m (bytes_in digits)) (within_is form.zeros FIRST_OPEN (RECORD_BYTES - 1) offset (omega arith) first last)
    ∙ ap (λ (found : Option (List ℕ)). zap_with (Some n) (Some offset) found) (digits_read form bytes are)
    ∙ ap (λ (b : Bool). cond b (says.Events (event.Zap n offset bytes) 1) bad) stays
