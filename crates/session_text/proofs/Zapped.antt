-- The parts of a zap, and its bytes.
use Rattle.std.proofs.Common.{◌≡◌, ◌<◌, ◌*◌, ℕ, Bool, true, false, ◌&&◌, ◌==◌, cond, List, [], ◌∷◌, Option, Some, None, Result, Ok, Err, length, nat_le, refl, sym, ap, ◌∙◌, arith}
use Rattle.std.specs.Result.{result_ok}
use Rattle.std.proofs.lemmas.List.Splits.{length-slice_split}
use Rattle.hex.specs.Hex.{decode_of}
use Rattle.hex.specs.declared.error.FromHexError.{FromHexError}
use Rattle.hex.proofs.HexLemmas.{decode_of-ok}
use Rattle.cb_meaning.specs.declared.layout.TheConstants.{QUEUE_LAYOUT}
use Rattle.session_input.specs.declared.event.TheConstants.{FIRST_OPEN, MOST_ZAPPED}
use Rattle.jname_core.specs.Decimals.{number_within}
use Rattle.session_text.specs.Fields.{listed_in}
use Rattle.session_text.specs.Rows.{only_of, three_of}
use Rattle.session_text.specs.Statements.{bytes_in, zap_by, zap_of, zap_with, zap_within}
use Rattle.session_text.specs.Zaps.{few_of, last_open}
use Rattle.session_text.proofs.Blanks.{only_field_is}

-- a list has a part behind three where a comma stands behind the third
more_than_three : (x y z : List ℕ) (parts : List (List ℕ)) → 0 < length parts → None ≡ three_of (x ∷ y ∷ z ∷ parts)
more_than_three x y z [] h = absurd (omega arith)
more_than_three x y z (part ∷ parts) h = refl

pub four_parts : (text x y z rest : List ℕ) → listed_in text ≡ x ∷ y ∷ z ∷ listed_in rest → None ≡ three_of (listed_in text)
four_parts text x y z rest h =
    more_than_three x y z (listed_in rest) (omega (arith, length-slice_split (λ b. b == 44) rest)) ∙ ap three_of (sym h)

three_parts_are : (parts : List (List ℕ)) (three : List ℕ × List ℕ × List ℕ) → three_of parts ≡ Some three → parts ≡ three.0 ∷ three.1 ∷ three.2 ∷ []
three_parts_are [] three h = absurd cc
three_parts_are (x ∷ []) three h = absurd cc
three_parts_are (x ∷ y ∷ []) three h = absurd cc
three_parts_are (x ∷ y ∷ z ∷ []) three h =
    let are : (x, y, z) ≡ three = cc in ap (λ (p : List ℕ × List ℕ × List ℕ). p.0 ∷ p.1 ∷ p.2 ∷ []) are
three_parts_are (x ∷ y ∷ z ∷ part ∷ parts) three h = absurd cc

-- more digits than any zap has
not_few : (n : ℕ) → 32 < n → nat_le n 32 ≡ false
not_few n h = grind (arith)

pub too_many : (digits : List ℕ) → 64 < length digits → None ≡ few_of (bytes_in digits)
too_many digits h = by (decode_of digits) refl
  where
    by : (r : Result (List ℕ) FromHexError) → decode_of digits ≡ r → None ≡ few_of (result_ok r)
    by (Ok bytes) e =
        let twice : length digits ≡ 2 * length bytes = (decode_of-ok digits bytes e).2 in
        ap (λ (b : Bool). cond b (Some bytes) None) (sym (not_few (length bytes) (omega arith)))
    by (Err error) e = refl

-- too many bytes are none that a zap writes
second_fails : (a b c : Bool) → b ≡ false → (a && b && c) ≡ false
second_fails true b c h = rw h refl
second_fails false b c h = refl

few_by : (b : Bool) (n offset : ℕ) (bytes : List ℕ) → nat_le (length bytes) MOST_ZAPPED ≡ b →
    zap_with (Some n) (Some offset) (cond b (Some bytes) None) ≡ zap_within n offset bytes
few_by true n offset bytes h = refl
few_by false n offset bytes h = rw (second_fails _ (nat_le (length bytes) MOST_ZAPPED) _ h) refl

few_is : (n offset : Option ℕ) (bytes : Option (List ℕ)) → zap_with n offset (few_of bytes) ≡ zap_with n offset bytes
few_is None offset bytes = refl
few_is (Some n) None bytes = refl
few_is (Some n) (Some offset) None = refl
few_is (Some n) (Some offset) (Some bytes) = few_by (nat_le (length bytes) MOST_ZAPPED) n offset bytes refl

pub zap_kept : (fields : List (List ℕ)) (operand : List ℕ) (three : List ℕ × List ℕ × List ℕ) → only_of fields ≡ Some operand →
    three_of (listed_in operand) ≡ Some three →
    zap_with (number_within 1 QUEUE_LAYOUT.most_records three.0) (number_within FIRST_OPEN last_open three.1) (few_of (bytes_in three.2)) ≡ zap_of fields
zap_kept fields operand three one h =
    few_is _ _ (bytes_in three.2) ∙ ap zap_by (sym (three_parts_are (listed_in operand) three h)) ∙ ap zap_of (sym (only_field_is fields operand one))
