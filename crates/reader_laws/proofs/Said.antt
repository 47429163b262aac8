-- What a spelled line says.
use Rattle.std.proofs.Common.{◌≡◌, ◌≤◌, ◌<◌, ◌^◌, ◌++◌, ℕ, Bool, true, false, cond, List, [], ◌∷◌, Option, Some, None, length, refl, sym, ap, ◌∙◌, arith, subst}
use Rattle.std.specs.Prelude.{not, ◌&&◌, ◌||◌, ◌==◌, suc, zero, nat_le, nat_lt, codes}
use Rattle.std.specs.List.{join_with_byte, list_all, list_any, slice_split}
use Rattle.std.proofs.lemmas.Bool.{and_parts, eqb-true}
use Rattle.std.proofs.lemmas.List.Folds.{list_all-append}
use Rattle.std.proofs.lemmas.List.Splits.{slice_split_at, slice_split_none}
use Rattle.std.proofs.Math.Seq.{drop-append-add, take-append_seam}
use Rattle.jname_core.specs.Characters.{is_component_character, is_digit, is_letter_or_digit, is_name_character}
use Rattle.jname_core.specs.Decimals.{number_within}
use Rattle.jname_core.specs.Faults.{has_other_than, is_no_serial, unit_name_fault}
use Rattle.jname_core.specs.Faults as names
use Rattle.session_text.specs.Fields.{before_star, repeated, star_in, times_at, times_in}
use Rattle.session_text.specs.Statements.{says_by, says_in, says_of}
use Rattle.reader_laws.specs.Spelled.{component_characters, is_among, is_name, name_characters}
use Rattle.reader_laws.specs.SpelledForms.{Form, is_of_line, is_serial, is_word, line_with, number, spaced}
use Rattle.reader_laws.specs.SpelledSessions.{class_characters, is_unit, times}
use Rattle.reader_laws.specs.WrittenCards.{blanks, is_blank, is_empty}
use Rattle.reader_laws.proofs.Fields.{is_false, is_field, no_position, none_pass, position_is, spaced_are}
use Rattle.reader_laws.proofs.Names.{all_among, among_passes, name_all, neither, none_of, none_other, not_zero}
use Rattle.reader_laws.proofs.Decimals.{Spells, more_zeros, spelled, within_is}

-- what a field is made of
abbrev pub is_good : ℕ → Bool
is_good c = not (is_blank c) && is_of_line c

abbrev pub is_good_field : List ℕ → Bool
is_good_field text = list_all is_good text && not (is_empty text)

pub each : (p q : ℕ → Bool) (text : List ℕ) → ((c : ℕ) → p c ≡ true → q c ≡ true) → list_all p text ≡ true → list_all q text ≡ true
each p q [] h all = refl
each p q (c ∷ text) h all =
    let halves = and_parts (p c) (list_all p text) all in
    ap (λ (b : Bool). b && list_all q text) (h c halves.0) ∙ each p q text h halves.1

pub both : (a b : Bool) → a ≡ true → b ≡ true → (a && b) ≡ true
both a b h k = ap (λ (x : Bool). x && b) h ∙ k

pub good_is_field : (text : List ℕ) → is_good_field text ≡ true → is_field text ≡ true
good_is_field text h =
    let halves = and_parts (list_all is_good text) (not (is_empty text)) h in
    both _ (not (is_empty text)) (each is_good (λ c. not (is_blank c)) text (λ c e. (and_parts (not (is_blank c)) (is_of_line c) e).0) halves.0) halves.1

pub good_is_of_line : (text : List ℕ) → is_good_field text ≡ true → list_all is_of_line text ≡ true
good_is_of_line text h =
    each is_good is_of_line text (λ c e. (and_parts (not (is_blank c)) (is_of_line c) e).1) (and_parts (list_all is_good text) (not (is_empty text)) h).0

all_fields : (fields : List (List ℕ)) → list_all is_good_field fields ≡ true → list_all is_field fields ≡ true
all_fields [] h = refl
all_fields (field ∷ fields) h =
    let halves = and_parts (is_good_field field) (list_all is_good_field fields) h in
    both (is_field field) (list_all is_field fields) (good_is_field field halves.0) (all_fields fields halves.1)

-- a line of fields is a line
pub all_both : (p : ℕ → Bool) (xs ys : List ℕ) → list_all p xs ≡ true → list_all p ys ≡ true → list_all p (xs ++ ys) ≡ true
all_both p xs ys h k = list_all-append p xs ys ∙ both (list_all p xs) (list_all p ys) h k

blanks_of_line : (n : ℕ) → list_all is_of_line (blanks n) ≡ true
blanks_of_line zero = refl
blanks_of_line (suc n) = blanks_of_line n

pub spaced_of_line : (form : Form) (fields : List (List ℕ)) → list_all is_good_field fields ≡ true → list_all is_of_line (spaced form fields) ≡ true
spaced_of_line form [] h = blanks_of_line form.blanks_behind
spaced_of_line form (field ∷ fields) h =
    let halves = and_parts (is_good_field field) (list_all is_good_field fields) h in
    all_both is_of_line (blanks form.more_blanks) (field ++ spaced form fields) (blanks_of_line form.more_blanks)
    (all_both is_of_line field (spaced form fields) (good_is_of_line field halves.0) (spaced_of_line form fields halves.1))

pub line_of_line : (form : Form) (fields : List (List ℕ)) → list_all is_good_field fields ≡ true → list_all is_of_line (line_with form fields) ≡ true
line_of_line form fields h = spaced_of_line form fields h

-- what a line says is what its fields say
pub line_says : (form : Form) (word : List ℕ) (operands : List (List ℕ)) → list_all is_good_field (word ∷ operands) ≡ true →
    says_of (line_with form (word ∷ operands)) ≡ says_by word operands
line_says form word operands h = ap (says_in true) (spaced_are form (codes "./") (word ∷ operands) refl (all_fields (word ∷ operands) h))

-- numbers
pub digit_good : (c : ℕ) → is_digit c ≡ true → is_good c ≡ true
digit_good c h = grind (arith)

digit_no_star : (c : ℕ) → is_digit c ≡ true → not (c == 42) ≡ true
digit_no_star c h = grind (arith)

some_length : (text : List ℕ) → (length text == 0) ≡ false → not (is_empty text) ≡ true
some_length [] h = sym h
some_length (c ∷ text) h = refl

pub number_spells : (form : Form) (n : ℕ) → n < 2 ^ 64 → Spells n (number form n)
number_spells form n h = more_zeros form.zeros n _ (spelled n h)

pub number_good : (form : Form) (n : ℕ) → n < 2 ^ 64 → is_good_field (number form n) ≡ true
number_good form n h =
    let s = number_spells form n h in
    both (list_all is_good (number form n)) (not (is_empty (number form n))) (each is_digit is_good (number form n) digit_good s.digits_all)
    (some_length (number form n) s.something)

-- words of such characters
record IsWord (most : ℕ) (characters text : List ℕ) : Type 0 where
  fits : length text ≤ most
  consists : list_all (is_among characters) text ≡ true
  something : is_empty text ≡ false

at_most : (n most : ℕ) → nat_le n most ≡ true → n ≤ most
at_most n most h = grind (arith)

word_is : (most : ℕ) (characters text : List ℕ) → is_word most characters text ≡ true → IsWord most characters text
word_is most characters [] h = absurd cc
word_is most characters (c ∷ cs) h =
    let halves = and_parts (nat_le (length (c ∷ cs)) most) (list_all (is_among characters) (c ∷ cs)) h in
    record { fits = at_most (length (c ∷ cs)) most halves.0; consists = halves.1; something = refl }

pub word_good : (most : ℕ) (characters text : List ℕ) → list_all is_good characters ≡ true → is_word most characters text ≡ true → is_good_field text ≡ true
word_good most characters text good h =
    let w = word_is most characters text h in
    both (list_all is_good text) (not (is_empty text)) (all_among is_good characters text good w.consists) (ap not w.something)

not_past : (n most : ℕ) → n ≤ most → nat_lt most n ≡ false
not_past n most h = grind (arith)

not_empty : (text : List ℕ) → is_empty text ≡ false → names.is_empty text ≡ false
not_empty [] h = absurd cc
not_empty (c ∷ text) h = not_zero (length text)

pub name_good : (text : List ℕ) → is_name text ≡ true → is_good_field text ≡ true
name_good [] h = absurd cc
name_good (c ∷ cs) h = both (list_all is_good (c ∷ cs)) true (name_all is_good (c ∷ cs) refl refl h) refl

pub serial_is : (text : List ℕ) → is_serial text ≡ true → is_no_serial text ≡ false
serial_is text h =
    let w = word_is 6 component_characters text h in
    neither (names.is_empty text || nat_lt 6 (length text)) (has_other_than is_component_character text)
    (neither (names.is_empty text) (nat_lt 6 (length text)) (not_empty text w.something) (not_past (length text) 6 w.fits))
    (none_other is_component_character text (all_among is_component_character component_characters text refl w.consists))

pub unit_is : (text : List ℕ) → is_unit text ≡ true → unit_name_fault text ≡ None
unit_is text h =
    let w = word_is 8 name_characters text h in
    λ i. names.first_fault (not_empty text w.something i) (not_past (length text) 8 w.fits i)
    (none_other is_name_character text (all_among is_name_character name_characters text refl w.consists) i) false

pub no_bad_serial : (serials : List (List ℕ)) → list_all is_serial serials ≡ true → list_any is_no_serial serials ≡ false
no_bad_serial serials h = none_of is_no_serial is_serial serials serial_is h

-- serials with commas between them
no_comma : (text : List ℕ) → is_serial text ≡ true → list_all (λ c. not (c == 44)) text ≡ true
no_comma text h = all_among (λ c. not (c == 44)) component_characters text refl (word_is 6 component_characters text h).consists

pub listed_is : (serial : List ℕ) (serials : List (List ℕ)) → list_all is_serial (serial ∷ serials) ≡ true →
    slice_split (λ c. c == 44) (join_with_byte 44 (serial ∷ serials)) ≡ serial ∷ serials
listed_is serial [] h = slice_split_none (λ c. c == 44) serial (none_pass (λ c. c == 44) serial (no_comma serial (and_parts (is_serial serial) true h).0))
listed_is serial (next ∷ serials) h =
    let halves = and_parts (is_serial serial) (list_all is_serial (next ∷ serials)) h in
    slice_split_at (λ c. c == 44) serial 44 (join_with_byte 44 (next ∷ serials)) (none_pass (λ c. c == 44) serial (no_comma serial halves.0)) refl
    ∙ ap (λ (rest : List (List ℕ)). serial ∷ rest) (listed_is next serials halves.1)

serial_good : (text : List ℕ) → is_serial text ≡ true → list_all is_good text ≡ true
serial_good text h = all_among is_good component_characters text refl (word_is 6 component_characters text h).consists

joined_good : (serial : List ℕ) (serials : List (List ℕ)) → list_all is_serial (serial ∷ serials) ≡ true →
    list_all is_good (join_with_byte 44 (serial ∷ serials)) ≡ true
joined_good serial [] h = serial_good serial (and_parts (is_serial serial) true h).0
joined_good serial (next ∷ serials) h =
    let halves = and_parts (is_serial serial) (list_all is_serial (next ∷ serials)) h in
    all_both is_good serial (44 ∷ join_with_byte 44 (next ∷ serials)) (serial_good serial halves.0) (joined_good next serials halves.1)

pub before_something : (text behind : List ℕ) → is_empty text ≡ false → is_empty (text ++ behind) ≡ false
before_something [] behind h = absurd cc
before_something (c ∷ text) behind h = refl

joined_something : (serial : List ℕ) (serials : List (List ℕ)) → list_all is_serial (serial ∷ serials) ≡ true →
    is_empty (join_with_byte 44 (serial ∷ serials)) ≡ false
joined_something serial [] h = (word_is 6 component_characters serial (and_parts (is_serial serial) true h).0).something
joined_something serial (next ∷ serials) h =
    before_something serial (44 ∷ join_with_byte 44 (next ∷ serials))
    (word_is 6 component_characters serial (and_parts (is_serial serial) (list_all is_serial (next ∷ serials)) h).0).something

pub serials_good : (serial : List ℕ) (serials : List (List ℕ)) → list_all is_serial (serial ∷ serials) ≡ true →
    is_good_field (join_with_byte 44 (serial ∷ serials)) ≡ true
serials_good serial serials h = both _ _ (joined_good serial serials h) (ap not (joined_something serial serials h))

-- what stands before a star, and how many times
pub record ReadsTimes (text before : List ℕ) (n : ℕ) : Type 0 where
  pub before_is : before_star text ≡ before
  pub times_is : times_in text ≡ Some n

with_star : (text behind : List ℕ) (n : ℕ) → list_all (λ b. not (b == 42)) text ≡ true → number_within 1 9999 behind ≡ Some n →
    ReadsTimes (text ++ 42 ∷ behind) text n
with_star text behind n h k =
    let at : star_in (text ++ 42 ∷ behind) ≡ Some (length text) = position_is (λ b. b == 42) text 42 behind h refl in
    record {
      before_is = ap (λ (star : Option ℕ). repeated star (text ++ 42 ∷ behind)) at ∙ take-append_seam text (42 ∷ behind);
      times_is = ap (λ (star : Option ℕ). times_at star (text ++ 42 ∷ behind)) at
          ∙ ap (number_within 1 9999) (drop-append-add text (42 ∷ behind) 1) ∙ k;
    }

without_star : (text : List ℕ) → list_all (λ b. not (b == 42)) text ≡ true → ReadsTimes text text 1
without_star text h =
    let at : star_in text ≡ None = no_position (λ b. b == 42) text h in
    record { before_is = ap (λ (star : Option ℕ). repeated star text) at; times_is = ap (λ (star : Option ℕ). times_at star text) at }

times_by : (b short : Bool) (form : Form) (text : List ℕ) (n : ℕ) → (short && n == 1) ≡ b → list_all (λ c. not (c == 42)) text ≡ true → 1 ≤ n → n ≤ 9999 →
    ReadsTimes (cond b text (text ++ (codes "*" ++ number form n))) text n
times_by true short form text n e h k l =
    subst (ReadsTimes text text) (sym (eqb-true n 1 (and_parts short (n == 1) e).1)) (without_star text h)
times_by false short form text n e h k l = with_star text (number form n) n h (within_is form.zeros 1 9999 n (omega arith) k l)

pub times_are : (form : Form) (text : List ℕ) (n : ℕ) → list_all (λ c. not (c == 42)) text ≡ true → 1 ≤ n → n ≤ 9999 → ReadsTimes (times form text n) text n
times_are form text n h k l = times_by (form.short && n == 1) form.short form text n refl h k l

pub times_good : (form : Form) (text : List ℕ) (n : ℕ) → is_good_field text ≡ true → n ≤ 9999 → is_good_field (times form text n) ≡ true
times_good form text n h k =
    let halves = and_parts (list_all is_good text) (not (is_empty text)) h in
    let digits = and_parts (list_all is_good (number form n)) (not (is_empty (number form n))) (number_good form n (omega arith)) in
    by (form.short && n == 1) halves.0 (is_false (is_empty text) halves.1) digits.0
  where
    by : (b : Bool) → list_all is_good text ≡ true → is_empty text ≡ false → list_all is_good (number form n) ≡ true →
        is_good_field (cond b text (text ++ (codes "*" ++ number form n))) ≡ true
    by true good something digits = both (list_all is_good text) (not (is_empty text)) good (ap not something)
    by false good something digits =
        both (list_all is_good (text ++ (codes "*" ++ number form n))) (not (is_empty (text ++ (codes "*" ++ number form n))))
        (all_both is_good text (42 ∷ number form n) good digits) (ap not (before_something text (42 ∷ number form n) something))

pub number_no_star : (form : Form) (n : ℕ) → n < 2 ^ 64 → list_all (λ c. not (c == 42)) (number form n) ≡ true
number_no_star form n h = each is_digit (λ c. not (c == 42)) (number form n) digit_no_star (number_spells form n h).digits_all

-- a class is a letter or a digit
pub class_good : (class : ℕ) → is_among class_characters class ≡ true → is_good_field (class ∷ []) ≡ true
class_good class h = ap (λ (b : Bool). (b && true) && true) (among_passes is_good class_characters class refl h)

pub class_no_star : (class : ℕ) → is_among class_characters class ≡ true → list_all (λ c. not (c == 42)) (class ∷ []) ≡ true
class_no_star class h = ap (λ (b : Bool). b && true) (among_passes (λ c. not (c == 42)) class_characters class refl h)

pub class_is : (class : ℕ) → is_among class_characters class ≡ true → is_letter_or_digit class ≡ true
class_is class h = among_passes is_letter_or_digit class_characters class refl h
