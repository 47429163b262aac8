-- The fields of a statement, and their values. (This profile)
use Rattle.std.specs.Prelude.{◌≡◌, ℕ, ◌+◌, Bool, true, false, not, ◌==◌, nat_eq, List, [], ◌∷◌, length, filter, take, take_while, drop, codes, Option, Some, None, is_none, if◌then◌else◌}
use Rattle.std.specs.List.{list_any, position, slice_split, starts_with}
use Rattle.std.specs.Str.{bytes_eq}
use Rattle.jname_core.specs.Characters.{is_letter_or_digit}
use Rattle.jname_core.specs.Decimals.{number_within}
use Rattle.jname_core.specs.Faults.{ds_name_fault, is_no_serial, name8_fault}

-- blanks stand between fields
abbrev pub fields_of : List ℕ → List (List ℕ)
fields_of line = filter (λ field. not (length field == 0)) (slice_split (λ b. b == 32) line)

-- a statement's first field is exactly this
abbrev pub is_marked : List ℕ → Bool
is_marked line = starts_with nat_eq line (codes "./ ")

-- what stands before the first blank, and what stands from it on
abbrev pub word_of : List ℕ → List ℕ
word_of text = take_while (λ b. not (b == 32)) text

abbrev pub behind_word : List ℕ → List ℕ
behind_word text = drop (length (word_of text)) text

-- without the blanks that it begins with
abbrev pub without_blanks : List ℕ → List ℕ
without_blanks text = drop (length (take_while (λ b. b == 32) text)) text

-- whether a word stands at the end of a statement, where nothing else may
abbrev pub flag_of : List ℕ → List (List ℕ) → Option Bool
flag_of word [] = Some false
flag_of word (field ∷ []) = if bytes_eq field word then Some true else None
flag_of word (field ∷ next ∷ fields) = None

-- names and serials
abbrev pub name_in : List ℕ → Option (List ℕ)
name_in text = if is_none (name8_fault text) then Some text else None

abbrev pub serial_in : List ℕ → Option (List ℕ)
serial_in text = if is_no_serial text then None else Some text

-- the name of a data set, and the base of a group
abbrev pub set_name_in : List ℕ → Option (List ℕ)
set_name_in text = if is_none (ds_name_fault 44 text) then Some text else None

abbrev pub base_in : List ℕ → Option (List ℕ)
base_in text = if is_none (ds_name_fault 35 text) then Some text else None

-- the class of a writer is a letter or a digit
abbrev pub class_of : List ℕ → Option ℕ
class_of [] = None
class_of (c ∷ []) = if is_letter_or_digit c then Some c else None
class_of (c ∷ d ∷ more) = None

-- `x` or `x*n`: what stands before the first star, and how many times
abbrev pub repeated : Option ℕ → List ℕ → List ℕ
repeated None text = text
repeated (Some star) text = take star text

abbrev pub times_at : Option ℕ → List ℕ → Option ℕ
times_at None text = Some 1
times_at (Some star) text = number_within 1 9999 (drop (star + 1) text)

abbrev pub star_in : List ℕ → Option ℕ
star_in text = position (λ b. b == 42) text

abbrev pub before_star : List ℕ → List ℕ
before_star text = repeated (star_in text) text

abbrev pub times_in : List ℕ → Option ℕ
times_in text = times_at (star_in text) text

-- items in a list, with commas between them
abbrev pub listed_in : List ℕ → List (List ℕ)
listed_in text = slice_split (λ b. b == 44) text

-- one of the items is no serial
abbrev pub has_faulty_serial : List ℕ → Bool
has_faulty_serial text = list_any is_no_serial (listed_in text)

-- the items, each of which is a serial
abbrev pub AreSerialsIn : List ℕ → List (List ℕ) → Type 0
AreSerialsIn text serials = (serials ≡ listed_in text) × (has_faulty_serial text ≡ false)
