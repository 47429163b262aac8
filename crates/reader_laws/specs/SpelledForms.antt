-- Of what the spelling of a session is made. (This profile)
use Rattle.std.specs.Prelude.{ℕ, ◌==◌, Bool, false, not, ◌&&◌, nat_eq, nat_le, List, [], ◌∷◌, ◌++◌, length, filter, codes}
use Rattle.std.specs.List.{list_all, slice_split, starts_with}
use Rattle.std.specs.Str.{bytes_eq}
use Rattle.reader_laws.specs.Spelled.{component_characters, is_among, number_with_zeros}
use Rattle.reader_laws.specs.WrittenCards.{blanks}

-- what a writer may choose: the blanks before a field, one or more; those at the line's end; zeros before a number; that `*1` is left out, that a
-- range of one track is written as that track, and that hexadecimal digits are in lower case; and that carriage returns stand before line feeds
pub record Form : Type 0 where
  pub more_blanks : ℕ
  pub blanks_behind : ℕ
  pub zeros : ℕ
  pub short : Bool
  pub returns : Bool

abbrev pub number : Form → ℕ → List ℕ
number form n = number_with_zeros form.zeros n

abbrev pub spaced : Form → List (List ℕ) → List ℕ
spaced form [] = blanks form.blanks_behind
spaced form (field ∷ fields) = 32 ∷ (blanks form.more_blanks ++ (field ++ spaced form fields))

abbrev pub line_with : Form → List (List ℕ) → List ℕ
line_with form fields = codes "./" ++ spaced form fields

-- one to so many characters of these
abbrev pub is_word : ℕ → List ℕ → List ℕ → Bool
is_word most characters [] = false
is_word most characters (c ∷ cs) = nat_le (length (c ∷ cs)) most && list_all (is_among characters) (c ∷ cs)

abbrev pub is_serial : List ℕ → Bool
is_serial text = is_word 6 component_characters text

abbrev pub fields_in : List ℕ → List (List ℕ)
fields_in line = filter (λ field. not (length field == 0)) (slice_split (λ b. b == 32) line)

abbrev pub is_end_alone : List (List ℕ) → Bool
is_end_alone (mark ∷ word ∷ []) = bytes_eq word (codes "END")
is_end_alone _ = false

-- a line whose fields are ./ and END
abbrev pub ends_block : List ℕ → Bool
ends_block line = starts_with nat_eq line (codes "./ ") && is_end_alone (fields_in line)

-- what a line is made of: anything but line feeds and carriage returns
abbrev pub is_of_line : ℕ → Bool
is_of_line c = not (c == 10) && not (c == 13)

abbrev pub is_card : List ℕ → Bool
is_card line = list_all is_of_line line && not (ends_block line)
