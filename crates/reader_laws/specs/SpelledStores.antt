-- How the tracks of a volume, the records of a set and the requests of a program are spelled in a session. (This profile)
use Rattle.std.specs.Prelude.{◌≡◌, ◌≤◌, ◌+◌, ◌-◌, ℕ, ◌==◌, Bool, true, false, not, ◌&&◌, nat_le, nat_lt, List, [], ◌∷◌, ◌++◌, map, length, codes, if◌then◌else◌}
use Rattle.std.specs.List.{join_with_byte, list_all}
use Rattle.extent_core.specs.declared.extent.Extent.{Extent}
use Rattle.jcl_meaning.specs.declared.program.Request.{Request}
use Rattle.jcl_meaning.specs.declared.program.Request.TheVariants.{Get, Put, End, Abend}
use Rattle.jcl_plan.specs.declared.plan.TheConstants.{MOST_TRACKS}
use Rattle.jname_core.specs.Generations.{is_bad_generation}
use Rattle.reader_laws.specs.Spelled.{is_component, is_name, joined}
use Rattle.reader_laws.specs.SpelledForms.{Form, number, spaced}
use Rattle.reader_laws.specs.WrittenCards.{blanks}

-- tracks that are never free: `a-b`, or `a` for `a-a`
abbrev pub item : Form → Extent → List ℕ
item form e = if form.short && e.tracks == 1 then number form e.start else number form e.start ++ (codes "-" ++ number form (e.start + e.tracks - 1))

abbrev pub used_fields : Form → List Extent → List (List ℕ)
used_fields form [] = []
used_fields form (e ∷ es) = codes "USED" ∷ join_with_byte 44 (map (item form) (e ∷ es)) ∷ []

-- a word that stands at the end of a line, or does not
abbrev pub flag_field : List ℕ → Bool → List (List ℕ)
flag_field word stands = if stands then word ∷ [] else []

-- a request on a line of its own
abbrev pub request_line : Form → Request → List ℕ
request_line form (Get dd) = codes "GET" ++ spaced form (dd ∷ [])
request_line form (Put dd text) = codes "PUT" ++ (32 ∷ (blanks form.more_blanks ++ (dd ++ 32 ∷ text)))
request_line form (End code) = codes "CODE" ++ spaced form (number form code ∷ [])
request_line form (Abend code) = codes "ABEND" ++ spaced form (number form code ∷ [])

-- what can be spelled: tracks 0 to 3999
abbrev pub is_extent : Extent → Bool
is_extent e = nat_lt 0 e.tracks && nat_le (e.start + e.tracks) MOST_TRACKS

-- a record: 80 bytes, each 20 to 7E, hexadecimal
abbrev pub is_printable : ℕ → Bool
is_printable c = nat_le 32 c && nat_le c 126

abbrev pub is_record : List ℕ → Bool
is_record text = length text == 80 && list_all is_printable text

abbrev pub is_request : Request → Bool
is_request (Get dd) = is_name dd
is_request (Put dd text) = is_name dd && is_record text
is_request (End code) = nat_le code 4095
is_request (Abend code) = nat_le code 4095

-- the last of them alone is an end
abbrev pub is_end_of_program : Request → Bool
is_end_of_program (Get dd) = false
is_end_of_program (Put dd text) = false
is_end_of_program (End code) = true
is_end_of_program (Abend code) = true

abbrev pub is_ended : List Request → Bool
is_ended [] = false
is_ended (request ∷ []) = is_end_of_program request
is_ended (request ∷ next ∷ requests) = not (is_end_of_program request) && is_ended (next ∷ requests)

-- the name of a data set, which components make up
pub record IsSetName (most : ℕ) (text : List ℕ) : Type 0 where
  pub first : List ℕ
  pub others : List (List ℕ)
  pub text_is : text ≡ joined (first ∷ others)
  pub components : list_all is_component (first ∷ others) ≡ true
  pub fits : length text ≤ most
  pub generation : is_bad_generation text ≡ false
