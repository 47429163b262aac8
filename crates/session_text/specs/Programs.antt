-- The lines of a program. (This profile)
use Rattle.std.specs.Prelude.{ℕ, Bool, true, false, List, [], ◌∷◌, drop, codes, Option, Some, None, if◌then◌else◌}
use Rattle.std.specs.Option.{option_map}
use Rattle.std.specs.Str.{bytes_eq}
use Rattle.jname_core.specs.Decimals.{number_within}
use Rattle.jcl_meaning.specs.declared.program.Request.{Request}
use Rattle.jcl_meaning.specs.declared.program.Request.TheVariants.{Get, Put, End, Abend}
use Rattle.session_text.specs.Fields.{behind_word, fields_of, name_in, without_blanks, word_of}
use Rattle.session_text.specs.Records.{record_in}

-- `GET dd`
abbrev pub get_of : List (List ℕ) → Option Request
get_of [] = None
get_of (dd ∷ []) = option_map Get (name_in dd)
get_of (dd ∷ next ∷ fields) = None

-- `PUT dd text`: the text begins behind the one blank behind the DD name
abbrev pub put_with : Option (List ℕ) → Option (List ℕ) → Option Request
put_with None text = None
put_with (Some dd) None = None
put_with (Some dd) (Some text) = Some (Put dd text)

abbrev pub put_of : List ℕ → Option Request
put_of operands = put_with (name_in (word_of operands)) (record_in (drop 1 (behind_word operands)))

-- `CODE n` and `ABEND n`
abbrev pub code_of : List (List ℕ) → Option ℕ
code_of [] = None
code_of (n ∷ []) = number_within 0 4095 n
code_of (n ∷ next ∷ fields) = None

abbrev pub request_by : List ℕ → List ℕ → Option Request
request_by word operands =
    if bytes_eq word (codes "GET") then get_of (fields_of operands)
    else (if bytes_eq word (codes "PUT") then put_of (without_blanks operands)
    else (if bytes_eq word (codes "CODE") then option_map End (code_of (fields_of operands))
    else (if bytes_eq word (codes "ABEND") then option_map Abend (code_of (fields_of operands))
    else None)))

-- a line begins with its word
abbrev pub request_of : List ℕ → Option Request
request_of line = request_by (word_of line) (behind_word line)

abbrev pub is_ending : Request → Bool
is_ending (Get dd) = false
is_ending (Put dd text) = false
is_ending (End code) = true
is_ending (Abend code) = true

-- a program's lines: requests, of which the last alone is an end
abbrev pub last_request : Option Request → Option (List Request)
last_request None = None
last_request (Some request) = if is_ending request then Some (request ∷ []) else None

abbrev pub more_requests : Option Request → Option (List Request) → Option (List Request)
more_requests None others = None
more_requests (Some request) others = if is_ending request then None else option_map (λ requests. request ∷ requests) others

abbrev pub requests_of : List (List ℕ) → Option (List Request)
requests_of [] = None
requests_of (line ∷ []) = last_request (request_of line)
requests_of (line ∷ next ∷ lines) = more_requests (request_of line) (requests_of (next ∷ lines))
