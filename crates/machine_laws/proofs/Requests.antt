-- The requests that lines of a program spell are printable.
use Rattle.std.proofs.Common.{ℕ, List, [], ◌∷◌, drop, codes, All, Option, Some, None}
use Rattle.std.specs.Prelude.{IfSome}
use Rattle.std.specs.Option.{option_map}
use Rattle.std.specs.Str.{bytes_eq}
use Rattle.std.proofs.lemmas.List.Elements.{All-cons, All-nil}
use Rattle.jcl_meaning.specs.declared.program.Request.{Request}
use Rattle.jcl_meaning.specs.declared.program.Request.TheVariants.{Abend, End, Get}
use Rattle.line_laws.specs.Printable.{IsPrintable}
use Rattle.print_laws.specs.Printable.{IsPrintableRequest}
use Rattle.print_laws.proofs.GroupsPrintable.{either}
use Rattle.session_text.specs.Fields.{behind_word, fields_of, name_in, without_blanks, word_of}
use Rattle.session_text.specs.Programs.{code_of, get_of, is_ending, last_request, more_requests, put_of, put_with, request_by, request_of, requests_of}
use Rattle.session_text.specs.Records.{record_in}
use Rattle.machine_laws.proofs.Records.{name_in_printable, record_in_printable}

abbrev IsPrintableAsked : Option Request → Type 0
IsPrintableAsked asked = IfSome asked IsPrintableRequest

-- a request to read
got_printable : (dd : Option (List ℕ)) → IfSome dd IsPrintable → IsPrintableAsked (option_map Get dd)
got_printable None h = tt
got_printable (Some dd) h = h

get_printable : (fields : List (List ℕ)) → IsPrintableAsked (get_of fields)
get_printable [] = tt
get_printable (dd ∷ []) = got_printable (name_in dd) (name_in_printable dd)
get_printable (dd ∷ next ∷ fields) = tt

-- a request to write
written_printable : (dd text : Option (List ℕ)) → IfSome dd IsPrintable → IfSome text IsPrintable → IsPrintableAsked (put_with dd text)
written_printable None text h k = tt
written_printable (Some dd) None h k = tt
written_printable (Some dd) (Some text) h k = (h, k)

put_printable : (operands : List ℕ) → IsPrintableAsked (put_of operands)
put_printable operands =
    written_printable (name_in (word_of operands)) (record_in (drop 1 (behind_word operands)))
    (name_in_printable (word_of operands)) (record_in_printable (drop 1 (behind_word operands)))

-- an end
code_printable : (code : Option ℕ) → IsPrintableAsked (option_map End code)
code_printable None = tt
code_printable (Some code) = tt

abend_printable : (code : Option ℕ) → IsPrintableAsked (option_map Abend code)
abend_printable None = tt
abend_printable (Some code) = tt

-- by the word that a line begins with
asked_printable : (word operands : List ℕ) → IsPrintableAsked (request_by word operands)
asked_printable word operands =
    either IsPrintableAsked (bytes_eq word (codes "GET")) _ _ (get_printable (fields_of operands))
    (either IsPrintableAsked (bytes_eq word (codes "PUT")) _ _ (put_printable (without_blanks operands))
    (either IsPrintableAsked (bytes_eq word (codes "CODE")) _ _ (code_printable (code_of (fields_of operands)))
    (either IsPrintableAsked (bytes_eq word (codes "ABEND")) _ _ (abend_printable (code_of (fields_of operands))) tt)))

pub request_printable : (line : List ℕ) → IsPrintableAsked (request_of line)
request_printable line = asked_printable (word_of line) (behind_word line)

-- all the requests of a program
abbrev pub ArePrintableRequests : Option (List Request) → Type 0
ArePrintableRequests requests = IfSome requests (λ rs. All IsPrintableRequest rs)

last_printable : (asked : Option Request) → IsPrintableAsked asked → ArePrintableRequests (last_request asked)
last_printable None h = tt
last_printable (Some request) h =
    either ArePrintableRequests (is_ending request) (Some (request ∷ [])) None (All-cons IsPrintableRequest request [] h (All-nil IsPrintableRequest)) tt

before_printable : (request : Request) (others : Option (List Request)) → IsPrintableRequest request → ArePrintableRequests others →
    ArePrintableRequests (option_map (λ requests. request ∷ requests) others)
before_printable request None h k = tt
before_printable request (Some others) h k = All-cons IsPrintableRequest request others h k

more_printable : (asked : Option Request) (others : Option (List Request)) → IsPrintableAsked asked → ArePrintableRequests others →
    ArePrintableRequests (more_requests asked others)
more_printable None others h k = tt
more_printable (Some request) others h k =
    either ArePrintableRequests (is_ending request) None (option_map (λ requests. request ∷ requests) others) tt (before_printable request others h k)

pub requests_printable : (lines : List (List ℕ)) → ArePrintableRequests (requests_of lines)
requests_printable [] = tt
requests_printable (line ∷ []) = last_printable (request_of line) (request_printable line)
requests_printable (line ∷ next ∷ lines) =
    more_printable (request_of line) (requests_of (next ∷ lines)) (request_printable line) (requests_printable (next ∷ lines))
