-- Requests in two lists: what each asks for, and what it puts. (This profile)
use Rattle.std.specs.Prelude.{◌≡◌, All, ℕ, List, [], ◌∷◌, Option, Some, None, length}
use Rattle.jcl_meaning.specs.WellFormed.{IsRequest}
use Rattle.jcl_meaning.specs.declared.program.Request.{Request}
use Rattle.jcl_meaning.specs.declared.program.Request.TheVariants as request
use Rattle.kept_requests.specs.declared.requests.Head.{Head}
use Rattle.kept_requests.specs.declared.requests.Head.TheVariants.{Get, Put, End, Abend}
use Rattle.set_core.specs.Texts.{filled}

-- a request of its head, and of a record, which counts for a PUT alone
abbrev pub request_with : Head → List ℕ → Request
request_with (Get dd) text = request.Get dd
request_with (Put dd) text = request.Put dd text
request_with (End code) text = request.End code
request_with (Abend code) text = request.Abend code

-- where there may be no record
abbrev pub request_by : Head → Option (List ℕ) → Option Request
request_by (Get dd) text = Some (request.Get dd)
request_by (Put dd) None = None
request_by (Put dd) (Some text) = Some (request.Put dd text)
request_by (End code) text = Some (request.End code)
request_by (Abend code) text = Some (request.Abend code)

abbrev pub requests_of : List Head → List (List ℕ) → List Request
requests_of [] texts = []
requests_of (head ∷ heads) [] = []
requests_of (head ∷ heads) (text ∷ texts) = request_with head text ∷ requests_of heads texts

-- the parts of a request; one that puts nothing has a blank record
abbrev pub head_of : Request → Head
head_of (request.Get dd) = Get dd
head_of (request.Put dd text) = Put dd
head_of (request.End code) = End code
head_of (request.Abend code) = Abend code

abbrev pub text_of : Request → List ℕ
text_of (request.Get dd) = filled []
text_of (request.Put dd text) = text
text_of (request.End code) = filled []
text_of (request.Abend code) = filled []

-- two lists that are the parts of requests
pub record AreParts (heads : List Head) (texts : List (List ℕ)) : Type 0 where
  pub as_many : length heads ≡ length texts
  pub codes : All IsRequest (requests_of heads texts)
