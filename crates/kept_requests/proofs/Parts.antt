-- Requests and their parts, place by place.
use Rattle.std.proofs.Common.{◌≡◌, ℕ, zero, suc, List, [], ◌∷◌, ◌++◌, length, Some, None, slice_get, refl, ap, ◌∙◌, sym, subst, All, arith}
use Rattle.std.proofs.lemmas.List.Elements.{All-push}
use Rattle.std.proofs.lemmas.List.{length_push}
use Rattle.std.proofs.lemmas.Option.{none-some, same_Some}
use Rattle.jcl_meaning.specs.declared.program.Request.{Request}
use Rattle.jcl_meaning.specs.declared.program.Request.TheVariants as request
use Rattle.kept_requests.specs.declared.requests.Head.{Head}
use Rattle.kept_requests.specs.declared.requests.Head.TheVariants.{Get, Put, End, Abend}
use Rattle.jcl_meaning.specs.WellFormed.{IsRequest}
use Rattle.kept_requests.specs.Heads.{AreParts, head_of, request_by, request_with, requests_of, text_of}

pub parts_of : (r : Request) → request_with (head_of r) (text_of r) ≡ r
parts_of (request.Get dd) = refl
parts_of (request.Put dd text) = refl
parts_of (request.End code) = refl
parts_of (request.Abend code) = refl

pub one_more_request : (heads : List Head) (texts : List (List ℕ)) (r : Request) → length heads ≡ length texts →
    requests_of (heads ++ head_of r ∷ []) (texts ++ text_of r ∷ []) ≡ requests_of heads texts ++ r ∷ []
one_more_request [] [] r same = ap (λ (x : Request). x ∷ []) (parts_of r)
one_more_request [] (text ∷ texts) r same = absurd (omega (arith, same))
one_more_request (head ∷ heads) [] r same = absurd (omega (arith, same))
one_more_request (head ∷ heads) (text ∷ texts) r same =
    ap (λ (rs : List Request). request_with head text ∷ rs) (one_more_request heads texts r (omega (arith, same)))

pub one_more_part : (heads : List Head) (texts : List (List ℕ)) (r : Request) → AreParts heads texts → IsRequest r →
    AreParts (heads ++ head_of r ∷ []) (texts ++ text_of r ∷ [])
one_more_part heads texts r parts is = record {
  as_many = omega (arith, parts.as_many, length_push heads (head_of r), length_push texts (text_of r));
  codes = subst (All IsRequest) (sym (one_more_request heads texts r parts.as_many)) (All-push IsRequest (requests_of heads texts) r parts.codes is);
}

pub as_many : (heads : List Head) (texts : List (List ℕ)) → length heads ≡ length texts → length (requests_of heads texts) ≡ length heads
as_many [] texts same = refl
as_many (head ∷ heads) [] same = absurd (omega (arith, same))
as_many (head ∷ heads) (text ∷ texts) same = ap suc (as_many heads texts (omega (arith, same)))

pub no_request_got : (heads : List Head) (texts : List (List ℕ)) (place : ℕ) → slice_get heads place ≡ None → slice_get (requests_of heads texts) place ≡ None
no_request_got [] texts place e = refl
no_request_got (head ∷ heads) [] place e = refl
no_request_got (head ∷ heads) (text ∷ texts) zero e = absurd (none-some head (sym e))
no_request_got (head ∷ heads) (text ∷ texts) (suc place) e = no_request_got heads texts place e

by_parts : (head : Head) (text : List ℕ) → Some (request_with head text) ≡ request_by head (Some text)
by_parts (Get dd) text = refl
by_parts (Put dd) text = refl
by_parts (End code) text = refl
by_parts (Abend code) text = refl

pub request_got : (heads : List Head) (texts : List (List ℕ)) (place : ℕ) (head : Head) → length heads ≡ length texts →
    slice_get heads place ≡ Some head → slice_get (requests_of heads texts) place ≡ request_by head (slice_get texts place)
request_got [] texts place head same e = absurd (none-some head e)
request_got (h ∷ heads) [] place head same e = absurd (omega (arith, same))
request_got (h ∷ heads) (text ∷ texts) zero head same e = by_parts h text ∙ ap (λ (x : Head). request_by x (Some text)) (same_Some h head e)
request_got (h ∷ heads) (text ∷ texts) (suc place) head same e = request_got heads texts place head (omega (arith, same)) e
