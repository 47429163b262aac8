use Rattle.std.proofs.Common.{◌++◌, ◌∷◌, [], ℕ, List, ap, ◌∙◌, subst, sym}
use Rattle.jcl_meaning.specs.declared.program.Request.{Request}
use Rattle.kept_requests.specs.declared.requests.Head.{Head}
use Rattle.kept_requests.specs.Heads.{AreParts, head_of, requests_of}
use Rattle.kept_requests.proofs.Parts.{one_more_part, one_more_request}
use Rattle.kept_requests.proofs.requests.Requests.push.Goals as goal

pub returns-clause-ok : goal.returns-clause-ok
returns-clause-ok c =
    let heads = c.self.inside.heads.items in
    ap (λ (hs : List Head). requests_of hs c.push_parts.new.texts) c.in_ok-push_parts.ensures.heads
    ∙ ap (λ (ts : List (List ℕ)). requests_of (heads ++ head_of c.args.request ∷ []) ts) c.in_ok-push_parts.ensures.texts
    ∙ one_more_request heads c.self.inside.texts c.args.request c.self.invariant.as_many
    ∙ ap (λ (rs : List Request). rs ++ c.args.request ∷ []) c.self.view_is

pub invariant_of-self-2 : goal.invariant_of-self-2
invariant_of-self-2 c =
    subst (λ (hs : List Head). AreParts hs c.push_parts.new.texts) (sym c.in_ok-push_parts.ensures.heads)
    (subst (λ (ts : List (List ℕ)). AreParts (c.self.inside.heads.items ++ head_of c.args.request ∷ []) ts) (sym c.in_ok-push_parts.ensures.texts)
    (one_more_part c.self.inside.heads.items c.self.inside.texts c.args.request c.self.invariant c.is_request.ensures))
