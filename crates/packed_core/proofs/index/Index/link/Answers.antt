use Rattle.std.proofs.Common.{◌≡◌, ◌∙◌, ◌+◌, ◌<◌, ◌%◌, ◌++◌, ◌∷◌, [], ℕ, List, ap, arith, get_or, length, set}
use Rattle.std.specs.Vec.{with_item}
use Rattle.std.proofs.lemmas.List.{get_or_default}
use Rattle.packed_core.specs.declared.index.Index.{Index}
use Rattle.packed_core.specs.Indexed.{place_in}
use Rattle.packed_core.proofs.Indexing.{index_linked}
use Rattle.packed_core.proofs.index.Index.link.Goals as goal

pub returns-clause-linked : goal.returns-clause-linked
returns-clause-linked c rows row is its =
    let old : Index = c.args.self.now in
    let hash : ℕ = c.args.hash in
    let heads : List ℕ = old.heads.items in
    let next : List ℕ = old.next.items in
    let many : c.len.result ≡ length heads = omega (arith, c.len.ensures) in
    let place : hash % c.len.result ≡ place_in (length heads) hash = ap (λ (n : ℕ). hash % n) many in
    let within : hash % c.len.result < length heads = omega (arith, many, c.requires.some) in
    let longer : c.len-2.result ≡ length next + 1 = omega (arith, c.len-2.ensures, c.in_ok-push-2.ensures.len) in
    index_linked rows row old
    (record { hashes = c.push.new.self; heads = with_item old.heads (hash % c.len.result) c.len-2.result; next = c.push-2.new.self }) is
    hash its c.in_ok-push.ensures.items
    (c.in_ok-push-2.ensures.items
    ∙ ap (λ (k : ℕ). next ++ k ∷ []) (c.index.ensures ∙ get_or_default heads (hash % c.len.result) c.index.result.now 0 within
    ∙ ap (λ (k : ℕ). get_or heads k 0) place))
    (λ i. set heads (place i) (longer i))
