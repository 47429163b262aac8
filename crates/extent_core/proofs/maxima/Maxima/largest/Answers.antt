use Rattle.std.proofs.Common.{◌≡◌, ◌-◌, ◌/◌, ◌<◌, ◌^◌, get_or, length, arith}
use Rattle.std.proofs.lemmas.List.{get_or_read}
use Rattle.std.proofs.lemmas.Nat.{pow_pos}
use Rattle.extent_core.proofs.MaximaLemmas.{found_first, found_largest}
use Rattle.extent_core.proofs.maxima.Maxima.largest.Goals as goal

pub returns : goal.returns
returns c =
    let height = c.self.inside.height in
    let nodes = c.self.inside.nodes.items in
    let leaf = c.first_leaf-leaf.result in
    let found = c.first_leaf-leaf.ensures in
    let same : c.as_slice.result.now ≡ nodes = c.as_slice.ensures.value in
    let z : 0 < 2 ^ height = pow_pos height in
    let root : c.index.result.now ≡ get_or nodes 1 0 = get_or_read nodes 1 c.index.result.now (omega (arith, c.self.invariant.size)) c.index.ensures 0 in
    let upper : leaf < length nodes = rw (← same) found.upper in
    let place = leaf - c.len.result / 2 in
    rw (← c.self.view_is)
    (found_largest height nodes place c.self.invariant
    (found_first height nodes (get_or nodes 1 0) leaf place c.self.invariant (omega (arith, c.self.invariant.size, c.len.ensures)) found.lower upper
    (rw (← root, ← same) found.enough)
    (λ k a b. rw (← root, ← same) (found.before k a b))))
