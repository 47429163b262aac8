use Rattle.std.proofs.Common.{◌≡◌, ◌^◌, ◌<◌, get_or, arith}
use Rattle.std.proofs.lemmas.List.{get_or_read}
use Rattle.std.proofs.lemmas.Nat.{pow_pos}
use Rattle.extent_core.proofs.MaximaLemmas.{numbers_below}
use Rattle.extent_core.proofs.maxima.Maxima.first.Goals as goal

pub returns-then-index-least : goal.returns-then-index-least
returns-then-index-least c =
    let height = c.self.inside.height in
    let nodes = c.self.inside.nodes.items in
    let z : 0 < 2 ^ height = pow_pos height in
    let root : c.index.result.now ≡ get_or nodes 1 0 = get_or_read nodes 1 c.index.result.now (omega (arith, c.self.invariant.size)) c.index.ensures 0 in
    let small = c.if-index-least.true in
    rw (← c.self.view_is) (λ k l. omega (arith, numbers_below height nodes k c.self.invariant l))
