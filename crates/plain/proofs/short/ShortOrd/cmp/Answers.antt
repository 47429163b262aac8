use Rattle.std.proofs.Common.{◌≡◌, ◌+◌, ◌-◌, nat_cmp, length, take, ◌∙◌, sym, arith}
use Rattle.std.specs.Ordering.{ordering_then}
use Rattle.std.specs.Cmp.Lexicographic.{slice_cmp}
use Rattle.std.proofs.lemmas.List.{length-take-le}
use Rattle.plain.proofs.Words.{padded}
use Rattle.plain.proofs.short.ShortOrd.cmp.Goals as goal

pub returns : goal.returns
returns g c =
    let s = c.self.inside in
    let t = c.other.inside in
    let xs = take s.len s.bytes in
    let ys = take t.len t.bytes in
    let as_long : length xs ≡ s.len = length-take-le s.len s.bytes (omega (arith, c.self.invariant.0, c.self.invariant.1)) in
    let as_long' : length ys ≡ t.len = length-take-le t.len t.bytes (omega (arith, c.other.invariant.0, c.other.invariant.1)) in
    let room : length xs + (g.row.N - s.len) ≡ length ys + (g.row.N - t.len) =
    omega (arith, as_long, as_long', c.self.invariant.0, c.other.invariant.0) in
    c.then.ensures
    ∙ (λ k. ordering_then (c.order.ensures k) (c.cmp.ensures k))
    ∙ (λ k. ordering_then (slice_cmp nat_cmp (c.self.invariant.2 k) (c.other.invariant.2 k)) (nat_cmp (sym as_long k) (sym as_long' k)))
    ∙ padded xs ys (g.row.N - s.len) (g.row.N - t.len) room
    ∙ (λ k. slice_cmp nat_cmp (c.self.view_is k) (c.other.view_is k))
