use Rattle.std.proofs.Common.{◌≡◌, ◌-◌, ◌<◌, ◌∙◌, ap, arith, get_or, get_or-set_same, length, sym, subst}
use Rattle.std.specs.Prelude.{slice_set}
use Rattle.record_spans.specs.Spans.{IsIn, no_span}
use Rattle.record_spans.proofs.spans.Spans.widen.Goals as goal

pub returns-then-place-len-clause-further : goal.returns-then-place-len-clause-further
returns-then-place-len-clause-further c = λ here.
    let xs = c.self.inside.spans.items in
    let whole = c.self.inside.spans.ok.0 in
    let len = c.len.ensures in
    let more = c.if-place-len.true in
    let there : c.from-place.result < length xs = omega (arith, more, len, whole) in
    let read : get_or (slice_set xs c.from-place.result c.widened.result) c.args.owner no_span ≡ c.widened.result =
    ap (λ i. get_or (slice_set xs c.from-place.result c.widened.result) i no_span) (sym c.from-place.ensures)
    ∙ get_or-set_same xs c.from-place.result c.widened.result no_span there in
    subst (λ s. IsIn s (c.args.n - 1)) (sym read) (c.widened.ensures.new (c.args.n - 1) (omega (arith, c.requires)))
