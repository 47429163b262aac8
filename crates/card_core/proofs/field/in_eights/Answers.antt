use Rattle.std.proofs.Common.{◌≡◌, ◌≤◌, ◌+◌, ◌-◌, length, drop, take, ap, sym, ◌∙◌, arith}
use Rattle.std.specs.List.{list_any}
use Rattle.card_core.proofs.Words.{eight_more, is_stop}
use Rattle.card_core.proofs.field.in_eights.Goals as goal

pub loop-count-preserved : goal.loop-count-preserved
loop-count-preserved c =
    let text = c.args.text.now in
    let count = c.loop-count.count in
    let fits : count + 8 ≤ length text = omega arith in
    let eight : 8 ≡ count + 8 - count = omega arith in
    let none = ap (λ n. list_any is_stop (take n (drop count text))) eight ∙ sym c.has_stop.ensures ∙ c.if-not-has_stop.true in
    (eight_more text count fits c.loop-count.invariant.0 none, fits)
