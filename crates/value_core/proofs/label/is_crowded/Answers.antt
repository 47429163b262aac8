use Rattle.std.proofs.Common.{true, ◌∷◌, sym, ap, ◌∙◌, ◌≡◌}
use Rattle.operand_core.specs.Operands.{is_positional}
use Rattle.value_core.proofs.Crowded.{crowded_more, crowded_with, positional_from}
use Rattle.value_core.proofs.label.is_crowded.Goals as goal

pub loop-place-preserved : goal.loop-place-preserved
loop-place-preserved c =
    let positional : is_positional c.in-Some.place.now ≡ true =
    positional_from c.in-Some.place.now c.keyword_of.result c.keyword_of.ensures (sym c.is_some.ensures ∙ c.if-is_some.false) in
    ap (λ met. crowded_with met c.saturating_add-positional.result c.next.new.self) c.if-has_keyword.false
    ∙ crowded_more c.loop-place.positional c.saturating_add-positional.result c.in-Some.place.now c.next.new.self c.saturating_add-positional.ensures positional
    ∙ ap (λ met. crowded_with met c.loop-place.positional (c.in-Some.place.now ∷ c.next.new.self)) (sym c.if-has_keyword.false)
    ∙ ap (crowded_with c.loop-place.has_keyword c.loop-place.positional) (sym c.in-Some.ensures)
    ∙ c.loop-place.invariant
