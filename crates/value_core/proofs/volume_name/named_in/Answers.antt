use Rattle.std.proofs.Common.{sym, ap, ◌∙◌}
use Rattle.operand_core.specs.Operands.{keyword_of}
use Rattle.value_core.specs.VolumeNames.{first_named, volume_place, with_later}
use Rattle.value_core.proofs.Volumes.{answer, any_later, later_any, named_more, with_later_assoc}
use Rattle.value_core.proofs.volume_name.named_in.Goals as goal

pub loop-place-init : goal.loop-place-init
loop-place-init c = any_later (answer (first_named c.of_value-places.result)) ∙ ap (λ xs. answer (first_named xs)) c.of_value-places.ensures

pub loop-place-preserved : goal.loop-place-preserved
loop-place-preserved c =
    let place = c.in-Some.place.now in
    let places = c.next.new.self in
    ap (λ volume. with_later volume (answer (first_named places))) (c.with_later-volume.ensures ∙ ap (with_later c.loop-place.volume) c.volume_place.ensures)
    ∙ with_later_assoc c.loop-place.volume (answer (volume_place place (keyword_of place))) (answer (first_named places))
    ∙ ap (with_later c.loop-place.volume) (named_more place places ∙ ap (λ xs. answer (first_named xs)) (sym c.in-Some.ensures))
    ∙ c.loop-place.invariant

pub returns : goal.returns
returns c =
    sym (later_any c.loop-place.volume)
    ∙ ap (λ xs. with_later c.loop-place.volume (answer (first_named xs))) (sym c.in_default.ensures.0)
    ∙ c.loop-place.invariant
