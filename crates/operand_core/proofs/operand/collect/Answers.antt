use Rattle.std.proofs.Common.{true, sym, ap, ◌∙◌}
use Rattle.std.specs.Option.{option_copied}
use Rattle.operand_core.specs.Reading.{parts_in}
use Rattle.operand_core.specs.Subparameters.{places_left}
use Rattle.operand_core.proofs.Collected.{behind, next_places, one_more}
use Rattle.operand_core.proofs.operand.collect.Goals as goal

pub loop-left-preserved : goal.loop-left-preserved
loop-left-preserved c =
    let found = parts_in c.loop-left.found in
    let part = c.begun_part-part.result.0 in
    let next = c.begun_part-part.result.1 in
    let rest = places_left true (option_copied next) in
    c.loop-left.invariant
    ∙ ap (λ left. behind found (places_left true (option_copied left))) c.in-Some.is
    ∙ ap (behind found) (next_places c.in-Some.text.now part next c.begun_part-part.ensures.some c.begun_part-part.ensures.none)
    ∙ one_more found part rest
    ∙ ap (λ s. behind s rest) (sym c.in_ok-add.ensures)
