use Rattle.std.proofs.Common.{ℕ, List, sym, ap, ◌∙◌}
use Rattle.std.specs.List.{flat_map}
use Rattle.jcl_plan.specs.declared.fault.Cause.{Cause}
use Rattle.operand_core.specs.Faults.{earlier, told}
use Rattle.operand_core.specs.Operands.{keyword_of}
use Rattle.value_core.specs.Labels.{place_faults}
use Rattle.value_core.proofs.OneByOne.{told_one_more}
use Rattle.value_core.proofs.label.places_fault.Goals as goal

pub loop-place-preserved : goal.loop-place-preserved
loop-place-preserved c =
    let f : List ℕ → List Cause = λ text. place_faults (keyword_of text) in
    ap (λ fault. earlier fault (told (flat_map f c.next.new.self))) c.earlier-fault.ensures
    ∙ told_one_more f c.loop-place.fault c.place_fault.result c.in-Some.place.now c.next.new.self c.place_fault.ensures
    ∙ ap (λ places. earlier c.loop-place.fault (told (flat_map f places))) (sym c.in-Some.ensures)
    ∙ c.loop-place.invariant
