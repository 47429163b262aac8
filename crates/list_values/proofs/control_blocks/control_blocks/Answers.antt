use Rattle.std.proofs.Common.{◌≡◌, ◌∷◌, true, List, ℕ, sym, ◌∙◌, subst}
use Rattle.operand_core.specs.Subparameters.{subparameters_of}
use Rattle.value_core.specs.References.{is_reference}
use Rattle.list_values.proofs.References.{Continues, reads, refuses}
use Rattle.list_values.proofs.control_blocks.control_blocks.Goals as goal

pub loop-place-preserved-in-Continue-1 : goal.loop-place-preserved-in-Continue-1
loop-place-preserved-in-Continue-1 c =
    let place = c.in-Some.place.now in
    let all = subparameters_of c.args.text.now in
    let before : Continues c.loop-place.references c.loop-place.fault (place ∷ c.next.new.self) all =
    subst (λ (places : List (List ℕ)). Continues c.loop-place.references c.loop-place.fault places all) c.in-Some.ensures c.loop-place.invariant in
    let is : is_reference place ≡ true = sym c.is_reference.ensures ∙ c.if-is_reference.true in
    reads c.loop-place.references c.push.new.self c.loop-place.fault place c.in-Ok.reference c.next.new.self all is c.in-Ok.ensures c.in_ok-push-in-Ok.ensures.ok before

pub loop-place-preserved-in-Err : goal.loop-place-preserved-in-Err
loop-place-preserved-in-Err c =
    let place = c.in-Some.place.now in
    let all = subparameters_of c.args.text.now in
    let before : Continues c.loop-place.references c.loop-place.fault (place ∷ c.next.new.self) all =
    subst (λ (places : List (List ℕ)). Continues c.loop-place.references c.loop-place.fault places all) c.in-Some.ensures c.loop-place.invariant in
    let is : is_reference place ≡ true = sym c.is_reference.ensures ∙ c.if-is_reference.true in
    refuses c.loop-place.references c.loop-place.fault c.earlier-fault.result place c.in-Err.other c.next.new.self all is c.in-Err.ensures c.earlier-fault.ensures before
