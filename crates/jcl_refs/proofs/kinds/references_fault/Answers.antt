use Rattle.std.proofs.Common.{sym, ap, ◌∙◌, List, take}
use Rattle.std.specs.List.{flat_map}
use Rattle.jcl_plan.specs.declared.fault.Cause.{Cause}
use Rattle.value_core.specs.declared.reference.DdReference.{DdReference}
use Rattle.operand_core.specs.Faults.{earlier, told}
use Rattle.operand_core.proofs.Told.{told_flat_map_more}
use Rattle.jcl_refs.specs.Kinds.{spot_of}
use Rattle.jcl_refs.specs.Plans.{faults_of, led}
use Rattle.jcl_refs.proofs.kinds.references_fault.Goals as goal

pub loop-reference-preserved : goal.loop-reference-preserved
loop-reference-preserved c =
    let faults : DdReference → List Cause = λ reference. faults_of (led (spot_of c.args.spot.now) reference) in
    let references = c.args.references.now in
    let at = c.loop-reference.reference-index in
    c.earlier-fault.ensures
    ∙ ap (λ front. earlier front c.reference_fault.result) c.loop-reference.invariant
    ∙ ap (earlier (told (flat_map faults (take at references)))) (c.reference_fault.ensures ∙ ap (λ reference. told (faults reference)) c.reference-item.is)
    ∙ sym (told_flat_map_more faults references at c.reference-item.result c.loop-reference-test.true)
