use Rattle.std.proofs.Common.{ap, ◌∙◌, List, Bool, Option}
use Rattle.std.specs.List.{flat_map}
use Rattle.jcl_plan.specs.declared.fault.Cause.{Cause}
use Rattle.value_core.specs.declared.reference.DdReference.{DdReference}
use Rattle.value_core.specs.declared.set.Disposition.{Disposition}
use Rattle.operand_core.specs.Faults.{earlier, told}
use Rattle.jcl_refs.specs.Kinds.{fault_named, spot_of}
use Rattle.jcl_refs.specs.LaterDds.{references_of}
use Rattle.jcl_refs.specs.Plans.{disposition_of, faults_of, led, uncataloged_faults, volume_faults}
use Rattle.jcl_refs.proofs.kinds.dd_fault.Goals as goal

pub returns : goal.returns
returns c =
    let at = spot_of c.args.spot.now in
    let dd = c.args.dd.now in
    let faults : DdReference → List Cause = λ reference. faults_of (led at reference) in
    let of_volume : Bool → Option Cause = λ for_set. told (volume_faults for_set at dd.volume) in
    let of_references : List DdReference → Option Cause = λ references. told (flat_map faults references) in
    let of_words : Disposition → Option Cause = λ d. told (uncataloged_faults c.args.key d) in
    let behind_volume : Option Cause → Option Cause = λ x. earlier x (of_references (references_of dd.control_blocks)) in
    let behind_blocks : Option Cause → Option Cause = λ x. earlier x (of_words (disposition_of dd.disposition)) in
    c.earlier.ensures
    ∙ ap (earlier c.earlier-blocks.result) (c.uncataloged_fault.ensures ∙ ap of_words c.disposition_of.ensures)
    ∙ ap behind_blocks (c.earlier-blocks.ensures
    ∙ ap (earlier c.earlier-volume.result) (c.references_fault.ensures ∙ ap of_references c.references_of.ensures)
    ∙ ap behind_volume (c.earlier-volume.ensures
    ∙ ap (λ x. earlier x c.volume_fault.result) c.naming_fault.ensures
    ∙ ap (earlier (fault_named c.args.named)) (c.volume_fault.ensures ∙ ap of_volume c.is_some.ensures)))
