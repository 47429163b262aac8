use Rattle.std.proofs.Common.{List, [], ◌∙◌, ap, take}
use Rattle.std.specs.List.{flat_map}
use Rattle.jcl_plan.specs.declared.plan.DdPlan.{DdPlan}
use Rattle.jcl_plan.specs.declared.plan.StepPlan.{StepPlan}
use Rattle.jcl_meaning.specs.declared.names.HeldName.{HeldName}
use Rattle.jcl_meaning.specs.Names.{dd_names, wanted_by, with_names}
use Rattle.jcl_meaning.proofs.SortedNames.{kept_all}
use Rattle.jcl_meaning.proofs.HeldNames.{with_names-more}
use Rattle.jcl_meaning.proofs.names.names_of.Goals as goal

pub loop-step-preserved : goal.loop-step-preserved
loop-step-preserved c =
    let of_dds : List DdPlan → List HeldName = λ dds. flat_map (λ (dd : DdPlan). dd_names dd.kind) dds in
    with_names-more (λ (step : StepPlan). of_dds step.dds) c.as_slice-step-items.result.now c.loop-step.step-index c.step-item.result [] _ _
    c.loop-step-test.true c.step-item.is c.loop-step.invariant (c.in_ok-want_of_dds.ensures ∙ ap (λ dds. with_names c.loop-step.names.items (of_dds dds)) c.as_slice.ensures)

pub want_of_dds-requires : goal.want_of_dds-requires
want_of_dds-requires c = kept_all [] c.loop-step.names.items (wanted_by (take c.loop-step.step-index c.as_slice-step-items.result.now)) tt c.loop-step.invariant
