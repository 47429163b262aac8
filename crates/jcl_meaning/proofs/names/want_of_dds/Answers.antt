use Rattle.std.proofs.Common.{take}
use Rattle.std.specs.List.{flat_map}
use Rattle.jcl_plan.specs.declared.plan.DdPlan.{DdPlan}
use Rattle.jcl_meaning.specs.Names.{dd_names}
use Rattle.jcl_meaning.proofs.SortedNames.{kept_all}
use Rattle.jcl_meaning.proofs.HeldNames.{with_names-more}
use Rattle.jcl_meaning.proofs.names.want_of_dds.Goals as goal

pub loop-dd-preserved : goal.loop-dd-preserved
loop-dd-preserved c =
    with_names-more (λ (dd : DdPlan). dd_names dd.kind) c.args.dds.now c.loop-dd.dd-index c.dd-item.result _ _ _
    c.loop-dd-test.true c.dd-item.is c.loop-dd.invariant c.in_ok-want_of_dd.ensures

pub want_of_dd-requires : goal.want_of_dd-requires
want_of_dd-requires c = kept_all c.args.names.now.items c.loop-dd.names.items (flat_map (λ (dd : DdPlan). dd_names dd.kind) (take c.loop-dd.dd-index c.args.dds.now)) c.requires c.loop-dd.invariant
