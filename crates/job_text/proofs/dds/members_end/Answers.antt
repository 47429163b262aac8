use Rattle.std.proofs.Common.{ap, sym, ◌∙◌}
use Rattle.std.proofs.lemmas.List.{get_or_default}
use Rattle.jcl_plan.specs.declared.plan.DdPlan.{DdPlan}
use Rattle.jcl_meaning.specs.Programs.{is_continued}
use Rattle.job_text.specs.Places.{no_dd}
use Rattle.job_text.proofs.Members.{members_first, members_on}
use Rattle.job_text.proofs.dds.members_end.Goals as goal

pub loop-next-init : goal.loop-next-init
loop-next-init c = members_first c.args.dds.now c.args.dd c.requires

pub loop-next-preserved : goal.loop-next-preserved
loop-next-preserved c =
    let at = c.loop-next.next in
    let dd = c.index-dds-next.result in
    c.loop-next.invariant ∙ members_on c.args.dds.now c.args.dd at c.loop-next.auto.next c.loop-next-test.true
    (ap (λ (x : DdPlan). is_continued x.name) (sym (c.index-dds-next.is ∙ get_or_default c.args.dds.now at dd no_dd c.loop-next-test.true))
    ∙ sym c.is_continued.ensures ∙ c.if-not-is_continued.false)
