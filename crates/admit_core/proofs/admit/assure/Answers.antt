use Rattle.std.proofs.Common.{[], slice_set, ◌∙◌}
use Rattle.std.proofs.Math.Seq.{set-append_seam}
use Rattle.jcl_plan.specs.declared.entry.JobLine.TheVariants as line
use Rattle.admit_core.proofs.admit.assure.Goals as goal

pub returns-in-Ok-Some-clause-told : goal.returns-in-Ok-Some-clause-told
returns-in-Ok-Some-clause-told c =
    c.replace.ensures
    ∙ (λ i. slice_set (c.in_ok-push.ensures.ok i) (c.len-last.ensures i) (line.WaitSpace c.in-Ok-Some.serial))
    ∙ set-append_seam c.args.listing.now _ [] (line.WaitSpace c.in-Ok-Some.serial)
