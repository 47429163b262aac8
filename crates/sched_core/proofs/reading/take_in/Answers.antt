use Rattle.std.proofs.Common.{[], ◌∷◌, ◌++◌, ap, ◌∙◌}
use Rattle.std.specs.Prelude.{filter, not, ◌==◌}
use Rattle.jcl_plan.specs.declared.entry.Entry.TheVariants as entry
use Rattle.jcl_plan.specs.declared.entry.JobLine.TheVariants as line
use Rattle.jcl_plan.specs.declared.fault.Cause.TheVariants.{Q}
use Rattle.jcl_plan.specs.declared.fault.QueueFault.TheVariants.{Full}
use Rattle.queued_job.specs.declared.backlog.Listing.{Listing}
use Rattle.sched_core.specs.Reading.{enters, is_full}
use Rattle.sched_core.proofs.Entered.{taken_again}
use Rattle.sched_core.proofs.reading.take_in.Goals as goal

pub returns-in-Ok-clause-ok : goal.returns-in-Ok-clause-ok
returns-in-Ok-clause-ok g c =
    enters c.in-Ok.field-0 c.in-Ok.ensures (c.in_ok-enter.ensures.ok ∙ ap (λ (l : Listing). c.args.backlog.now ++ l ∷ []) c.in_ok-listing.ensures)
    (c.with_line.ensures ∙ (λ i. c.in_ok-lines.ensures.items i ++ entry.Job c.args.job (c.read_line.ensures i) ∷ []))

pub returns-in-Err-Full-clause-ok : goal.returns-in-Err-Full-clause-ok
returns-in-Err-Full-clause-ok g c =
    let entered = rw c.in-Err-Full.field-0-is at c.in-Err-Full.ensures in
    is_full entered.0 entered.1
    (c.take.ensures.left ∙ (ap (filter (λ (x : Listing). not (x.job == c.args.job))) c.in_ok-enter.ensures.ok
    ∙ taken_again c.args.backlog.now c.in_ok-listing.listing c.args.job (ap (λ (l : Listing). l.job) c.in_ok-listing.ensures) c.requires.listed))
    (c.with_line-in-Err-Full.ensures ∙ ap (λ es. es ++ entry.Job c.args.job (line.Rejected (Q Full)) ∷ []) c.in_ok-lines.ensures.items)

pub returns-in-Err-Memory-clause-err : goal.returns-in-Err-Memory-clause-err
returns-in-Err-Memory-clause-err g c =
    let entered = rw c.in-Err-Memory.field-0-is at c.in-Err-Memory.ensures in (
      entered.1,
      c.take-in-Err-Memory.ensures.left ∙ (ap (filter (λ (x : Listing). not (x.job == c.args.job))) c.in_ok-enter.ensures.ok
          ∙ taken_again c.args.backlog.now c.in_ok-listing.listing c.args.job (ap (λ (l : Listing). l.job) c.in_ok-listing.ensures) c.requires.listed),
    )
