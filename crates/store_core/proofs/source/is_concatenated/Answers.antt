use Rattle.std.proofs.Common.{sym, ◌∙◌, subst, ◌+◌, ◌<◌, ◌≤◌}
use Rattle.job_text.specs.Places.{step_at}
use Rattle.store_core.proofs.Members.{concatenated_on, concatenated_past}
use Rattle.store_core.proofs.source.is_concatenated.Goals as goal

pub returns-then-next-count : goal.returns-then-next-count
returns-then-next-count g c =
    c.continues.ensures
    ∙ sym (concatenated_on (step_at (g.T.JobText.plan c.args.text.now).steps c.args.step).dds c.args.dd
    (subst (λ n. c.args.dd + 1 < n) c.dd_count-count.ensures c.if-next-count.true))

pub returns-else-next-count : goal.returns-else-next-count
returns-else-next-count g c = sym (concatenated_past (step_at (g.T.JobText.plan c.args.text.now).steps c.args.step).dds c.args.dd
    (subst (λ n. n ≤ c.args.dd + 1) c.dd_count-count.ensures c.if-next-count.false))
