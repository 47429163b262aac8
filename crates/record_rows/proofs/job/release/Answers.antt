use Rattle.std.proofs.Common.{◌≢◌, All, subst, sym}
use Rattle.std.proofs.lemmas.List.Elements.{All-nil}
use Rattle.record_rows.proofs.job.release.Goals as goal

pub release_records-requires-clause-unqueued : goal.release_records-requires-clause-unqueued
release_records-requires-clause-unqueued g c =
    subst (All (λ x. x.job ≢ c.short-job.result)) (sym (c.nobody_waits.ensures c.if-nobody_waits.true)) (All-nil (λ x. x.job ≢ c.short-job.result))
