use Rattle.std.proofs.Common.{◌==◌, ◌∙◌, ap, not, rules, tests}
use Rattle.std.proofs.lemmas.Fn.{filter_same}
use Rattle.world_meaning.specs.Holdings.{cancels_without}
use Rattle.queued_job.proofs.cancels.Cancels.remove.Goals as goal

pub returns : goal.returns
returns c =
    filter_same _ (λ other. not (other == c.args.job)) _ (λ x b f k. search (rules, tests)) c.self.inside.jobs.items c.retain.new.self.items c.retain.ensures.filtered
    ∙ ap (λ jobs. cancels_without jobs c.args.job) c.self.view_is
