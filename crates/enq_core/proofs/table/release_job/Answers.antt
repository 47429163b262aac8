use Rattle.std.proofs.Common.{◌==◌, not, rules, tests}
use Rattle.std.proofs.lemmas.Fn.{filter_same}
use Rattle.enq_core.proofs.table.release_job.Goals as goal

pub returns : goal.returns
returns c =
    filter_same _ (λ hold. not (hold.job == c.args.job)) _ (λ x b f k. search (rules, tests)) c.args.holds.now.items c.retain.new.self.items c.retain.ensures.filtered
