use Rattle.std.proofs.Common.{◌≡◌, ◌≢◌, All, ◌∙◌, ap, subst, sym}
use Rattle.init_core.specs.declared.running.Running.{Running}
use Rattle.sched_core.proofs.cancelling.cancel_selected.Goals as goal

pub give_up-requires-clause-unqueued : goal.give_up-requires-clause-unqueued
give_up-requires-clause-unqueued g c =
    let is : c.requires.runs.running ≡ c.in-Some.running = cc (c.requires.runs.runs, c.in-Some.ensures.value) in
    let same : c.in-Some.running.job ≡ c.args.job = ap (λ (r : Running). r.job) (sym is) ∙ c.requires.runs.same in
    subst (λ job. All (λ q. q.job ≢ job) (g.Q.RecordStore.queue c.args.parts.now.queue).waiting) (sym same) c.requires.unqueued
