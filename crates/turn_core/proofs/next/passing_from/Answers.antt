use Rattle.std.proofs.Common.{◌<◌, subst, sym, ◌∙◌}
use Rattle.job_text.specs.Places.{step_at}
use Rattle.turn_core.proofs.Places.{leaves_first}
use Rattle.turn_core.proofs.next.passing_from.Goals as goal

pub returns-then-passes-clause-found : goal.returns-then-passes-clause-found
returns-then-passes-clause-found g c =
    let dds = (step_at (g.T.JobText.plan c.args.text.now).steps c.args.step).dds in
    leaves_first dds c.args.from c.loop-i.i (subst (λ m. c.loop-i.i < m) c.dd_count-i-end.ensures c.loop-i-test.true)
    (sym c.passes.ensures ∙ c.if-passes.true) c.loop-i.invariant
