use Rattle.std.proofs.Common.{◌+◌, List, subst, sym, ◌∙◌}
use Rattle.jcl_plan.specs.declared.plan.DdPlan.{DdPlan}
use Rattle.jcl_meaning.specs.Acts.{act}
use Rattle.jcl_meaning.specs.Agendas.{Action, Left}
use Rattle.job_text.specs.Places.{dd_at, step_at}
use Rattle.solo_core.specs.Runners.{Acts, Does}
use Rattle.solo_core.proofs.Runs.{acts_none, acts_one, left_none, left_some, same_dd}
use Rattle.solo_core.proofs.runner.Runner.leave_if.Goals as goal

pub returns-then-not-passes : goal.returns-then-not-passes
returns-then-not-passes g c =
    let d = dd_at (step_at (g.T.JobText.plan c.args.text.now).steps c.args.step).dds c.args.i in
    subst (λ (l : List Action). Acts l c.args.self.now c.args.self.now)
    (sym (left_none (c.args.step + 1) (c.args.i + 1) d (sym c.passes.ensures ∙ c.if-not-passes.true))) (acts_none c.args.self.now)

pub returns : goal.returns
unfolding act
returns g c =
    let steps = (g.T.JobText.plan c.args.text.now).steps in
    let d = dd_at (step_at steps c.args.step).dds c.args.i in
    let n = c.args.step + 1 in
    let dd = c.args.i + 1 in
    let does = subst (λ (x : DdPlan). Does (Left n dd x) c.args.self.now c.leave.new.self) (same_dd steps c.args.step c.args.i) c.in_ok-leave.ensures in
    subst (λ (l : List Action). Acts l c.args.self.now c.leave.new.self)
    (sym (left_some n dd d (sym c.passes.ensures ∙ c.if-not-passes.false)))
    (acts_one (Left n dd d) c.args.self.now c.leave.new.self does)
