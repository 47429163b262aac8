use Rattle.std.proofs.Common.{subst, sym}
use Rattle.jcl_plan.specs.declared.plan.TheConstants.{MOST_STEPS}
use Rattle.cb_meaning.specs.declared.layout.Layout.{Layout}
use Rattle.cb_meaning.specs.declared.layout.TheConstants.{LAYOUT_1, LAYOUT_2}
use Rattle.cb_chain.specs.Written.{HoldsSteps}
use Rattle.cb_chain.proofs.DaysHeld.{days_held}
use Rattle.record_rows.proofs.job.has_places.Goals as goal

pub returns-then-is_second : goal.returns-then-is_second
returns-then-is_second g c =
    λ yes. subst (λ (l : Layout). HoldsSteps l c.args.plan.now.steps) (sym (c.is_second.ensures c.if-is_second.true))
    (days_held LAYOUT_2 c.the_layouts_hold_jobs.ensures.days MOST_STEPS c.requires.0 c.args.plan.now c.requires.1)
