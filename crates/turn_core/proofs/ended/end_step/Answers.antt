use Rattle.std.proofs.Common.{ap, sym}
use Rattle.jcl_plan.specs.declared.outcome.Outcome.TheVariants as outcome
use Rattle.turn_core.proofs.StepEnds.{course_after}
use Rattle.turn_core.proofs.ended.end_step.Goals as goal

pub returns-clause-ok : goal.returns-clause-ok
returns-clause-ok c =
    course_after c.args.n (outcome.Code c.zero.result) c.args.course.now c.finish.new.course c.requires.runs c.requires.over (ap outcome.Code (sym c.zero.ensures)) c.in_ok-finish.ensures.ok
