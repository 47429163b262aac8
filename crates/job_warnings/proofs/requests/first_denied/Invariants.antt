use Rattle.std.proofs.Common.{◌≡◌, drop}
use Rattle.jcl_meaning.specs.Programs.{moves_of}
use Rattle.job_text.specs.Places.{step_at}
use Rattle.job_warnings.specs.Requests.{first_denied}
use Rattle.job_warnings.proofs.requests.first_denied.Given as goal

-- the requests passed are not denied
abbrev pub invariant-loop-place : goal.invariant-loop-place
invariant-loop-place l =
    first_denied (step_at l.fn.plan.steps l.fn.step).dds (moves_of l.fn.programs (step_at l.fn.plan.steps l.fn.step).program)
    ≡ first_denied (step_at l.fn.plan.steps l.fn.step).dds (drop l.place (moves_of l.fn.programs (step_at l.fn.plan.steps l.fn.step).program))
