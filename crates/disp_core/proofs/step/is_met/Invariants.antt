use Rattle.std.proofs.Common.{◌≡◌, drop}
use Rattle.jcl_meaning.specs.History.{some_satisfied}
use Rattle.job_text.specs.Places.{step_at}
use Rattle.disp_core.proofs.step.is_met.Given as goal

-- no test before is met
abbrev pub invariant-loop-test : goal.invariant-loop-test
invariant-loop-test g l =
    let tests = (step_at (g.T.JobText.plan l.text).steps l.step).tests.items in
    some_satisfied l.ended (drop l.test tests) ≡ some_satisfied l.ended tests
