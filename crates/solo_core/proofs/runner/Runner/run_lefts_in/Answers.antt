use Rattle.std.proofs.Common.{◌≡◌, ◌+◌, ◌<◌, ◌++◌, ℕ, ap, subst, take, ◌∙◌}
use Rattle.jcl_meaning.specs.Agendas.{left_by, lefts_in}
use Rattle.job_text.specs.Places.{dd_at, no_dd, step_at}
use Rattle.solo_core.proofs.Runs.{acts_joined, acts_none, front_number, front_with, lefts_in-snoc}
use Rattle.solo_core.proofs.runner.Runner.run_lefts_in.Goals as goal

pub loop-i-init : goal.loop-i-init
loop-i-init g c = acts_none c.args.self.now

pub loop-i-preserved : goal.loop-i-preserved
loop-i-preserved g c =
    let n = c.args.step + 1 in
    let i = c.loop-i.i in
    let dds = (step_at (g.T.JobText.plan c.args.text.now).steps c.args.step).dds in
    let lt = subst (λ m. i < m) c.dd_count-i-end.ensures c.loop-i-test.true in
    let xs = take i dds in
    let d = dd_at dds i in
    let whole : lefts_in n 1 (take (i + 1) dds) ≡ lefts_in n 1 xs ++ left_by n (i + 1) d =
    ap (lefts_in n 1) (front_with dds i no_dd lt) ∙ lefts_in-snoc n 1 xs d ∙ ap (λ (m : ℕ). lefts_in n 1 xs ++ left_by n m d) (front_number dds i lt) in
    acts_joined _ (lefts_in n 1 xs) (left_by n (i + 1) d) c.args.self.now c.loop-i.self c.leave_if.new.self whole c.loop-i.invariant c.in_ok-leave_if.ensures
