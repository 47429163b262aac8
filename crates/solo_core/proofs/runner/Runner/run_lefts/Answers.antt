use Rattle.std.proofs.Common.{◌≡◌, ◌+◌, ◌<◌, ◌++◌, ℕ, ap, subst, take, ◌∙◌}
use Rattle.jcl_meaning.specs.Agendas.{lefts_from, lefts_in}
use Rattle.job_text.specs.Places.{no_step, step_at}
use Rattle.solo_core.proofs.Runs.{acts_joined, acts_none, front_number, front_with, lefts_from-snoc}
use Rattle.solo_core.proofs.runner.Runner.run_lefts.Goals as goal

pub loop-i-init : goal.loop-i-init
loop-i-init g c = acts_none c.args.self.now

pub loop-i-preserved : goal.loop-i-preserved
loop-i-preserved g c =
    let i = c.loop-i.i in
    let steps = (g.T.JobText.plan c.args.text.now).steps in
    let lt = subst (λ m. i < m) c.step_count-i-end.ensures c.loop-i-test.true in
    let xs = take i steps in
    let step = step_at steps i in
    let whole : lefts_from 1 (take (i + 1) steps) ≡ lefts_from 1 xs ++ lefts_in (i + 1) 1 step.dds =
    ap (lefts_from 1) (front_with steps i no_step lt) ∙ lefts_from-snoc 1 xs step ∙ ap (λ (m : ℕ). lefts_from 1 xs ++ lefts_in m 1 step.dds) (front_number steps i lt) in
    acts_joined _ (lefts_from 1 xs) (lefts_in (i + 1) 1 step.dds) c.args.self.now c.loop-i.self c.run_lefts_in.new.self whole c.loop-i.invariant c.in_ok-run_lefts_in.ensures
