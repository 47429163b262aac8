use Rattle.std.proofs.Common.{◌≡◌, ◌+◌, ◌-◌, ◌<◌, ◌∷◌, ◌++◌, [], ℕ, ap, subst, take, ◌∙◌}
use Rattle.jcl_plan.specs.declared.plan.DdPlan.{DdPlan}
use Rattle.jcl_meaning.specs.Acts.{act}
use Rattle.jcl_meaning.specs.Agendas.{Take, takes_from}
use Rattle.job_text.specs.Places.{dd_at, no_dd, step_at}
use Rattle.solo_core.specs.Runners.{Does}
use Rattle.solo_core.proofs.Runs.{acts_joined, acts_none, acts_one, front_number, front_with, same_dd, takes-snoc}
use Rattle.solo_core.proofs.runner.Runner.run_takes.Goals as goal

pub loop-i-init : goal.loop-i-init
loop-i-init g c = acts_none c.args.self.now

pub loop-i-preserved : goal.loop-i-preserved
unfolding act
loop-i-preserved g c =
    let steps = (g.T.JobText.plan c.args.text.now).steps in
    let n = c.args.step + 1 in
    let i = c.loop-i.i in
    let dds = (step_at steps c.args.step).dds in
    let lt = subst (λ m. i < m) c.dd_count-i-end.ensures c.loop-i-test.true in
    let xs = take i dds in
    let d = dd_at dds i in
    let whole : takes_from n 1 (take (i + 1) dds) ≡ takes_from n 1 xs ++ Take n (i + 1) d ∷ [] =
    ap (takes_from n 1) (front_with dds i no_dd lt) ∙ takes-snoc n 1 xs d ∙ ap (λ (m : ℕ). takes_from n 1 xs ++ Take n m d ∷ []) (front_number dds i lt) in
    let does = subst (λ (x : DdPlan). Does (Take n (i + 1) x) c.loop-i.self c.take.new.self) (same_dd steps c.args.step i) c.in_ok-take.ensures in
    acts_joined _ (takes_from n 1 xs) (Take n (i + 1) d ∷ []) c.args.self.now c.loop-i.self c.take.new.self
    whole c.loop-i.invariant (acts_one (Take n (i + 1) d) c.loop-i.self c.take.new.self does)
