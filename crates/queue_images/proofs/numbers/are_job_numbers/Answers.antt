use Rattle.std.proofs.Common.{◌≡◌, ◌-◌, ◌∙◌, ap, arith, get_or, refl, set, subst, sym, true}
use Rattle.queue_images.specs.declared.image.WaitingJob.{WaitingJob}
use Rattle.queue_images.proofs.Numbered.{AreMet, fails, goes_on, none_met}
use Rattle.queue_images.proofs.numbers.are_job_numbers.Goals as goal

pub loop-n-init : goal.loop-n-init
loop-n-init c = none_met c.args.jobs.now _ _ refl refl

pub returns-then-not-is_new : goal.returns-then-not-is_new
returns-then-not-is_new c =
    let x : WaitingJob = get_or c.args.jobs.now (c.loop-n.n - 1) (record { job = 0; jct = 0 }) in
    sym (fails c.args.jobs.now c.loop-n.n x c.loop-n.met c.loop-n-test.true c.loop-n.invariant refl (sym c.if-not-is_new.ensures))

pub loop-n-preserved : goal.loop-n-preserved
loop-n-preserved c =
    let x : WaitingJob = get_or c.args.jobs.now (c.loop-n.n - 1) (record { job = 0; jct = 0 }) in
    goes_on c.args.jobs.now c.loop-n.n x c.loop-n.met c.loop-n-test.true c.loop-n.invariant refl (set c.loop-n.met c.from.result true)
    (sym c.if-not-is_new.ensures) (ap (λ i. set c.loop-n.met i true) c.from.ensures)

pub returns : goal.returns
returns c =
    let none : c.loop-n.n ≡ 0 = omega (arith, c.loop-n-test.false) in
    sym (subst (λ n. AreMet c.args.jobs.now n c.loop-n.met) none c.loop-n.invariant).good
