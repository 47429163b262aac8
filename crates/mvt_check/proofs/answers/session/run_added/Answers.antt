use Rattle.std.proofs.Common.{◌∷◌, [], subst, arith}
use Rattle.mvt_check.specs.Telling.{Tells}
use Rattle.mvt_check.proofs.Runs.{Tells-none, added_all, added_more}
use Rattle.mvt_check.proofs.answers.session.run_added.Goals as goal

pub loop-next-init : goal.loop-next-init
loop-next-init c = Tells-none c.args.system.now c.args.by_job.now.items

pub loop-next-preserved : goal.loop-next-preserved
loop-next-preserved c =
    added_more c.args.given.now c.loop-next.next-index c.next-item.result c.args.system.now c.loop-next.system c.apply.new.system
    c.args.by_job.now.items c.loop-next.by_job.items c.apply.new.by_job.items c.loop-next.number c.in_ok-told.told c.first_of-number.result
    c.loop-next-test.true c.next-item.is c.loop-next.invariant
    (subst (λ e. Tells c.loop-next.system c.loop-next.by_job.items (e ∷ []) c.apply.new.system c.apply.new.by_job.items c.in_ok-told.told)
    c.event.ensures c.in_ok-told.ensures) c.first_of-number.ensures

pub returns : goal.returns
returns c =
    added_all c.args.given.now c.loop-next.next-index c.args.system.now c.loop-next.system c.args.by_job.now.items c.loop-next.by_job.items c.loop-next.number
    (omega arith) c.loop-next.invariant
