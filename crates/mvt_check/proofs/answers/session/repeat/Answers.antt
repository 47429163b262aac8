use Rattle.mvt_check.proofs.Runs.{Tells-again, Tells-none}
use Rattle.mvt_check.proofs.answers.session.repeat.Goals as goal

pub loop-done-init : goal.loop-done-init
loop-done-init c = Tells-none c.args.system.now c.args.by_job.now.items

pub loop-done-preserved : goal.loop-done-preserved
loop-done-preserved c =
    Tells-again c.args.system.now c.loop-done.system c.apply.new.system c.args.by_job.now.items c.loop-done.by_job.items c.apply.new.by_job.items
    c.args.event.now c.loop-done.done c.loop-done.number c.in_ok-next.next c.first_of-number.result c.loop-done.invariant c.in_ok-next.ensures c.first_of-number.ensures
