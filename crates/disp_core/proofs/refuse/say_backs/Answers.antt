use Rattle.disp_core.proofs.Backs.{one_more_back}
use Rattle.disp_core.proofs.refuse.say_backs.Goals as goal

pub loop-x-preserved : goal.loop-x-preserved
loop-x-preserved c = one_more_back c.args.dds.now c.loop-x.x-index c.x-item.result c.args.lines.now c.loop-x.lines c.say_back.new.lines
    c.loop-x-test.true c.x-item.is c.loop-x.invariant c.in_ok-say_back.ensures.ok
