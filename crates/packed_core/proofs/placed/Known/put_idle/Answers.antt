use Rattle.packed_core.specs.Placed.{AreKnown, HasPut}
use Rattle.packed_core.proofs.Kept.{ok_then}
use Rattle.packed_core.proofs.Placing.{idle_noted}
use Rattle.packed_core.proofs.placed.Known.put_idle.Goals as goal

pub returns : goal.returns
returns c plan fixed k before behind old so =
    ok_then c.put_at.result (HasPut c.args.self.now.idle.items c.put_at.new.list.items c.args.n c.args.number)
    (AreKnown plan fixed k before behind (record c.args.self.now { idle = c.put_at.new.list }))
    (idle_noted plan fixed k before behind c.args.self.now old c.args.n c.put_at.new.list c.args.number so) c.put_at.ensures
