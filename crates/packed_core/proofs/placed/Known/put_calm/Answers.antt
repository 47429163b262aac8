use Rattle.packed_core.specs.Placed.{AreKnown, HasPut}
use Rattle.packed_core.proofs.Kept.{ok_then}
use Rattle.packed_core.proofs.Placing.{calm_noted}
use Rattle.packed_core.proofs.placed.Known.put_calm.Goals as goal

pub returns : goal.returns
returns c plan fixed k before behind old so =
    ok_then c.put_at.result (HasPut c.args.self.now.calm.items c.put_at.new.list.items c.args.n c.args.placed)
    (AreKnown plan fixed k before behind (record c.args.self.now { calm = c.put_at.new.list }))
    (calm_noted plan fixed k before behind c.args.self.now old c.args.n c.put_at.new.list c.args.placed so) c.put_at.ensures
