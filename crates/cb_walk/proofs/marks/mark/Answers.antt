use Rattle.std.proofs.Common.{◌/◌, ◌<◌, arith, length}
use Rattle.cb_walk.proofs.Marking.{marked_elsewhere, marked_here}
use Rattle.cb_walk.proofs.marks.mark.Goals as goal

pub returns-clause-here : goal.returns-clause-here
returns-clause-here c =
    let within : c.args.n / 64 < length c.args.marks.now = omega (arith, c.requires) in
    marked_here c.args.marks.now c.args.n within

pub returns-clause-others : goal.returns-clause-others
returns-clause-others c =
    let within : c.args.n / 64 < length c.args.marks.now = omega (arith, c.requires) in
    marked_elsewhere c.args.marks.now c.args.n within
