use Rattle.std.proofs.Common.{sym, subst}
use Rattle.sched_core.specs.Starting.{IsForMachine}
use Rattle.session_core.proofs.Started.{first_of}
use Rattle.session_core.proofs.open.start.Goals as goal

pub returns : goal.returns
returns c = λ config sound apart.
    (first_of c.args.options config _ _ _ c.in_ok-system.system c.refuses.ensures c.from-views.ensures c.requires.empty (c.in_ok-system.ensures.started config sound apart)).0

pub new-requires-clause-layout : goal.new-requires-clause-layout
new-requires-clause-layout c = subst (λ q. IsForMachine q.layout) (sym c.requires.empty) c.queue_layout_is_for_machine.ensures
