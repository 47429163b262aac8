use Rattle.std.proofs.Common.{refl, sym}
use Rattle.jcl_meaning.specs.Acts.{act}
use Rattle.jcl_meaning.specs.Agendas.{Receive}
use Rattle.solo_core.specs.Runners.{answers_by}
use Rattle.solo_core.proofs.Carried.{does_cleanly}
use Rattle.solo_core.proofs.runner.Runner.receive.Goals as goal

pub returns : goal.returns
unfolding act
returns c =
    let old = c.args.self.now in
    does_cleanly Receive old (record old { store = c.receive.new.store; course = c.receive.new.course }) c.met.new.self
    (c.in_ok-receive.ensures.ok (answers_by old) (sym c.cancel_due-cancelled.ensures)) (record { given = refl; volumes = c.in_ok-receive.ensures.rest }) refl c.in_ok-met.ensures
