use Rattle.init_core.proofs.Wanting.{wanted}
use Rattle.init_core.proofs.names.wish.Goals as goal

pub returns-clause-ok : goal.returns-clause-ok
returns-clause-ok g c = λ config plan are good.
    wanted g.Q.RecordStore.queue config c.args.parts.now c.hold.new.names c.args.job c.args.walk.now c.hold.new.listing plan c.args.wants.now
    c.requires.some c.requires.none are good c.in_ok-held.held c.in_ok-held.ensures.ok
