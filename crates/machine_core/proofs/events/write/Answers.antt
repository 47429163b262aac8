use Rattle.machine_core.specs.Shown.{shown}
use Rattle.machine_core.proofs.Writers.{writer_writes}
use Rattle.machine_core.proofs.events.write.Goals as goal

pub returns-clause-writes : goal.returns-clause-writes
returns-clause-writes g c w shared = writer_writes w (shown g.Q.RecordStore.queue c.args.parts.now) c.args.class c.write.result c.write.new.self shared c.write.ensures.some c.write.ensures.none
