use Rattle.std.proofs.Common.{None}
use Rattle.shared_core.specs.Giving.{nothing_given}
use Rattle.shared_core.specs.Rooms.{others_of}
use Rattle.shared_core.proofs.SeenSets.{others_given, seen_written}
use Rattle.shared_core.proofs.store.SharedStoreJobStore.scratch.Goals as goal

pub returns-in-Some-clause-rest : goal.returns-in-Some-clause-rest
returns-in-Some-clause-rest c =
    others_given c.args.job c.args.self.now c.scratch_set.new.volumes c.args.key.now c.in-Some.key c.args.serial c.in-Some.ensures None
    c.scratch_set.ensures.changes.0 c.scratch_set.ensures.changes.1 c.scratch_set.ensures.extents

pub returns-in_default-clause-rest : goal.returns-in_default-clause-rest
returns-in_default-clause-rest c = nothing_given (others_of c.args.job c.args.self.now)
