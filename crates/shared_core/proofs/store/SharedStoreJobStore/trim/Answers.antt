use Rattle.std.specs.Option.{option_map}
use Rattle.jcl_meaning.specs.Stores.{cut}
use Rattle.shared_core.specs.Giving.{nothing_given}
use Rattle.shared_core.specs.Rooms.{others_of}
use Rattle.shared_core.specs.Shown.{mounted_in, set_on}
use Rattle.shared_core.proofs.SeenSets.{others_given, seen_cut}
use Rattle.shared_core.proofs.store.SharedStoreJobStore.trim.Goals as goal

pub returns-in-Some-clause-seen : goal.returns-in-Some-clause-seen
returns-in-Some-clause-seen c =
    seen_cut c.args.job c.args.self.now c.trim_set.new.volumes c.args.key.now c.in-Some.key c.args.serial c.in-Some.ensures c.trim_set.ensures.changes

pub returns-in-Some-clause-rest : goal.returns-in-Some-clause-rest
returns-in-Some-clause-rest c =
    others_given c.args.job c.args.self.now c.trim_set.new.volumes c.args.key.now c.in-Some.key c.args.serial c.in-Some.ensures
    (option_map cut (set_on (mounted_in c.args.self.now.volumes c.args.serial) c.in-Some.key)) c.trim_set.ensures.changes.0 c.trim_set.ensures.changes.1
    c.trim_set.ensures.extents

pub returns-in_default-clause-rest : goal.returns-in_default-clause-rest
returns-in_default-clause-rest c = nothing_given (others_of c.args.job c.args.self.now)
