use Rattle.std.proofs.Common.{true}
use Rattle.jcl_meaning.specs.Programs.{emptied}
use Rattle.shared_core.proofs.SeenSets.{others_changed, seen_changed}
use Rattle.shared_core.proofs.store.SharedStoreJobStore.empty.Goals as goal

pub returns-in-Some-clause-seen : goal.returns-in-Some-clause-seen
returns-in-Some-clause-seen c =
    seen_changed c.args.job c.args.self.now c.empty_set.new.volumes c.args.key.now c.in-Some.key c.args.serial c.in-Some.ensures (emptied true) c.empty_set.ensures.changes

pub returns-in-Some-clause-rest : goal.returns-in-Some-clause-rest
returns-in-Some-clause-rest c =
    others_changed c.args.job c.args.self.now c.empty_set.new.volumes c.args.key.now c.in-Some.key c.args.serial c.in-Some.ensures (emptied true)
    c.empty_set.ensures.changes c.empty_set.ensures.extents
