use Rattle.cat_core.specs.Catalogs.{group_of}
use Rattle.shared_core.proofs.SeenSets.{seen_numbered}
use Rattle.shared_core.proofs.store.SharedStoreJobStore.enter_number.Goals as goal

pub returns-clause-seen : goal.returns-clause-seen
returns-clause-seen c =
    seen_numbered c.args._job c.args.self.now c.enter_generation.new.self (group_of c.args.self.now.catalog c.args.base.now) c.args.base.now c.args.number
    c.args.serial c.in-Ok.ensures.ok
