use Rattle.cat_core.specs.Catalogs.{member_of}
use Rattle.shared_core.proofs.SeenSets.{seen_uncatalogued}
use Rattle.shared_core.proofs.store.SharedStoreJobStore.uncatalog.Goals as goal

pub returns-clause-seen : goal.returns-clause-seen
returns-clause-seen c =
    seen_uncatalogued c.args._job c.args.self.now c.clear.new.self (member_of c.args.self.now.catalog c.args.name.now) c.args.name.now c.clear.ensures
