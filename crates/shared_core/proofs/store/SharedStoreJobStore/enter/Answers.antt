use Rattle.group_core.specs.declared.entry.CatEntry.TheVariants.{Volume}
use Rattle.shared_core.proofs.Entries.{ok_by}
use Rattle.shared_core.proofs.SeenSets.{seen_entered}
use Rattle.shared_core.proofs.store.SharedStoreJobStore.enter.Goals as goal

pub returns-clause-ok : goal.returns-clause-ok
returns-clause-ok c =
    ok_by c.put.result (λ e. seen_entered c.args._job c.args.self.now c.put.new.self c.args.name.now (Volume c.args.serial) e) c.put.ensures.ok
