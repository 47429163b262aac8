use Rattle.store_core.proofs.StoreLists.{store-without_entries}
use Rattle.store_core.proofs.store.remove_entry.Goals as goal

pub returns-clause-entry : goal.returns-clause-entry
returns-clause-entry c =
    rw (c.new.ensures, c.drop_entries.ensures.value, c.into_vec-entries.ensures, c.replace.ensures.value) (store-without_entries c.args.name.now c.args.store.now)
