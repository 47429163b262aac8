use Rattle.store_core.proofs.StoreLists.{store-put_entry}
use Rattle.store_core.proofs.store.put_entry.Goals as goal

pub returns-clause-entry : goal.returns-clause-entry
returns-clause-entry c =
    rw (c.new.ensures, c.in_ok-put.ensures.ok, c.into_vec-entries.ensures, c.replace.ensures.value)
    (store-put_entry c.args.name.now c.args.store.now c.args.entry)
