use Rattle.store_core.proofs.StoreLists.{store-without_sets}
use Rattle.store_core.proofs.store.scratch.Goals as goal

pub returns-clause-sets : goal.returns-clause-sets
returns-clause-sets c =
    let s = c.args.store.now in
    rw (c.new.ensures, c.drop_sets.ensures, c.into_vec-sets.ensures, c.replace.ensures.value) (store-without_sets c.args.key.now c.args.serial s)
