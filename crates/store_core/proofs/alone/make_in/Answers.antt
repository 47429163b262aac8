use Rattle.store_core.proofs.StoreLists.{store-made}
use Rattle.store_core.proofs.alone.make_in.Goals as goal

pub returns-clause-ok : goal.returns-clause-ok
returns-clause-ok c = rw (c.in_ok-push.ensures.ok) (store-made c.args.key.now c.args.serial c.args.store.now c.args.set c.requires)
