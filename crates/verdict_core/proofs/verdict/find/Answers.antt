use Rattle.jcl_meaning.specs.Stores.{store_of}
use Rattle.path_core.specs.Starts.{fixed_from}
use Rattle.path_meaning.specs.Verdicts.{IsFree}
use Rattle.verdict_core.proofs.verdict.find.Goals as goal

pub returns-in-Some-clause-found : goal.returns-in-Some-clause-found
returns-in-Some-clause-found c =
    let free : IsFree (fixed_from c.args.start c.args.known.now) c.args.known.now (store_of c.args.start.store) c.args.start.most_views c.in-Some.made.items =
    rw c.in-Some.is at c.in_ok-made.ensures in
    c.free_at.ensures (fixed_from c.args.start c.args.known.now) c.args.known.now (store_of c.args.start.store) c.args.start.most_views c.args.explains free
