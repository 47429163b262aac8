use Rattle.std.proofs.Common.{◌∙◌, ap, arith, length, subst}
use Rattle.std.specs.Prelude.{slice_range}
use Rattle.cb_queue.proofs.Uses.{none_in}
use Rattle.cb_queue.specs.RecordQueues.{HasNoneBetween}
use Rattle.chain_store.specs.Chained.{tables_of}
use Rattle.chain_store.specs.Values.{Linked}
use Rattle.chain_store.proofs.Ops.{none_between}
use Rattle.chain_store.proofs.store.ChainStore.has_none.Goals as goal

pub returns-in-Some : goal.returns-in-Some
returns-in-Some c = λ none.
    let found = c.in-Some.ensures.lookup.0 in
    let size = ap length c.deref.ensures.value in
    subst (λ (v : Linked). HasNoneBetween v.queue c.args.owner c.args.low c.args.high) c.self.view_is
    (none_between (tables_of c.self.inside) c.self.invariant.tables c.args.owner c.args.low c.args.high c.in-Some.owners.now found.0 (omega (arith, found.1, size))
    (found.2 ∙ ap (λ xs. slice_range xs c.args.low c.args.high) c.deref.ensures.value) found.3 (none_in c.contains.result _ _ c.contains.ensures.cases none))
