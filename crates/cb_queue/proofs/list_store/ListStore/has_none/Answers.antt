use Rattle.std.proofs.Common.{◌∙◌, ap, arith, length, subst}
use Rattle.std.specs.Prelude.{slice_range}
use Rattle.cb_queue.specs.RecordQueues.{HasNoneBetween}
use Rattle.cb_queue.proofs.Uses.{none_between, none_in}
use Rattle.cb_queue.proofs.list_store.ListStore.has_none.Goals as goal

pub returns-in-Some : goal.returns-in-Some
returns-in-Some c = λ none.
    let found = c.in-Some.ensures.lookup.0 in
    let size = ap length c.deref.ensures.value in
    subst (λ q. HasNoneBetween q c.args.owner c.args.low c.args.high) c.self.view_is
    (none_between c.self.inside c.self.invariant.0 c.args.owner c.args.low c.args.high c.in-Some.owners.now found.0 (omega (arith, found.1, size)) (found.2 ∙ ap (λ xs. slice_range xs c.args.low c.args.high) c.deref.ensures.value) found.3 (none_in c.contains.result _ _ c.contains.ensures.cases none))
