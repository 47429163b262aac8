use Rattle.std.proofs.Common.{ap, length, subst, sym}
use Rattle.cb_queue.specs.RecordQueues.{HasNoneBetween, RecordQueue}
use Rattle.cb_queue.proofs.Spanned.{none_before, none_behind}
use Rattle.cb_queue.proofs.list_store.ListStore.span.Goals as goal

pub returns-clause-none_before : goal.returns-clause-none_before
returns-clause-none_before c =
    subst (λ q. HasNoneBetween q c.args.owner 0 c.span.result.low) c.self.view_is
    (none_before c.self.inside c.self.invariant c.args.owner c.requires c.span.result c.span.ensures.has)

pub returns-clause-none_behind : goal.returns-clause-none_behind
returns-clause-none_behind c =
    subst (λ (q : RecordQueue). HasNoneBetween q c.args.owner c.span.result.high (length q.records)) c.self.view_is
    (none_behind c.self.inside c.self.invariant c.args.owner c.requires c.span.result c.span.ensures.has)
