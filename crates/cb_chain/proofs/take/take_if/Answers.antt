use Rattle.std.proofs.Common.{◌≡◌, Some, sym, ◌∙◌, subst, true}
use Rattle.cb_queue.specs.RecordQueues.{next_free}
use Rattle.cb_chain.specs.Taking.{TakesIf}
use Rattle.cb_chain.proofs.Stored.{takes}
use Rattle.cb_chain.proofs.take.take_if.Goals as goal

pub returns-then-more-clause-value : goal.returns-then-more-clause-value
returns-then-more-clause-value g c =
    let old = g.S.RecordStore.queue c.args.store.now in
    let some : Some c.unwrap.result ≡ next_free old = sym c.unwrap.ensures ∙ c.take_free.ensures.answer in
    let took = takes old c.args.job c.unwrap.result c.requires.ready some in
    let more : c.args.more ≡ true = c.if-more.true in
    subst (λ b. TakesIf c.args.job b old (g.S.RecordStore.queue c.take_free.new.self) c.unwrap.result) (sym more)
    (subst (λ q. TakesIf c.args.job true old q c.unwrap.result) (sym c.take_free.ensures.taken) took)
