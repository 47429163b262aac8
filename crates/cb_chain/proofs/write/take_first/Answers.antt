use Rattle.std.proofs.Common.{◌≡◌, Some, ◌∙◌, subst, sym, true}
use Rattle.cb_queue.specs.RecordQueues.{next_free}
use Rattle.cb_chain.specs.Taking.{IsReady, TakesIf}
use Rattle.cb_chain.proofs.Stored.{takes}
use Rattle.cb_chain.proofs.Whole.{ready_from}
use Rattle.cb_chain.proofs.write.take_first.Goals as goal

pub returns : goal.returns
returns g c =
    let old = g.S.RecordStore.queue c.args.store.now in
    let ready : IsReady old = ready_from old c.requires.holds c.layout-layout.ensures.sound in
    let some : Some c.unwrap.result ≡ next_free old = sym c.unwrap.ensures ∙ c.take_free.ensures.answer in
    record {
      next = some;
      value = c.take_free.ensures.taken;
      takes = subst (λ q. TakesIf c.args.job true old q c.unwrap.result) (sym c.take_free.ensures.taken) (takes old c.args.job c.unwrap.result ready some);
      ready = ready;
      room = c.take_free.ensures.room;
    }
