use Rattle.std.proofs.Common.{◌≡◌, ◌-◌, ◌<◌, ◌∙◌, ap, arith, get_or, length, suc, sym}
use Rattle.cb_queue.specs.RecordQueues.{owner_at, record_at}
use Rattle.chain_store.specs.Chained.{queue_in, tables_of}
use Rattle.chain_store.specs.Values.{Linked}
use Rattle.chain_store.proofs.Ops.{none_there, owner_there}
use Rattle.chain_store.proofs.store.ChainStore.owner.Goals as goal

pub returns-in-Some : goal.returns-in-Some
returns-in-Some c =
    let t = tables_of c.self.inside in
    let found = c.in-Some.ensures.lookup in
    let is : suc (c.args.n - 1) ≡ c.args.n = omega (arith, c.if-n-eq0.false) in
    let here : c.args.n - 1 < length t.owners = (let size = ap length c.deref.ensures.value in omega (arith, found.3.0, size)) in
    let read : c.in-Some.owner.now ≡ get_or t.owners (c.args.n - 1) 0 = found.3.1 0 ∙ ap (λ xs. get_or xs (c.args.n - 1) 0) c.deref.ensures.value in
    record {
      value = read ∙ owner_there t c.self.invariant.tables (suc (c.args.n - 1)) ∙ ap (owner_at (queue_in t)) is ∙ ap (λ (v : Linked). owner_at v.queue c.args.n) c.self.view_is;
      none = λ e.
          sym (ap (λ (v : Linked). record_at v.queue c.args.n) c.self.view_is) ∙ sym (ap (record_at (queue_in t)) is)
          ∙ none_there t c.self.invariant.tables (c.args.n - 1) here (sym read ∙ e);
    }
