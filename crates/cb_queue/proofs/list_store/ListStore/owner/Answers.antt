use Rattle.std.proofs.Common.{◌≡◌, ◌-◌, ◌<◌, ◌≤◌, ◌∙◌, ap, arith, get_or, length, sym}
use Rattle.cb_queue.specs.RecordQueues.{owner_at, record_at}
use Rattle.cb_queue.proofs.Uses.{none_read, owner_read}
use Rattle.cb_queue.proofs.list_store.ListStore.owner.Goals as goal

pub returns-in-Some : goal.returns-in-Some
returns-in-Some c =
    let found = c.in-Some.ensures.lookup in
    let from : 1 ≤ c.args.n = omega (arith, c.if-n-eq0.false) in
    let to : c.args.n - 1 < c.self.inside.layout.most_records =
    (let room = c.self.invariant.0.owners_room in let size = ap length c.deref.ensures.value in omega (arith, found.3.0, room, size)) in
    let read : c.in-Some.owner.now ≡ get_or c.self.inside.owners.items (c.args.n - 1) 0 =
    found.3.1 0 ∙ ap (λ xs. get_or xs (c.args.n - 1) 0) c.deref.ensures.value in
    record {
      value = read ∙ owner_read c.self.inside c.self.invariant.0 c.args.n from to ∙ ap (λ q. owner_at q c.args.n) c.self.view_is;
      none = λ e. sym (ap (λ q. record_at q c.args.n) c.self.view_is) ∙ none_read c.self.inside c.self.invariant.0 c.args.n from to (sym read ∙ e);
    }
