use Rattle.std.proofs.Common.{◌≡◌, ◌≢◌, ◌-◌, ◌∙◌, All, ap, arith, subst, sym, true}
use Rattle.std.specs.Prelude.{is_some}
use Rattle.cb_queue.specs.RecordQueues.{RecordQueue, given_back, record_at}
use Rattle.cb_queue.specs.Stored.{seen}
use Rattle.record_spans.proofs.Spanned.{spanned_given}
use Rattle.cb_queue.proofs.Uses.{given_seen, given_stored, reach, room_there}
use Rattle.cb_queue.proofs.list_store.ListStoreRecordStore.give_back.Goals as goal

pub index_mut-requires : goal.index_mut-requires
index_mut-requires c =
    let used : is_some (record_at (seen c.self.inside) c.args.n) ≡ true = rw c.self.view_is c.requires.used in
    let below = reach c.self.inside c.self.invariant.0 c.args.n used in
    let room = c.self.invariant.0.owners_room in
    let whole = c.self.inside.owners.ok.0 in
    omega (arith, below, room, whole)

pub index_mut-requires-2 : goal.index_mut-requires-2
index_mut-requires-2 c =
    let used : is_some (record_at (seen c.self.inside) c.args.n) ≡ true = rw c.self.view_is c.requires.used in
    let below = room_there c.self.inside c.self.invariant.0 c.args.n used in
    let whole = c.self.inside.free.ok.0 in
    omega (arith, below, whole)

pub overflow_add-self : goal.overflow_add-self
overflow_add-self c =
    let used : is_some (record_at (seen c.self.inside) c.args.n) ≡ true = rw c.self.view_is c.requires.used in
    let below = room_there c.self.inside c.self.invariant.0 c.args.n used in
    let room = c.self.invariant.0.stack_room in
    let few = c.self.invariant.0.few in
    omega (arith, below, room, few)

pub invariant_of-self : goal.invariant_of-self
invariant_of-self c =
    let used : is_some (record_at (seen c.self.inside) c.args.n) ≡ true = rw c.self.view_is c.requires.used in (
      given_stored c.self.inside c.self.invariant.0 c.args.n used
          (subst (λ (q : RecordQueue). All (λ x. x.jct ≢ c.args.n) q.waiting) (sym c.self.view_is) c.requires.unqueued),
      spanned_given c.self.inside.spans c.self.inside.owners.items (c.args.n - 1) c.self.invariant.1,
    )

pub returns-clause-value : goal.returns-clause-value
returns-clause-value c =
    let used : is_some (record_at (seen c.self.inside) c.args.n) ≡ true = rw c.self.view_is c.requires.used in
    given_seen c.self.inside c.self.invariant.0 c.args.n used ∙ ap (λ q. given_back q c.args.n) c.self.view_is
