use Rattle.std.proofs.Common.{◌+◌, ◌-◌, ◌≤◌, ◌∙◌, Err, Ok, Result, ℕ, ap, arith, length, subst, sym}
use Rattle.std.specs.Prelude.{OnOk}
use Rattle.std.proofs.lemmas.List.{append-nil, length-take}
use Rattle.std.specs.declared.alloc.AllocError.{AllocError}
use Rattle.cb_queue.specs.RecordQueues.{RecordQueue}
use Rattle.chain_store.specs.Chained.{AreChained, Tables, chained_in, free_in, tables_of}
use Rattle.chain_store.specs.Values.{Linked}
use Rattle.chain_store.proofs.Ops.{chained_room, few_records, free_size, given_reached, queue_room}
use Rattle.chain_store.proofs.Noted.{noted_more, spots_more}
use Rattle.chain_store.proofs.Placed.{noted_room}
use Rattle.record_spans.proofs.Spanned.{spanned_more}
use Rattle.chain_store.proofs.store.ChainStoreRecordStore.make_room.Goals as goal

pub overflow_add-wanted : goal.overflow_add-wanted
overflow_add-wanted c =
    let t = tables_of c.self.inside in
    let h = c.self.invariant.tables in
    let asked = subst (λ (v : Linked). c.args.count ≤ length v.queue.free) (sym c.self.view_is) c.requires in
    let size = free_size t h in
    let few = few_records t h in
    let reached = h.reached in
    let most = h.most in
    let sub = c.saturating_sub.ensures in
    omega (arith, asked, size, few, reached, most, sub)

pub invariant_of-self : goal.invariant_of-self
invariant_of-self c =
    let t = tables_of c.self.inside in
    let h = c.self.invariant.tables in
    let kept = c.more_records.ensures.kept in
    record {
      tables = chained_room t h c.more_records.new.records.items t.owners 0 kept (c.more_records.ensures.whole h.whole) (sym (append-nil t.owners))
          (let room = h.room in let longer = ap length kept in omega (arith, room, longer, length-take (length t.records) c.more_records.new.records.items)) h.most;
      marked = c.self.invariant.marked;
      noted = noted_room t h c.self.inside.spots.items c.self.invariant.noted c.more_records.new.records.items kept;
      spots = c.self.invariant.spots;
      spanned = c.self.invariant.spanned;
    }

pub returns-in_err-more_records-clause-same : goal.returns-in_err-more_records-clause-same
returns-in_err-more_records-clause-same c =
    let t = tables_of c.self.inside in
    let h = c.self.invariant.tables in
    let kept = c.more_records.ensures.kept in
    queue_room t h c.more_records.new.records.items t.owners 0 kept (c.more_records.ensures.whole h.whole) (sym (append-nil t.owners))
    (let room = h.room in let longer = ap length kept in omega (arith, room, longer, length-take (length t.records) c.more_records.new.records.items)) h.most
    ∙ ap (λ (v : Linked). v.queue) c.self.view_is

pub invariant_of-self-in_err-more_spots : goal.invariant_of-self-in_err-more_spots
invariant_of-self-in_err-more_spots c =
    let t = tables_of c.self.inside in
    let h = c.self.invariant.tables in
    let kept = c.more_records.ensures.kept in
    let new = c.more_records.new.records.items in
    let spots = c.more_spots.new.spots.items in
    let more = length spots - length c.self.inside.spots.items in
    record {
      tables = chained_room t h new t.owners 0 kept (c.more_records.ensures.whole h.whole) (sym (append-nil t.owners))
          (let room = h.room in let longer = ap length kept in omega (arith, room, longer, length-take (length t.records) new)) h.most;
      marked = c.self.invariant.marked;
      noted = noted_more c.self.inside.spots.items (chained_in (record t { records = new })) (noted_room t h c.self.inside.spots.items c.self.invariant.noted new kept) spots more
          c.more_spots.ensures.none;
      spots = (let has = c.self.invariant.spots in let size = spots_more c.self.inside.spots.items spots more c.more_spots.ensures.none in omega (arith, has, size));
      spanned = c.self.invariant.spanned;
    }

pub returns-in_err-more_spots-clause-same : goal.returns-in_err-more_spots-clause-same
returns-in_err-more_spots-clause-same c =
    let t = tables_of c.self.inside in
    let h = c.self.invariant.tables in
    let kept = c.more_records.ensures.kept in
    queue_room t h c.more_records.new.records.items t.owners 0 kept (c.more_records.ensures.whole h.whole) (sym (append-nil t.owners))
    (let room = h.room in let longer = ap length kept in omega (arith, room, longer, length-take (length t.records) c.more_records.new.records.items)) h.most
    ∙ ap (λ (v : Linked). v.queue) c.self.view_is

pub invariant_of-self-2 : goal.invariant_of-self-2
invariant_of-self-2 c =
    let t = tables_of c.self.inside in
    let h = c.self.invariant.tables in
    let kept = c.more_records.ensures.kept in
    let new = c.more_records.new.records.items in
    let owners = c.more_owners.new.owners.items in
    let spots = c.more_spots.new.spots.items in
    let more = length spots - length c.self.inside.spots.items in
    let asked = subst (λ (v : Linked). c.args.count ≤ length v.queue.free) (sym c.self.view_is) c.requires in
    let size = free_size t h in
    let reached = h.reached in
    let most = h.most in
    let room = h.room in
    let sub = c.saturating_sub.ensures in
    let longer = ap length kept in
    let cut = length-take (length t.records) new in
    let enough = c.in_ok-more_records.ensures.ok in
    record {
      tables = chained_room t h new owners (length owners - length t.owners) kept (c.more_records.ensures.whole h.whole) c.more_owners.ensures.zeros
          (c.more_owners.ensures.most (length new) (omega (arith, room, longer, cut)) enough)
          (c.more_owners.ensures.most t.layout.most_records most (omega (arith, asked, size, reached, most, sub)));
      marked = c.self.invariant.marked;
      noted = noted_more c.self.inside.spots.items (chained_in (record t { records = new })) (noted_room t h c.self.inside.spots.items c.self.invariant.noted new kept) spots more
          c.more_spots.ensures.none;
      spots = c.more_owners.ensures.most (length spots)
          (let has = c.self.invariant.spots in let longer = spots_more c.self.inside.spots.items spots more c.more_spots.ensures.none in omega (arith, has, longer))
          c.in_ok-more_spots.ensures.ok;
      spanned = spanned_more c.self.inside.spans t.owners owners (length owners - length t.owners) c.more_owners.ensures.zeros c.self.invariant.spanned;
    }

pub returns-clause-same : goal.returns-clause-same
returns-clause-same c =
    let t = tables_of c.self.inside in
    let h = c.self.invariant.tables in
    let kept = c.more_records.ensures.kept in
    let new = c.more_records.new.records.items in
    let owners = c.more_owners.new.owners.items in
    let asked = subst (λ (v : Linked). c.args.count ≤ length v.queue.free) (sym c.self.view_is) c.requires in
    let size = free_size t h in
    let reached = h.reached in
    let most = h.most in
    let room = h.room in
    let sub = c.saturating_sub.ensures in
    let longer = ap length kept in
    let cut = length-take (length t.records) new in
    let enough = c.in_ok-more_records.ensures.ok in
    queue_room t h new owners (length owners - length t.owners) kept (c.more_records.ensures.whole h.whole) c.more_owners.ensures.zeros
    (c.more_owners.ensures.most (length new) (omega (arith, room, longer, cut)) enough)
    (c.more_owners.ensures.most t.layout.most_records most (omega (arith, asked, size, reached, most, sub)))
    ∙ ap (λ (v : Linked). v.queue) c.self.view_is

room_for : (t : Tables) (h : AreChained t) (r : Result (Unit {0}) AllocError) (count wanted owners : ℕ) → OnOk r (wanted ≤ owners) → t.reached + (count - t.free_count) ≤ wanted →
    count ≤ length (free_in t) → owners ≤ t.layout.most_records → OnOk r (t.layout.most_records - owners + count ≤ length (free_in t))
room_for t h (Ok u) count wanted owners ok is asked most =
    let size = free_size t h in
    let given = given_reached t h in
    let reached = h.reached in
    omega (arith, ok, is, asked, most, size, given, reached)
room_for t h (Err e) count wanted owners ok is asked most = tt

pub returns-clause-room : goal.returns-clause-room
returns-clause-room c =
    let t = tables_of c.self.inside in
    let h = c.self.invariant.tables in
    let owners = c.more_owners.new.owners.items in
    let asked = subst (λ (v : Linked). c.args.count ≤ length v.queue.free) (sym c.self.view_is) c.requires in
    let size = free_size t h in
    let reached = h.reached in
    let most = h.most in
    let sub = c.saturating_sub.ensures in
    let kept = c.more_records.ensures.kept in
    let new = c.more_records.new.records.items in
    let room = h.room in
    let longer = ap length kept in
    let cut = length-take (length t.records) new in
    let enough = c.in_ok-more_records.ensures.ok in
    let same = queue_room t h new owners (length owners - length t.owners) kept (c.more_records.ensures.whole h.whole) c.more_owners.ensures.zeros
    (c.more_owners.ensures.most (length new) (omega (arith, room, longer, cut)) enough)
    (c.more_owners.ensures.most t.layout.most_records most (omega (arith, asked, size, reached, most, sub))) in
    subst (λ (q : RecordQueue). OnOk c.more_owners.result (t.layout.most_records - length owners + c.args.count ≤ length q.free)) (sym same)
    (room_for t h c.more_owners.result c.args.count _ (length owners) c.more_owners.ensures.ok (omega (arith, sub)) asked
    (c.more_owners.ensures.most t.layout.most_records most (omega (arith, asked, size, reached, most, sub))))
