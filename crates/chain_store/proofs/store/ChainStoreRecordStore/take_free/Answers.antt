use Rattle.std.proofs.Common.{◌≡◌, ◌+◌, ◌-◌, ◌<◌, ◌≤◌, ◌∙◌, [], ap, arith, length, length-set, subst, suc, sym}
use Rattle.std.specs.Prelude.{slice_set}
use Rattle.std.proofs.lemmas.List.{get_or_read}
use Rattle.cb_meaning.specs.Fields.{number_at}
use Rattle.cb_queue.specs.RecordQueues.{next_free, taken, zero_record}
use Rattle.chain_store.specs.Chained.{AreChained, link_in, queue_in, tables_of}
use Rattle.chain_store.specs.Links.{Changes}
use Rattle.chain_store.specs.Values.{Linked}
use Rattle.chain_store.proofs.Placed.{noted_relinked}
use Rattle.record_spans.proofs.Spanned.{spanned_taken}
use Rattle.chain_store.proofs.Taking.{answer_fresh, answer_given, chained_from_fresh, chained_from_given, first_there, fresh_there, out_fresh, out_given, queue_from_fresh, queue_from_given}
use Rattle.chain_store.proofs.store.ChainStoreRecordStore.take_free.Goals as goal

pub overflow_sub-n : goal.overflow_sub-n
overflow_sub-n c = (first_there (tables_of c.self.inside) c.self.invariant.tables c.args.owner c.requires.owner c.ranges.owner.fits c.if-self-ne0.true).0

pub index-requires : goal.index-requires
index-requires c =
    let there = first_there (tables_of c.self.inside) c.self.invariant.tables c.args.owner c.requires.owner c.ranges.owner.fits c.if-self-ne0.true in
    let room = c.self.invariant.tables.room in
    let whole = c.self.inside.records.ok.0 in
    omega (arith, there.0, there.1, room, whole)

pub renew-requires-clause-from_one : goal.renew-requires-clause-from_one
renew-requires-clause-from_one c =
    let there = first_there (tables_of c.self.inside) c.self.invariant.tables c.args.owner c.requires.owner c.ranges.owner.fits c.if-self-ne0.true in
    omega (arith, there.0)

pub renew-requires-clause-there : goal.renew-requires-clause-there
renew-requires-clause-there c =
    let there = first_there (tables_of c.self.inside) c.self.invariant.tables c.args.owner c.requires.owner c.ranges.owner.fits c.if-self-ne0.true in
    let room = c.self.invariant.tables.room in
    omega (arith, there.1, room)

pub overflow_sub-n-then-self-ne0 : goal.overflow_sub-n-then-self-ne0
overflow_sub-n-then-self-ne0 c = (first_there (tables_of c.self.inside) c.self.invariant.tables c.args.owner c.requires.owner c.ranges.owner.fits c.if-self-ne0.true).0

pub index_mut-requires : goal.index_mut-requires
index_mut-requires c =
    let there = first_there (tables_of c.self.inside) c.self.invariant.tables c.args.owner c.requires.owner c.ranges.owner.fits c.if-self-ne0.true in
    let whole = c.self.inside.owners.ok.0 in
    omega (arith, there.0, there.1, whole)

pub widen-requires : goal.widen-requires
widen-requires c =
    let there = first_there (tables_of c.self.inside) c.self.invariant.tables c.args.owner c.requires.owner c.ranges.owner.fits c.if-self-ne0.true in
    omega (arith, there.0)

pub invariant_of-self : goal.invariant_of-self
invariant_of-self c =
    let t = tables_of c.self.inside in
    let h = c.self.invariant.tables in
    let there = first_there t h c.args.owner c.requires.owner c.ranges.owner.fits c.if-self-ne0.true in
    let here : t.first_free - 1 < length t.records = (let room = h.room in omega (arith, there.0, there.1, room)) in
    let is : suc (t.first_free - 1) ≡ t.first_free = omega (arith, there.0) in
    let led : c.number-self-inside.result ≡ link_in t t.first_free =
    c.number-self-inside.ensures.value
    ∙ ap (λ r. number_at r t.layout.link) (get_or_read t.records (t.first_free - 1) c.index.result.now here c.index.ensures []) ∙ ap (link_in t) is in
    record {
      tables = chained_from_given t h c.args.owner c.requires.owner c.ranges.owner.fits c.if-self-ne0.true c.renew.new.records.items c.number-self-inside.result led
          c.number-self-inside.ensures.small c.renew.ensures.change c.renew.ensures.bytes;
      marked = c.self.invariant.marked;
      noted = noted_relinked t h c.self.inside.spots.items c.self.invariant.noted c.renew.new.records.items (t.first_free - 1) (zero_record c.args.owner) c.renew.ensures.change
          (out_given t h c.args.owner c.requires.owner c.ranges.owner.fits c.if-self-ne0.true);
      spots = (let has = c.self.invariant.spots in let size = length-set t.owners (t.first_free - 1) c.args.owner in omega (arith, has, size));
      spanned = spanned_taken c.self.inside.spans c.widen.new.self c.self.inside.owners.items (t.first_free - 1) c.args.owner c.widen.ensures.still c.widen.ensures.further
          c.self.invariant.spanned;
    }

pub returns-then-self-ne0-clause-answer : goal.returns-then-self-ne0-clause-answer
returns-then-self-ne0-clause-answer c =
    answer_given (tables_of c.self.inside) c.self.invariant.tables c.args.owner c.requires.owner c.ranges.owner.fits c.if-self-ne0.true
    ∙ ap (λ (v : Linked). next_free v.queue) c.self.view_is

pub returns-then-self-ne0-clause-taken : goal.returns-then-self-ne0-clause-taken
returns-then-self-ne0-clause-taken c =
    let t = tables_of c.self.inside in
    let h = c.self.invariant.tables in
    let there = first_there t h c.args.owner c.requires.owner c.ranges.owner.fits c.if-self-ne0.true in
    let here : t.first_free - 1 < length t.records = (let room = h.room in omega (arith, there.0, there.1, room)) in
    let is : suc (t.first_free - 1) ≡ t.first_free = omega (arith, there.0) in
    let led : c.number-self-inside.result ≡ link_in t t.first_free =
    c.number-self-inside.ensures.value
    ∙ ap (λ r. number_at r t.layout.link) (get_or_read t.records (t.first_free - 1) c.index.result.now here c.index.ensures []) ∙ ap (link_in t) is in
    queue_from_given t h c.args.owner c.requires.owner c.ranges.owner.fits c.if-self-ne0.true c.renew.new.records.items c.number-self-inside.result led
    c.number-self-inside.ensures.small c.renew.ensures.change c.renew.ensures.bytes
    ∙ ap (λ (v : Linked). taken v.queue c.args.owner) c.self.view_is

pub renew-requires-2-clause-there : goal.renew-requires-2-clause-there
renew-requires-2-clause-there c =
    let t = tables_of c.self.inside in
    let h = c.self.invariant.tables in
    let enough = subst (λ (v : Linked). 1 ≤ length v.queue.free → v.lacking + 1 ≤ length v.queue.free) (sym c.self.view_is) c.requires.room in
    let there = fresh_there t h c.args.owner c.requires.owner c.ranges.owner.fits c.if-self-ne0.false c.if-self.false enough in
    let room = h.room in
    omega (arith, there, room)

pub index_mut-requires-2 : goal.index_mut-requires-2
index_mut-requires-2 c =
    let t = tables_of c.self.inside in
    let h = c.self.invariant.tables in
    let enough = subst (λ (v : Linked). 1 ≤ length v.queue.free → v.lacking + 1 ≤ length v.queue.free) (sym c.self.view_is) c.requires.room in
    let there = fresh_there t h c.args.owner c.requires.owner c.ranges.owner.fits c.if-self-ne0.false c.if-self.false enough in
    let whole = c.self.inside.owners.ok.0 in
    omega (arith, there, whole)

pub invariant_of-self-2 : goal.invariant_of-self-2
invariant_of-self-2 c =
    let t = tables_of c.self.inside in
    let h = c.self.invariant.tables in
    let enough = subst (λ (v : Linked). 1 ≤ length v.queue.free → v.lacking + 1 ≤ length v.queue.free) (sym c.self.view_is) c.requires.room in
    let is : t.reached ≡ t.reached + 1 - 1 = omega arith in
    let change = subst (λ i. Changes t.layout t.records c.renew-2.new.records.items i (zero_record c.args.owner)) (sym is) c.renew-2.ensures.change in
    record {
      tables = subst
          (λ i. AreChained (record t { records = c.renew-2.new.records.items; owners = slice_set t.owners i c.args.owner; first_free = t.first_free; free_count = t.free_count; reached = t.reached + 1 }))
          is
          (chained_from_fresh t h c.args.owner c.requires.owner c.ranges.owner.fits c.if-self-ne0.false c.if-self.false enough c.renew-2.new.records.items change
          c.renew-2.ensures.bytes);
      marked = c.self.invariant.marked;
      noted = noted_relinked t h c.self.inside.spots.items c.self.invariant.noted c.renew-2.new.records.items t.reached (zero_record c.args.owner) change
          (out_fresh t h c.args.owner c.requires.owner c.ranges.owner.fits c.if-self-ne0.false c.if-self.false);
      spots = (let has = c.self.invariant.spots in let size = length-set t.owners (t.reached + 1 - 1) c.args.owner in omega (arith, has, size));
      spanned = spanned_taken c.self.inside.spans c.widen-2.new.self c.self.inside.owners.items (t.reached + 1 - 1) c.args.owner c.widen-2.ensures.still
          c.widen-2.ensures.further c.self.invariant.spanned;
    }

pub returns-clause-answer : goal.returns-clause-answer
returns-clause-answer c =
    answer_fresh (tables_of c.self.inside) c.self.invariant.tables c.args.owner c.requires.owner c.ranges.owner.fits c.if-self-ne0.false c.if-self.false
    ∙ ap (λ (v : Linked). next_free v.queue) c.self.view_is

pub returns-clause-taken : goal.returns-clause-taken
returns-clause-taken c =
    let t = tables_of c.self.inside in
    let h = c.self.invariant.tables in
    let enough = subst (λ (v : Linked). 1 ≤ length v.queue.free → v.lacking + 1 ≤ length v.queue.free) (sym c.self.view_is) c.requires.room in
    let is : t.reached ≡ t.reached + 1 - 1 = omega arith in
    let change = subst (λ i. Changes t.layout t.records c.renew-2.new.records.items i (zero_record c.args.owner)) (sym is) c.renew-2.ensures.change in
    subst
    (λ i. queue_in (record t { records = c.renew-2.new.records.items; owners = slice_set t.owners i c.args.owner; first_free = t.first_free; free_count = t.free_count; reached = t.reached + 1 }) ≡ taken (queue_in t) c.args.owner)
    is
    (queue_from_fresh t h c.args.owner c.requires.owner c.ranges.owner.fits c.if-self-ne0.false c.if-self.false enough c.renew-2.new.records.items change
    c.renew-2.ensures.bytes)
    ∙ ap (λ (v : Linked). taken v.queue c.args.owner) c.self.view_is
