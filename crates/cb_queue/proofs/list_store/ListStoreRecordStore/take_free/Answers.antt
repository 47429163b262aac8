use Rattle.std.proofs.Common.{◌≡◌, ◌+◌, ◌-◌, ◌<◌, ◌∙◌, ap, arith, subst, sym}
use Rattle.std.specs.Prelude.{slice_set}
use Rattle.std.proofs.lemmas.List.Elements.{All-same}
use Rattle.cb_queue.specs.RecordQueues.{next_free, taken, zero_record}
use Rattle.cb_queue.specs.Stored.{AreStored, seen_in}
use Rattle.record_spans.proofs.Spanned.{spanned_taken}
use Rattle.cb_queue.proofs.Uses.{answer_there, number, taken_seen, taken_stored}
use Rattle.cb_queue.proofs.list_store.ListStoreRecordStore.take_free.Goals as goal

pub overflow_sub-n : goal.overflow_sub-n
overflow_sub-n c =
    let more : c.self.inside.free_count - 1 + 1 ≡ c.self.inside.free_count = omega (arith, c.if-self-eq0.false) in
    (number c.self.inside c.self.invariant.0 c.index-n.result.now (c.self.inside.free_count - 1) c.args.owner more c.index-n.ensures c.requires.owner).0

pub index_mut-requires : goal.index_mut-requires
index_mut-requires c =
    let more : c.self.inside.free_count - 1 + 1 ≡ c.self.inside.free_count = omega (arith, c.if-self-eq0.false) in
    let n = number c.self.inside c.self.invariant.0 c.index-n.result.now (c.self.inside.free_count - 1) c.args.owner more c.index-n.ensures c.requires.owner in
    let room = c.self.invariant.0.records_room in
    let whole = c.self.inside.records.ok.0 in
    omega (arith, n.0, n.1, room, whole)

pub overflow_sub-n-2 : goal.overflow_sub-n-2
overflow_sub-n-2 c =
    let more : c.self.inside.free_count - 1 + 1 ≡ c.self.inside.free_count = omega (arith, c.if-self-eq0.false) in
    (number c.self.inside c.self.invariant.0 c.index-n.result.now (c.self.inside.free_count - 1) c.args.owner more c.index-n.ensures c.requires.owner).0

pub index_mut-requires-2 : goal.index_mut-requires-2
index_mut-requires-2 c =
    let more : c.self.inside.free_count - 1 + 1 ≡ c.self.inside.free_count = omega (arith, c.if-self-eq0.false) in
    let n = number c.self.inside c.self.invariant.0 c.index-n.result.now (c.self.inside.free_count - 1) c.args.owner more c.index-n.ensures c.requires.owner in
    let room = c.self.invariant.0.owners_room in
    let whole = c.self.inside.owners.ok.0 in
    omega (arith, n.0, n.1, room, whole)

pub widen-requires : goal.widen-requires
widen-requires c =
    let more : c.self.inside.free_count - 1 + 1 ≡ c.self.inside.free_count = omega (arith, c.if-self-eq0.false) in
    (number c.self.inside c.self.invariant.0 c.index-n.result.now (c.self.inside.free_count - 1) c.args.owner more c.index-n.ensures c.requires.owner).0

pub invariant_of-self : goal.invariant_of-self
invariant_of-self c =
    let a = c.self.inside in
    let n = c.index-n.result.now in
    let more : a.free_count - 1 + 1 ≡ a.free_count = omega (arith, c.if-self-eq0.false) in
    let at = number a c.self.invariant.0 n (a.free_count - 1) c.args.owner more c.index-n.ensures c.requires.owner in (
      subst (λ r. AreStored a.layout (slice_set a.owners.items (n - 1) c.args.owner) (slice_set a.records.items (n - 1) r) a.free.items (a.free_count - 1) a.waiting)
          (sym c.write_zero_record.ensures.value) (taken_stored a c.self.invariant.0 n (a.free_count - 1) c.args.owner more c.index-n.ensures c.requires.owner
          (All-same (λ b. b < 256) (zero_record c.args.owner) c.write_zero_record.new.own (sym c.write_zero_record.ensures.value) c.write_zero_record.ensures.bytes)),
      spanned_taken a.spans c.widen.new.self a.owners.items (n - 1) c.args.owner c.widen.ensures.still c.widen.ensures.further c.self.invariant.1,
    )

pub returns-clause-answer : goal.returns-clause-answer
returns-clause-answer c =
    let more : c.self.inside.free_count - 1 + 1 ≡ c.self.inside.free_count = omega (arith, c.if-self-eq0.false) in
    answer_there c.self.inside c.self.invariant.0 c.index-n.result.now (c.self.inside.free_count - 1) c.args.owner more c.index-n.ensures c.requires.owner
    ∙ ap next_free c.self.view_is

pub returns-clause-taken : goal.returns-clause-taken
returns-clause-taken c =
    let a = c.self.inside in
    let n = c.index-n.result.now in
    let more : a.free_count - 1 + 1 ≡ a.free_count = omega (arith, c.if-self-eq0.false) in
    ap (λ r. seen_in a.layout (slice_set a.owners.items (n - 1) c.args.owner) (slice_set a.records.items (n - 1) r) a.free.items (a.free_count - 1) a.waiting) c.write_zero_record.ensures.value
    ∙ taken_seen a c.self.invariant.0 n (a.free_count - 1) c.args.owner more c.index-n.ensures c.requires.owner ∙ ap (λ q. taken q c.args.owner) c.self.view_is
