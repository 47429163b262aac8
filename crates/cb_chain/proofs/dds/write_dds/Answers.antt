use Rattle.std.proofs.Common.{◌≡◌, suc, ◌+◌, ◌≤◌, List, [], ◌∷◌, true, false, arith, ap, ◌∙◌, sym, refl}
use Rattle.std.proofs.lemmas.List.{nil_from_length}
use Rattle.std.proofs.lemmas.List.Sums.{sum_by-cons}
use Rattle.jcl_plan.specs.declared.plan.DdPlan.{DdPlan}
use Rattle.cb_meaning.specs.Needs.{records_below}
use Rattle.cb_chain.specs.Taking.{dds_needed, is_more, DdsFrom, dds_needed}
use Rattle.cb_chain.proofs.Among.{true_not_false}
use Rattle.std.proofs.lemmas.List.Elements.{All-head, All-nil, All-rest, All-same}
use Rattle.cb_chain.specs.Written.{HoldsKind, IsFresh}
use Rattle.cb_chain.proofs.SoFar.{begins, ends, goes_on, ready_now, room_now}
use Rattle.cb_chain.proofs.dds.write_dds.Goals as goal

some_needed : (items : List DdPlan) → is_more items ≡ true → 1 ≤ dds_needed items
some_needed [] h = absurd (true_not_false (sym h))
some_needed (x ∷ items) h = let e = sum_by-cons (λ (dd : DdPlan). 1 + records_below dd.kind) x items in omega (arith, e)

more_of : (rest behind : List DdPlan) (dd : DdPlan) → rest ≡ dd ∷ behind → is_more rest ≡ true
more_of rest behind dd is = ap is_more is

needed_by : (rest behind : List DdPlan) (dd : DdPlan) → rest ≡ dd ∷ behind → dds_needed rest ≡ suc (records_below dd.kind + dds_needed behind)
needed_by rest behind dd is = ap dds_needed is ∙ sum_by-cons (λ (dd : DdPlan). 1 + records_below dd.kind) dd behind ∙ omega arith

pub take_if-first-requires-clause-room : goal.take_if-first-requires-clause-room
take_if-first-requires-clause-room g c = λ more.
    let some = some_needed c.args.dds.now (sym c.is_more.ensures ∙ more) in let room = c.requires.room in omega (arith, some, room)

pub loop-dd-init : goal.loop-dd-init
loop-dd-init g c = record {
  so =
      begins c.args.job dds_needed (DdsFrom c.args.layout.now c.args.job) c.args.dds.now (g.S.RecordStore.queue c.args.store.now) c.take_if-first.result
      (g.S.RecordStore.queue c.take_if-first.new.store) c.is_more.result c.is_more.ensures c.take_if-first.ensures.value;
  days = c.requires.days;
  room = c.take_if-first.ensures.room;
}

pub write_dd-here-requires-clause-ready : goal.write_dd-here-requires-clause-ready
write_dd-here-requires-clause-ready g c =
    ready_now c.args.job dds_needed (DdsFrom c.args.layout.now c.args.job) c.args.dds.now c.loop-dd.rest.now (g.S.RecordStore.queue c.args.store.now)
    (g.S.RecordStore.queue c.loop-dd.store) c.take_if-first.result c.loop-dd.here c.loop-dd.invariant.so c.requires.ready

pub write_dd-here-requires-clause-room : goal.write_dd-here-requires-clause-room
write_dd-here-requires-clause-room g c =
    let is : c.loop-dd.rest.now ≡ c.in-Some.dd.now ∷ c.in-Some.behind.now = c.in-Some.ensures.cases.0 in
    let some = more_of c.loop-dd.rest.now c.in-Some.behind.now c.in-Some.dd.now is in
    let room = room_now c.args.job dds_needed (DdsFrom c.args.layout.now c.args.job) c.args.dds.now c.loop-dd.rest.now
    (g.S.RecordStore.queue c.args.store.now)
    (g.S.RecordStore.queue c.loop-dd.store) c.take_if-first.result c.loop-dd.here c.loop-dd.invariant.so some (g.S.RecordStore.lacking c.args.store.now) c.requires.room in
    let needed = needed_by c.loop-dd.rest.now c.in-Some.behind.now c.in-Some.dd.now is in
    let same = c.loop-dd.invariant.room in omega (arith, room, needed, same)

pub write_dd-here-requires-clause-next : goal.write_dd-here-requires-clause-next
write_dd-here-requires-clause-next g c = λ more.
    let is : c.loop-dd.rest.now ≡ c.in-Some.dd.now ∷ c.in-Some.behind.now = c.in-Some.ensures.cases.0 in
    let some = more_of c.loop-dd.rest.now c.in-Some.behind.now c.in-Some.dd.now is in
    let room = room_now c.args.job dds_needed (DdsFrom c.args.layout.now c.args.job) c.args.dds.now c.loop-dd.rest.now
    (g.S.RecordStore.queue c.args.store.now)
    (g.S.RecordStore.queue c.loop-dd.store) c.take_if-first.result c.loop-dd.here c.loop-dd.invariant.so some (g.S.RecordStore.lacking c.args.store.now) c.requires.room in
    let needed = needed_by c.loop-dd.rest.now c.in-Some.behind.now c.in-Some.dd.now is in
    let behind = some_needed c.in-Some.behind.now (sym c.is_more-in-Some.ensures ∙ more) in
    let same = c.loop-dd.invariant.room in omega (arith, room, needed, behind, same)

pub loop-dd-preserved : goal.loop-dd-preserved
loop-dd-preserved g c =
    let is : c.loop-dd.rest.now ≡ c.in-Some.dd.now ∷ c.in-Some.behind.now = c.in-Some.ensures.cases.0 in
    record {
      so =
          goes_on c.args.job dds_needed (DdsFrom c.args.layout.now c.args.job) c.args.dds.now (g.S.RecordStore.queue c.args.store.now) c.take_if-first.result
          c.loop-dd.rest.now c.in-Some.behind.now (c.in-Some.dd.now ∷ []) (g.S.RecordStore.queue c.loop-dd.store) (g.S.RecordStore.queue c.write_dd-here.new.store)
          c.loop-dd.here c.write_dd-here.result (records_below c.in-Some.dd.now.kind) c.is_more-in-Some.result c.is_more-in-Some.ensures c.requires.ready
          (more_of c.loop-dd.rest.now c.in-Some.behind.now c.in-Some.dd.now is) is (needed_by c.loop-dd.rest.now c.in-Some.behind.now c.in-Some.dd.now is)
          c.loop-dd.invariant.so c.write_dd-here.ensures.value;
      days = All-rest (λ (dd : DdPlan). HoldsKind c.args.layout.now dd.kind) c.in-Some.dd.now c.in-Some.behind.now c.loop-dd.rest.now is
          c.loop-dd.invariant.days;
      room = c.write_dd-here.ensures.room ∙ c.loop-dd.invariant.room;
    }

pub returns-clause-value : goal.returns-clause-value
returns-clause-value g c =
    let over : is_more c.loop-dd.rest.now ≡ false = ap is_more (nil_from_length c.loop-dd.rest.now c.in_default.ensures.cases) in
    ends c.args.job dds_needed (DdsFrom c.args.layout.now c.args.job) c.args.dds.now (g.S.RecordStore.queue c.args.store.now) c.take_if-first.result
    (g.S.RecordStore.queue c.loop-dd.store) c.loop-dd.here c.loop-dd.rest.now over refl c.take_if-first.ensures.value.most
    (λ later. ((refl, refl), All-nil (λ n. IsFresh c.args.layout.now (later.at n)))) c.loop-dd.invariant.so

pub write_dd-here-requires-clause-days : goal.write_dd-here-requires-clause-days
write_dd-here-requires-clause-days g c =
    All-head (λ (dd : DdPlan). HoldsKind c.args.layout.now dd.kind) c.in-Some.dd.now c.in-Some.behind.now
    (All-same (λ (dd : DdPlan). HoldsKind c.args.layout.now dd.kind) (c.in-Some.dd.now ∷ c.in-Some.behind.now) c.loop-dd.rest.now
    (sym c.in-Some.ensures.cases.0) c.loop-dd.invariant.days)
