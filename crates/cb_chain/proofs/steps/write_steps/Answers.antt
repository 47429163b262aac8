use Rattle.std.proofs.Common.{◌≡◌, suc, ◌+◌, ◌≤◌, List, [], ◌∷◌, length, true, false, arith, ap, ◌∙◌, sym, refl}
use Rattle.std.proofs.lemmas.List.{nil_from_length}
use Rattle.std.proofs.lemmas.List.Sums.{sum_by-cons}
use Rattle.jcl_plan.specs.declared.plan.StepPlan.{StepPlan}
use Rattle.cb_meaning.specs.Needs.{records_of_step}
use Rattle.std.proofs.lemmas.List.Elements.{All-head, All-nil, All-rest, All-same}
use Rattle.cb_meaning.specs.Writable.{most_dds}
use Rattle.cb_chain.specs.Taking.{dds_needed, is_more, StepsFrom, steps_needed}
use Rattle.cb_chain.proofs.Among.{true_not_false}
use Rattle.cb_chain.specs.Written.{HoldsDds, IsFresh}
use Rattle.cb_chain.proofs.SoFar.{begins, ends, goes_on, ready_now, room_now}
use Rattle.cb_chain.proofs.steps.write_steps.Goals as goal

some_needed : (items : List StepPlan) → is_more items ≡ true → 1 ≤ steps_needed items
some_needed [] h = absurd (true_not_false (sym h))
some_needed (x ∷ items) h = let e = sum_by-cons records_of_step x items in omega (arith, e)

more_of : (rest behind : List StepPlan) (step : StepPlan) → rest ≡ step ∷ behind → is_more rest ≡ true
more_of rest behind step is = ap is_more is

needed_by : (rest behind : List StepPlan) (step : StepPlan) → rest ≡ step ∷ behind → steps_needed rest ≡ suc (dds_needed step.dds + steps_needed behind)
needed_by rest behind step is = ap steps_needed is ∙ sum_by-cons records_of_step step behind ∙ omega arith

pub take_if-first-requires-clause-room : goal.take_if-first-requires-clause-room
take_if-first-requires-clause-room g c = λ more.
    let some = some_needed c.args.steps.now (sym c.is_more.ensures ∙ more) in let room = c.requires.room in omega (arith, some, room)

pub loop-step-init : goal.loop-step-init
loop-step-init g c =
    record {
      so =
          begins c.args.job steps_needed (StepsFrom c.args.layout.now c.args.job) c.args.steps.now (g.S.RecordStore.queue c.args.store.now)
          c.take_if-first.result
          (g.S.RecordStore.queue c.take_if-first.new.store) c.is_more.result c.is_more.ensures c.take_if-first.ensures.value;
      few = c.requires.few;
      days = c.requires.days;
      room = c.take_if-first.ensures.room;
    }

pub write_step-here-requires-clause-ready : goal.write_step-here-requires-clause-ready
write_step-here-requires-clause-ready g c =
    ready_now c.args.job steps_needed (StepsFrom c.args.layout.now c.args.job) c.args.steps.now c.loop-step.rest.now (g.S.RecordStore.queue c.args.store.now)
    (g.S.RecordStore.queue c.loop-step.store) c.take_if-first.result c.loop-step.here c.loop-step.invariant.so c.requires.ready

pub write_step-here-requires-clause-room : goal.write_step-here-requires-clause-room
write_step-here-requires-clause-room g c =
    let is : c.loop-step.rest.now ≡ c.in-Some.step.now ∷ c.in-Some.behind.now = c.in-Some.ensures.cases.0 in
    let some = more_of c.loop-step.rest.now c.in-Some.behind.now c.in-Some.step.now is in
    let room = room_now c.args.job steps_needed (StepsFrom c.args.layout.now c.args.job) c.args.steps.now c.loop-step.rest.now
    (g.S.RecordStore.queue c.args.store.now)
    (g.S.RecordStore.queue c.loop-step.store) c.take_if-first.result c.loop-step.here c.loop-step.invariant.so some (g.S.RecordStore.lacking c.args.store.now) c.requires.room in
    let needed = needed_by c.loop-step.rest.now c.in-Some.behind.now c.in-Some.step.now is in
    let same = c.loop-step.invariant.room in omega (arith, room, needed, same)

pub write_step-here-requires-clause-next : goal.write_step-here-requires-clause-next
write_step-here-requires-clause-next g c = λ more.
    let is : c.loop-step.rest.now ≡ c.in-Some.step.now ∷ c.in-Some.behind.now = c.in-Some.ensures.cases.0 in
    let some = more_of c.loop-step.rest.now c.in-Some.behind.now c.in-Some.step.now is in
    let room = room_now c.args.job steps_needed (StepsFrom c.args.layout.now c.args.job) c.args.steps.now c.loop-step.rest.now
    (g.S.RecordStore.queue c.args.store.now)
    (g.S.RecordStore.queue c.loop-step.store) c.take_if-first.result c.loop-step.here c.loop-step.invariant.so some (g.S.RecordStore.lacking c.args.store.now) c.requires.room in
    let needed = needed_by c.loop-step.rest.now c.in-Some.behind.now c.in-Some.step.now is in
    let behind = some_needed c.in-Some.behind.now (sym c.is_more-in-Some.ensures ∙ more) in
    let same = c.loop-step.invariant.room in omega (arith, room, needed, behind, same)

pub loop-step-preserved : goal.loop-step-preserved
loop-step-preserved g c =
    let is : c.loop-step.rest.now ≡ c.in-Some.step.now ∷ c.in-Some.behind.now = c.in-Some.ensures.cases.0 in
    record {
      so =
          goes_on c.args.job steps_needed (StepsFrom c.args.layout.now c.args.job) c.args.steps.now (g.S.RecordStore.queue c.args.store.now)
          c.take_if-first.result
          c.loop-step.rest.now c.in-Some.behind.now (c.in-Some.step.now ∷ []) (g.S.RecordStore.queue c.loop-step.store)
          (g.S.RecordStore.queue c.write_step-here.new.store)
          c.loop-step.here c.write_step-here.result (dds_needed c.in-Some.step.now.dds) c.is_more-in-Some.result c.is_more-in-Some.ensures c.requires.ready
          (more_of c.loop-step.rest.now c.in-Some.behind.now c.in-Some.step.now is) is (needed_by c.loop-step.rest.now c.in-Some.behind.now
          c.in-Some.step.now is)
          c.loop-step.invariant.so c.write_step-here.ensures.value;
      few = All-rest (λ (step : StepPlan). length step.dds ≤ most_dds) c.in-Some.step.now c.in-Some.behind.now c.loop-step.rest.now is
          c.loop-step.invariant.few;
      days = All-rest (λ (step : StepPlan). HoldsDds c.args.layout.now step.dds) c.in-Some.step.now c.in-Some.behind.now c.loop-step.rest.now is
          c.loop-step.invariant.days;
      room = c.write_step-here.ensures.room ∙ c.loop-step.invariant.room;
    }

pub returns-clause-value : goal.returns-clause-value
returns-clause-value g c =
    let over : is_more c.loop-step.rest.now ≡ false = ap is_more (nil_from_length c.loop-step.rest.now c.in_default.ensures.cases) in
    ends c.args.job steps_needed (StepsFrom c.args.layout.now c.args.job) c.args.steps.now (g.S.RecordStore.queue c.args.store.now) c.take_if-first.result
    (g.S.RecordStore.queue c.loop-step.store) c.loop-step.here c.loop-step.rest.now over refl c.take_if-first.ensures.value.most
    (λ later. ((refl, refl), All-nil (λ n. IsFresh c.args.layout.now (later.at n))))
    c.loop-step.invariant.so

pub write_step-here-requires-clause-few : goal.write_step-here-requires-clause-few
write_step-here-requires-clause-few g c =
    All-head (λ (step : StepPlan). length step.dds ≤ most_dds) c.in-Some.step.now c.in-Some.behind.now
    (All-same (λ (step : StepPlan). length step.dds ≤ most_dds) (c.in-Some.step.now ∷ c.in-Some.behind.now) c.loop-step.rest.now (sym c.in-Some.ensures.cases.0)
    c.loop-step.invariant.few)

pub write_step-here-requires-clause-days : goal.write_step-here-requires-clause-days
write_step-here-requires-clause-days g c =
    All-head (λ (step : StepPlan). HoldsDds c.args.layout.now step.dds) c.in-Some.step.now c.in-Some.behind.now
    (All-same (λ (step : StepPlan). HoldsDds c.args.layout.now step.dds) (c.in-Some.step.now ∷ c.in-Some.behind.now) c.loop-step.rest.now
    (sym c.in-Some.ensures.cases.0) c.loop-step.invariant.days)
