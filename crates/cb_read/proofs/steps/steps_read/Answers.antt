use Rattle.std.proofs.Common.{◌+◌, ◌++◌, ◌∙◌, ap, [], ◌∷◌, sym, subst, ℕ}
use Rattle.cb_meaning.specs.Fields.{byte_at, number_at}
use Rattle.cb_meaning.specs.Readings.{steps_read}
use Rattle.jcl_plan.specs.declared.plan.StepPlan.{StepPlan}
use Rattle.cb_queue.specs.RecordQueues.{RecordQueue, shown}
use Rattle.cb_records.specs.Writes.{FitsRecord}
use Rattle.cb_read.specs.Chains.{step_of, steps_from}
use Rattle.cb_read.specs.Kinds.{AreDds, IsStepOfKind}
use Rattle.cb_read.specs.Ranges.{IsStepInRange}
use Rattle.cb_read.proofs.Chained.{all_read, steps_chain, item_in_range, more_read, none_follows, rest_in_range}
use Rattle.cb_read.proofs.OfKind.{first_along, rest_along}
use Rattle.cb_read.proofs.steps.steps_read.Goals as goal

abbrev item : RecordQueue → ℕ → StepPlan
item q n = step_of q ((shown q).at n)

abbrev next : RecordQueue → ℕ → ℕ
next q n = number_at ((shown q).at n) q.layout.next_step

pub returns-then-n-eq0 : goal.returns-then-n-eq0
returns-then-n-eq0 g c =
    let q = g.S.RecordStore.queue c.args.store.now in
    none_follows (steps_read q.layout (shown q)) (λ n. item q n ∷ []) (next q) (steps_chain q.layout (shown q)) (steps_from q c.args.first) c.loop-left.steps
    c.loop-left.left c.loop-left.n c.loop-left.invariant.whole c.loop-left-test.true c.if-n-eq0.true

pub invariant_of-view : goal.invariant_of-view
invariant_of-view g c =
    let q = g.S.RecordStore.queue c.args.store.now in
    record {
      of_kind = ap (λ r. byte_at r 0) c.bring.ensures
          ∙ (first_along (next q) (IsStepOfKind q) c.loop-left.left c.loop-left.n c.loop-left-test.true c.if-n-eq0.false c.loop-left.invariant.kinds).kind;
      fits = subst FitsRecord (sym c.layout-layout.ensures.value) c.layout-layout.ensures.sound.own_link.fits;
    }

pub step_read-requires-clause-range : goal.step_read-requires-clause-range
step_read-requires-clause-range g c =
    let q = g.S.RecordStore.queue c.args.store.now in
    subst (λ r. IsStepInRange (step_of q r)) (sym c.bring.ensures)
    (item_in_range (steps_read q.layout (shown q)) (item q) (next q) (steps_chain q.layout (shown q)) c.loop-left.left c.loop-left.n c.loop-left-test.true
    c.if-n-eq0.false IsStepInRange c.loop-left.invariant.range)

pub step_read-requires-clause-kinds : goal.step_read-requires-clause-kinds
step_read-requires-clause-kinds g c =
    let q = g.S.RecordStore.queue c.args.store.now in
    subst (λ r. AreDds q (q.layout.most_records + 1) (number_at r q.layout.first_dd)) (sym c.bring.ensures)
    (first_along (next q) (IsStepOfKind q) c.loop-left.left c.loop-left.n c.loop-left-test.true c.if-n-eq0.false c.loop-left.invariant.kinds).dds

pub loop-left-preserved : goal.loop-left-preserved
loop-left-preserved g c =
    let q = g.S.RecordStore.queue c.args.store.now in
    let on = c.next-n.ensures ∙ (λ i. number_at (c.bring.ensures i) ((c.layout-layout.ensures.value i).next_step)) in
    record {
      kinds = rest_along (next q) (IsStepOfKind q) c.loop-left.left c.loop-left.n c.loop-left-test.true c.if-n-eq0.false c.loop-left.invariant.kinds c.next-n.result on;
      range = rest_in_range (steps_read q.layout (shown q)) (item q) (next q) (steps_chain q.layout (shown q)) c.loop-left.left c.loop-left.n c.loop-left-test.true
          c.if-n-eq0.false IsStepInRange c.loop-left.invariant.range c.next-n.result on;
      whole = more_read (steps_read q.layout (shown q)) (λ n. item q n ∷ []) (next q) (steps_chain q.layout (shown q)) (steps_from q c.args.first) c.loop-left.steps
          c.loop-left.left c.loop-left.n c.loop-left.invariant.whole c.push.new.self c.next-n.result c.loop-left-test.true c.if-n-eq0.false
          (c.in_ok-push.ensures.ok ∙ ap (λ x. c.loop-left.steps ++ x ∷ []) (c.in_ok-step_read.ensures ∙ ap (step_of q) c.bring.ensures)) on;
    }

pub returns : goal.returns
returns g c =
    let q = g.S.RecordStore.queue c.args.store.now in
    all_read (steps_read q.layout (shown q)) (λ n. item q n ∷ []) (next q) (steps_chain q.layout (shown q)) (steps_from q c.args.first) c.loop-left.steps
    c.loop-left.left c.loop-left.n c.loop-left.invariant.whole c.loop-left-test.false
