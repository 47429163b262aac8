use Rattle.std.proofs.Common.{◌≢◌, ◌∙◌, [], ap, sym}
use Rattle.std.specs.Prelude.{Ok}
use Rattle.cb_walk.specs.Dds.{dds_from}
use Rattle.cb_walk.proofs.Onward.{follows_on, refuses_on}
use Rattle.cb_walk.proofs.PassingDds.{all_dds, dd_passed, none_left, other_dds}
use Rattle.cb_walk.proofs.walk_dds.walk_dds.Goals as goal

pub loop-left-init : goal.loop-left-init
loop-left-init g c = λ seen marked. (
  seen,
  marked,
  ap (λ x. dds_from (g.S.RecordStore.queue c.args.store.now) c.args.units c.args.job c.args.fuel c.args.stated c.args.steps.now x
      c.args.first seen) (sym c.empty-dds.ensures),
)

pub returns-then-len-stated : goal.returns-then-len-stated
returns-then-len-stated g c =
    let q = g.S.RecordStore.queue c.args.store.now in
    follows_on c.args.marks.now c.loop-left.marks c.loop-left.marks
    (dds_from q c.args.units c.args.job c.args.fuel c.args.stated c.args.steps.now [] c.args.first)
    (dds_from q c.args.units c.args.job c.loop-left.left c.args.stated c.args.steps.now c.loop-left.dds c.loop-left.n)
    (λ met. Ok (c.loop-left.dds, met)) c.loop-left.invariant
    (all_dds q c.args.units c.args.job c.loop-left.left c.args.stated c.args.steps.now c.loop-left.dds c.loop-left.n c.loop-left.marks
    c.loop-left-test.true c.if-n-eq0.true (sym c.len.ensures ∙ c.if-len-stated.true))

pub returns-else-len-stated : goal.returns-else-len-stated
returns-else-len-stated g c =
    let q = g.S.RecordStore.queue c.args.store.now in
    let other : c.len.result ≢ c.args.stated = c.if-len-stated.false in
    refuses_on c.args.marks.now c.loop-left.marks
    (dds_from q c.args.units c.args.job c.args.fuel c.args.stated c.args.steps.now [] c.args.first)
    (dds_from q c.args.units c.args.job c.loop-left.left c.args.stated c.args.steps.now c.loop-left.dds c.loop-left.n) 5 c.loop-left.invariant
    (other_dds q c.args.units c.args.job c.loop-left.left c.args.stated c.args.steps.now c.loop-left.dds c.loop-left.n c.loop-left.marks
    c.loop-left-test.true c.if-n-eq0.true (λ e. other (c.len.ensures ∙ e)))

pub loop-left-preserved : goal.loop-left-preserved
loop-left-preserved g c =
    let q = g.S.RecordStore.queue c.args.store.now in
    dd_passed q c.args.units c.args.job c.loop-left.left c.args.stated c.args.steps.now c.loop-left.dds c.as_slice.result.now _ c.loop-left.n c.in-Ok.next
    c.in-Ok.set c.args.marks.now c.loop-left.marks c.pass_dd.new.marks
    (dds_from q c.args.units c.args.job c.args.fuel c.args.stated c.args.steps.now [] c.args.first) c.as_slice.ensures c.in_ok-push-in-Ok.ensures.ok
    c.loop-left.invariant c.in-Ok.ensures

pub returns : goal.returns
returns g c =
    let q = g.S.RecordStore.queue c.args.store.now in
    refuses_on c.args.marks.now c.loop-left.marks
    (dds_from q c.args.units c.args.job c.args.fuel c.args.stated c.args.steps.now [] c.args.first)
    (dds_from q c.args.units c.args.job c.loop-left.left c.args.stated c.args.steps.now c.loop-left.dds c.loop-left.n) 4 c.loop-left.invariant
    (none_left q c.args.units c.args.job c.loop-left.left c.args.stated c.args.steps.now c.loop-left.dds c.loop-left.n c.loop-left.marks
    c.loop-left-test.false)
