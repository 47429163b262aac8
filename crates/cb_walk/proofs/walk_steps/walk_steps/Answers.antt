use Rattle.std.proofs.Common.{ℕ, suc, Bool, List, [], ap, sym, subst, ◌∙◌, ◌≢◌, arith, length}
use Rattle.std.specs.Prelude.{Ok}
use Rattle.cb_walk.specs.Follows.{Refuses}
use Rattle.cb_walk.specs.Steps.{PassesStep, steps_from}
use Rattle.cb_walk.proofs.Onward.{all_passed, none_left, one_refused}
use Rattle.cb_walk.proofs.PassingSteps.{step_passed, steps_end, steps_none, steps_other}
use Rattle.cb_walk.proofs.walk_steps.walk_steps.Goals as goal

pub loop-left-init : goal.loop-left-init
loop-left-init g c =
    let none = ap length c.empty-steps.ensures in
    record {
      few = omega (arith, none);
      goes = λ seen marked. (
        seen,
        marked,
        ap (λ x. steps_from (g.S.RecordStore.queue c.args.store.now) c.args.units c.args.job c.args.fuel c.args.stated x c.args.first seen)
            (sym c.empty-steps.ensures),
      );
    }

pub returns : goal.returns
returns g c =
    let q = g.S.RecordStore.queue c.args.store.now in
    none_left (λ x. steps_from q c.args.units c.args.job x c.args.stated c.loop-left.steps c.loop-left.n) c.loop-left.left c.args.marks.now c.loop-left.marks
    (steps_from q c.args.units c.args.job c.args.fuel c.args.stated [] c.args.first) c.loop-left.invariant.goes c.loop-left-test.false
    (steps_none q c.args.units c.args.job c.args.stated c.loop-left.steps c.loop-left.n c.loop-left.marks)

pub returns-then-len-stated : goal.returns-then-len-stated
returns-then-len-stated g c =
    let q = g.S.RecordStore.queue c.args.store.now in
    all_passed (λ x. steps_from q c.args.units c.args.job x c.args.stated c.loop-left.steps c.loop-left.n) c.loop-left.left c.args.marks.now c.loop-left.marks
    (steps_from q c.args.units c.args.job c.args.fuel c.args.stated [] c.args.first) c.loop-left.invariant.goes c.loop-left-test.true (λ met. Ok met)
    (steps_end q c.args.units c.args.job c.args.stated c.loop-left.steps c.loop-left.n c.loop-left.marks c.if-n-eq0.true
    (sym c.len.ensures ∙ c.if-len-stated.true))

pub returns-then-n-eq0 : goal.returns-then-n-eq0
returns-then-n-eq0 g c =
    let q = g.S.RecordStore.queue c.args.store.now in
    let other : c.len.result ≢ c.args.stated = c.if-len-stated.false in
    one_refused (λ x. steps_from q c.args.units c.args.job x c.args.stated c.loop-left.steps c.loop-left.n) c.loop-left.left c.args.marks.now c.loop-left.marks
    (steps_from q c.args.units c.args.job c.args.fuel c.args.stated [] c.args.first) c.loop-left.invariant.goes c.loop-left-test.true 5
    (steps_other q c.args.units c.args.job c.args.stated c.loop-left.steps c.loop-left.n c.loop-left.marks c.if-n-eq0.true
    (λ e. other (c.len.ensures ∙ e)))

pub returns-in-Err : goal.returns-in-Err
returns-in-Err g c =
    let q = g.S.RecordStore.queue c.args.store.now in
    let refuses = subst (PassesStep q c.args.units c.args.job c.as_slice.result.now c.loop-left.n c.loop-left.marks c.pass_step.new.marks) c.in-Err.is
    c.in_ok-dds.ensures in
    let P : List (List Bool) → Type 0 = λ x.
    (fuel : ℕ) → Refuses c.loop-left.marks (steps_from q c.args.units c.args.job (suc fuel) c.args.stated x c.loop-left.n) c.in-Err.fault in
    one_refused (λ x. steps_from q c.args.units c.args.job x c.args.stated c.loop-left.steps c.loop-left.n) c.loop-left.left c.args.marks.now c.loop-left.marks
    (steps_from q c.args.units c.args.job c.args.fuel c.args.stated [] c.args.first) c.loop-left.invariant.goes c.loop-left-test.true c.in-Err.fault
    (subst P c.as_slice.ensures (λ fuel. refuses fuel c.args.stated))

pub loop-left-preserved : goal.loop-left-preserved
loop-left-preserved g c =
    let q = g.S.RecordStore.queue c.args.store.now in
    let passes = subst (PassesStep q c.args.units c.args.job c.as_slice.result.now c.loop-left.n c.loop-left.marks c.pass_step.new.marks) c.in-Ok.is
    c.in_ok-dds.ensures in
    let on = step_passed q c.args.units c.args.job c.loop-left.left c.args.stated c.loop-left.steps c.as_slice.result.now c.push.new.self c.loop-left.n
    c.in-Ok.next c.in-Ok.dds c.args.marks.now c.loop-left.marks c.pass_step.new.marks
    (steps_from q c.args.units c.args.job c.args.fuel c.args.stated [] c.args.first) c.as_slice.ensures c.in_ok-push-in-Ok.ensures.ok
    c.loop-left.invariant.goes c.loop-left-test.true passes in
    record { few = on.0; goes = on.1 }
