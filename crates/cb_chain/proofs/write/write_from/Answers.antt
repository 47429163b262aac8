use Rattle.std.proofs.Common.{◌≤◌, List, [], ◌∷◌, length, false, ◌∙◌, sym, subst}
use Rattle.std.proofs.lemmas.List.Elements.{All-same}
use Rattle.jcl_plan.specs.declared.plan.StepPlan.{StepPlan}
use Rattle.cb_meaning.specs.declared.layout.Layout.{Layout}
use Rattle.cb_meaning.specs.Writable.{most_dds}
use Rattle.cb_chain.specs.Taking.{IsTaken, Writes, OfSteps, steps_needed}
use Rattle.cb_chain.specs.Written.{HoldsDds, HoldsSteps}
use Rattle.cb_chain.proofs.Linked.{its_owner, none_after, used}
use Rattle.cb_chain.proofs.Whole.{few_dds, written}
use Rattle.cb_chain.proofs.write.write_from.Goals as goal

pub write_steps-first_step-requires-clause-few : goal.write_steps-first_step-requires-clause-few
write_steps-first_step-requires-clause-few g c =
    let steps = c.args.plan.now.steps in
    All-same (λ (step : StepPlan). length step.dds ≤ most_dds) c.as_slice.result.now steps c.as_slice.ensures
    (few_dds c.requires.writable.0 steps 1 steps c.requires.writable.1.steps)

pub write_steps-first_step-requires-clause-days : goal.write_steps-first_step-requires-clause-days
write_steps-first_step-requires-clause-days g c =
    let steps = c.args.plan.now.steps in
    let holds : HoldsSteps c.layout.result.now steps = subst (λ (l : Layout). HoldsSteps l steps) (sym c.layout.ensures.value) c.requires.days in
    All-same (λ (step : StepPlan). HoldsDds c.layout.result.now step.dds) c.as_slice.result.now steps c.as_slice.ensures holds

pub put-requires-clause-used : goal.put-requires-clause-used
put-requires-clause-used g c =
    let q = g.S.RecordStore.queue c.args.store.now in
    let later = g.S.RecordStore.queue c.write_steps-first_step.new.store in
    used c.args.job c.args.first q later later c.write_steps-first_step.ensures.value.numbers false 0 c.jct_record.result c.requires.ready c.requires.taken
    c.write_steps-first_step.ensures.value.took (none_after c.args.job later)

pub put-requires-clause-owner : goal.put-requires-clause-owner
put-requires-clause-owner g c =
    let q = g.S.RecordStore.queue c.args.store.now in
    let later = g.S.RecordStore.queue c.write_steps-first_step.new.store in
    c.jct_record.ensures.head.of_job
    ∙ sym (its_owner c.args.job c.args.first q later later c.write_steps-first_step.ensures.value.numbers false 0 c.jct_record.result c.requires.ready
    c.requires.taken c.write_steps-first_step.ensures.value.took (none_after c.args.job later))

pub returns-clause-written : goal.returns-clause-written
returns-clause-written g c = λ before ready takes.
    let q = g.S.RecordStore.queue c.args.store.now in
    let later = g.S.RecordStore.queue c.write_steps-first_step.new.store in
    let l = c.layout.result.now in
    let steps : Writes (steps_needed c.args.plan.now.steps) (OfSteps l c.args.job c.args.plan.now.steps) q later c.write_steps-first_step.result =
    subst (λ (items : List StepPlan). Writes (steps_needed items) (OfSteps l c.args.job items) q later c.write_steps-first_step.result) c.as_slice.ensures
    c.write_steps-first_step.ensures.value in
    written l c.args.job c.args.plan.now before q later (g.S.RecordStore.queue c.put.new.self) c.args.first c.write_steps-first_step.result
    c.jct_record.result ready (c.layout.ensures.value ∙ takes.took.layout) takes steps c.jct_record.ensures c.put.ensures.value
