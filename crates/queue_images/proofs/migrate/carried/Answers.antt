use Rattle.std.proofs.Common.{◌≡◌, ◌≤◌, ◌∙◌, All, ap, map, refl, subst, sym, true}
use Rattle.cb_queue.specs.RecordQueues.{RecordQueue}
use Rattle.chain_store.specs.Values.{Linked}
use Rattle.plain.specs.Lists.{are_different}
use Rattle.queue_images.specs.declared.image.WaitingJob.{WaitingJob}
use Rattle.queue_images.specs.Carrying.{AreCarried}
use Rattle.queue_images.specs.Waiting.{CanWait, Wait}
use Rattle.queue_images.proofs.Waited.{are_waiting, once, small, stand, still_carried}
use Rattle.queue_images.proofs.migrate.carried.Goals as goal

pub carry_jobs-requires-clause-loaded : goal.carry_jobs-requires-clause-loaded
carry_jobs-requires-clause-loaded c = (c.args.image.now, c.in_ok-old.ensures)

pub carry_jobs-requires-clause-empty : goal.carry_jobs-requires-clause-empty
carry_jobs-requires-clause-empty c = ap (λ (s : Linked). s.queue) c.in_ok-store.ensures

pub carry_jobs-requires-clause-nothing : goal.carry_jobs-requires-clause-nothing
carry_jobs-requires-clause-nothing c = (c.new-2.ensures.items, c.new-3.ensures.items)

pub let_wait-requires-clause-layout : goal.let_wait-requires-clause-layout
let_wait-requires-clause-layout c = (c.in_ok-carry_jobs.ensures.carried c.args.image.now c.in_ok-old.ensures).layout

pub let_wait-requires-clause-numbers : goal.let_wait-requires-clause-numbers
let_wait-requires-clause-numbers c =
    let kept = c.carry_jobs.new.sorted.kept.items in
    subst (All (λ (w : WaitingJob). w.job ≤ 9999)) (sym c.as_slice.ensures.value)
    (small c.args.image.now c.args.units c.carry_jobs.new.new.queue c.args.jobs.now kept c.carry_jobs.new.sorted.dropped.items c.requires.numbers
    (c.in_ok-carry_jobs.ensures.carried c.args.image.now c.in_ok-old.ensures))

pub let_wait-requires-clause-once : goal.let_wait-requires-clause-once
let_wait-requires-clause-once c =
    let kept = c.carry_jobs.new.sorted.kept.items in
    ap (λ ws. are_different (map (λ (w : WaitingJob). w.job) ws)) c.as_slice.ensures.value
    ∙ once c.args.image.now c.args.units c.carry_jobs.new.new.queue c.args.jobs.now kept c.carry_jobs.new.sorted.dropped.items c.requires.numbers
    (c.in_ok-carry_jobs.ensures.carried c.args.image.now c.in_ok-old.ensures)

pub let_wait-requires-clause-stand : goal.let_wait-requires-clause-stand
let_wait-requires-clause-stand c =
    let kept = c.carry_jobs.new.sorted.kept.items in
    subst (All (CanWait c.carry_jobs.new.new.queue)) (sym c.as_slice.ensures.value)
    (stand c.args.image.now c.args.units c.carry_jobs.new.new.queue c.args.jobs.now kept c.carry_jobs.new.sorted.dropped.items c.requires.numbers
    (c.in_ok-carry_jobs.ensures.carried c.args.image.now c.in_ok-old.ensures))

pub returns-clause-carried : goal.returns-clause-carried
returns-clause-carried c =
    let kept = c.carry_jobs.new.sorted.kept.items in
    still_carried c.args.image.now c.args.units c.carry_jobs.new.new.queue c.args.jobs.now kept c.carry_jobs.new.sorted.dropped.items c.requires.numbers
    (c.in_ok-carry_jobs.ensures.carried c.args.image.now c.in_ok-old.ensures) c.let_wait.new.store.queue c.in_ok-waiting.waiting.items c.greatest.result
    c.in_ok-waiting.ensures.rest (subst (λ ws. Wait c.let_wait.new.store.queue ws c.in_ok-waiting.waiting.items) c.as_slice.ensures.value c.in_ok-waiting.ensures.wait)
    c.greatest.ensures

pub returns-clause-waiting : goal.returns-clause-waiting
returns-clause-waiting c =
    let kept = c.carry_jobs.new.sorted.kept.items in
    are_waiting c.args.image.now c.args.units c.carry_jobs.new.new.queue c.args.jobs.now kept c.carry_jobs.new.sorted.dropped.items c.requires.numbers
    (c.in_ok-carry_jobs.ensures.carried c.args.image.now c.in_ok-old.ensures) c.let_wait.new.store.queue c.in_ok-waiting.waiting.items c.greatest.result
    c.in_ok-waiting.ensures.rest (subst (λ ws. Wait c.let_wait.new.store.queue ws c.in_ok-waiting.waiting.items) c.as_slice.ensures.value c.in_ok-waiting.ensures.wait)
    c.greatest.ensures
