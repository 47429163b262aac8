use Rattle.std.proofs.Common.{◌≡◌, ◌≢◌, ◌≤◌, ◌<◌, ◌∙◌, ◌+◌, ◌++◌, ◌∷◌, [], ℕ, All, List, ap, arith, get_or, length, refl, subst, sym}
use Rattle.std.proofs.lemmas.List.{get_or_default}
use Rattle.cb_queue.specs.RecordQueues.{RecordQueue}
use Rattle.queue_images.specs.Waiting.{CanWait, queued_in}
use Rattle.queue_images.proofs.Waits.{all_wait, can, one_left, one_more}
use Rattle.queue_images.proofs.waiting.let_wait.Goals as goal

-- an item of a list is there
found : (xs : List ℕ) (i n x : ℕ) → i ≡ n → n < length xs → x ≡ get_or xs i x → x ≡ get_or xs n 0
found xs i n x at there is = is ∙ ap (λ k. get_or xs k x) at ∙ get_or_default xs n x 0 there

pub enter-requires-clause-stands : goal.enter-requires-clause-stands
enter-requires-clause-stands c =
    let n = c.loop-job.job in
    let jcts = c.in_ok-jcts.jcts.items in
    let its = found jcts c.from.result n c.index-jct.result.now c.from.ensures (omega (arith, c.loop-job-test.true, c.in_ok-jcts.ensures.size)) c.index-jct.ensures in
    let some : get_or jcts n 0 ≢ 0 = λ e. c.if-jct-eq0.false (its ∙ e) in
    subst (λ jct. CanWait c.loop-job.store.queue (record { job = n; jct = jct })) (sym its)
    (can c.args.store.now.queue c.args.jobs.now c.requires.stand jcts c.in_ok-jcts.ensures.jcts c.loop-job.store.queue n c.loop-job.numbers.items
    c.loop-job.invariant.wait some)

pub loop-job-preserved-then-jct-eq0 : goal.loop-job-preserved-then-jct-eq0
loop-job-preserved-then-jct-eq0 c =
    let n = c.loop-job.job in
    let jcts = c.in_ok-jcts.jcts.items in
    let its = found jcts c.from.result n c.index-jct.result.now c.from.ensures (omega (arith, c.loop-job-test.true, c.in_ok-jcts.ensures.size)) c.index-jct.ensures in
    record {
      from = omega arith;
      to = omega (arith, c.loop-job-test.true);
      wait = one_left c.args.store.now.queue c.args.jobs.now c.requires.stand jcts c.in_ok-jcts.ensures.jcts c.loop-job.store.queue n c.loop-job.numbers.items
          c.loop-job.invariant.wait (sym its ∙ c.if-jct-eq0.true);
    }

pub loop-job-preserved : goal.loop-job-preserved
loop-job-preserved c =
    let n = c.loop-job.job in
    let jcts = c.in_ok-jcts.jcts.items in
    let its = found jcts c.from.result n c.index-jct.result.now c.from.ensures (omega (arith, c.loop-job-test.true, c.in_ok-jcts.ensures.size)) c.index-jct.ensures in
    let some : get_or jcts n 0 ≢ 0 = λ e. c.if-jct-eq0.false (its ∙ e) in
    let q = c.loop-job.store.queue in
    let is = subst (λ jct. c.enter.new.store.queue ≡ record q { waiting = q.waiting ++ queued_in q (record { job = n; jct = jct }) ∷ [] }) its c.in_ok-enter.ensures in
    record {
      from = omega arith;
      to = omega (arith, c.loop-job-test.true);
      wait = one_more c.args.store.now.queue c.args.jobs.now c.requires.stand jcts c.in_ok-jcts.ensures.jcts q n c.loop-job.numbers.items
          c.loop-job.invariant.wait some c.enter.new.store.queue c.push.new.self.items is c.in_ok-push.ensures.items;
    }

pub returns-clause-wait : goal.returns-clause-wait
returns-clause-wait c =
    all_wait c.args.store.now.queue c.loop-job.store.queue c.args.jobs.now c.loop-job.job c.loop-job.numbers.items
    (λ j d less. let few = c.requires.numbers j d less in let test = c.loop-job-test.false in let to = c.loop-job.invariant.to in omega (arith, few, test, to))
    c.layout-sound.ensures.sound.in_order c.loop-job.invariant.wait
