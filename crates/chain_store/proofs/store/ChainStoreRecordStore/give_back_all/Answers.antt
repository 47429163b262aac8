use Rattle.std.proofs.Common.{◌≡◌, ◌≢◌, All, suc, ◌+◌, ◌-◌, ◌<◌, ◌≤◌, ◌∙◌, ap, arith, length, refl, subst, sym}
use Rattle.cb_queue.proofs.Changing.{each}
use Rattle.cb_queue.proofs.Given.{block_kept, none_given, step_given, still_owned, unowned_kept}
use Rattle.cb_queue.specs.RecordQueues.{HasNoneBetween, IsQueued, IsSoundQueue, RecordQueue, given_back, owner_at}
use Rattle.chain_store.proofs.store.ChainStoreRecordStore.give_back_all.Goals as goal

pub loop-n-init : goal.loop-n-init
loop-n-init c =
    let q = c.args.self.now.queue in
    let most = length q.records in
    let high = c.span-span.result.high in
    let within = c.span-span.ensures.within in
    record {
      within = within;
      is =
          none_given q c.args.owner most (omega arith)
          ∙ unowned_kept q c.args.owner (most - high) high most (omega (arith, within)) (omega arith) c.span-span.ensures.none_behind;
      room = refl;
    }

-- a job that waits is another, so that its first record is another too
pub give_back-requires-clause-unqueued : goal.give_back-requires-clause-unqueued
give_back-requires-clause-unqueued c =
    let n = c.loop-n.n in
    let q = c.args.self.now.queue in
    let more : suc (n - 1) ≡ n = omega (arith, c.loop-n-test.true) in
    let here : n - 1 < length q.records = omega (arith, c.loop-n.invariant.within, more) in
    let owned : owner_at q n ≡ c.args.owner =
    sym (still_owned q c.args.owner n (n - 1) more here) ∙ sym (ap (λ s. owner_at s n) c.loop-n.invariant.is) ∙ sym c.owner.ensures.value ∙ c.if-owner.true in
    let sound : IsSoundQueue q = c.layout-layout.ensures.sound in
    subst (λ (s : RecordQueue). All (λ x. x.jct ≢ n) s.waiting) (sym c.loop-n.invariant.is)
    (each (IsQueued q) (λ x. x.job ≢ c.args.owner) (λ x. x.jct ≢ n) (λ x own other is. other (sym own.owner ∙ ap (owner_at q) is ∙ owned)) q.waiting sound.queued
    c.requires.unqueued)

pub loop-n-preserved-then-owner : goal.loop-n-preserved-then-owner
loop-n-preserved-then-owner c =
    let n = c.loop-n.n in
    let q = c.args.self.now.queue in
    let more : suc (n - 1) ≡ n = omega (arith, c.loop-n-test.true) in
    let here : n - 1 < length q.records = omega (arith, c.loop-n.invariant.within, more) in
    record {
      within = omega (arith, here);
      is =
          c.give_back.ensures.value ∙ ap (λ s. given_back s n) c.loop-n.invariant.is
          ∙ step_given q c.args.owner n (n - 1) more here (sym (ap (λ s. owner_at s n) c.loop-n.invariant.is) ∙ sym c.owner.ensures.value ∙ c.if-owner.true);
      room = c.give_back.ensures.room ∙ c.loop-n.invariant.room;
    }

pub loop-n-preserved : goal.loop-n-preserved
loop-n-preserved c =
    let n = c.loop-n.n in
    let m = c.passed-n.result in
    let q = c.args.self.now.queue in
    let down : n ≡ m + (n - m) = omega (arith, c.passed-n.ensures.lower) in
    record {
      within = omega (arith, c.passed-n.ensures.lower, c.loop-n.invariant.within);
      is =
          c.loop-n.invariant.is
          ∙ block_kept q c.args.owner (n - m) m n down c.loop-n.invariant.within
          (subst (λ s. HasNoneBetween s c.args.owner m n) c.loop-n.invariant.is c.passed-n.ensures.none);
      room = c.loop-n.invariant.room;
    }

pub returns-clause-value : goal.returns-clause-value
returns-clause-value c =
    let n = c.loop-n.n in
    let low = c.loop-n-test.false in
    c.loop-n.invariant.is
    ∙ unowned_kept c.args.self.now.queue c.args.owner n 0 n (omega arith) c.loop-n.invariant.within
    (λ m behind within. c.span-span.ensures.none_before m behind (omega (arith, within, low)))
