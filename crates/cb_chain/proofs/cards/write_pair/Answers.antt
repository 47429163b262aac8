use Rattle.std.proofs.Common.{◌≡◌, ◌≢◌, ◌∙◌, ℕ, Bool, true, false, [], ap, refl, subst, sym, ◌≤◌}
use Rattle.cb_queue.specs.RecordQueues.{RecordQueue}
use Rattle.cb_meaning.specs.Spelled.{card_record}
use Rattle.cb_chain.specs.Taking.{IsHeld}
use Rattle.cb_chain.proofs.Chains.{card_link}
use Rattle.cb_chain.proofs.Linked.{its_owner, nothing_taken, stepped}
use Rattle.cb_chain.proofs.cards.write_pair.Goals as goal

pub put-requires-clause-owner : goal.put-requires-clause-owner
put-requires-clause-owner g c =
    let old = g.S.RecordStore.queue c.args.store.now in
    c.cards_record.ensures.head.of_job
    ∙ sym (its_owner c.args.job c.args.here old old (g.S.RecordStore.queue c.take_if-next.new.store) [] c.args.more c.take_if-next.result
    c.cards_record.result c.requires.ready c.requires.taken (nothing_taken old) c.take_if-next.ensures.value)

-- a next record is taken only where there is more
is_more : (job : ℕ) (q : RecordQueue) (more : Bool) (next : ℕ) → IsHeld job q more next → next ≢ 0 → more ≡ true
is_more job q true next held some = refl
is_more job q false next held some = absurd (some held)

pub returns-clause-value : goal.returns-clause-value
returns-clause-value g c =
    let l = c.args.layout.now in
    let job = c.args.job in
    let here = c.args.here in
    let old = g.S.RecordStore.queue c.args.store.now in
    let taken = c.requires.taken in
    let next = c.take_if-next.result in
    let r = c.cards_record.result in
    let step = stepped l job card_record here old old (g.S.RecordStore.queue c.take_if-next.new.store) (g.S.RecordStore.queue c.put.new.self) [] c.args.more
    next r
    c.requires.ready taken (nothing_taken old) c.take_if-next.ensures.value c.requires.layout c.cards_record.ensures.head c.put.ensures.value in
    let within : here ≤ l.most_records = subst (λ m. here ≤ m) (sym (ap (λ k. k.most_records) c.requires.layout)) taken.within in
    record {
      below = [];
      count_is = refl;
      filled = step.filled;
      is_held = step.is_held;
      link = λ later behind rest kept chain.
          card_link l later job here r (step.here_is later kept) taken.from_one within (step.here_used later kept) next c.args.cards.now rest behind
          c.cards_record.ensures
          (λ some. c.requires.full (is_more job (g.S.RecordStore.queue c.take_if-next.new.store) c.args.more next c.take_if-next.ensures.value.is_held some)) chain;
    }
