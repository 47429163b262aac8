use Rattle.std.proofs.Common.{arith, ◌≡◌, ◌≤◌, [], ◌∷◌, false, refl, subst, sym, ap, ◌∙◌}
use Rattle.cb_meaning.specs.Spelled.{SpellsJfcb, jfcb}
use Rattle.cb_chain.specs.Taking.{IsTaken}
use Rattle.std.proofs.lemmas.List.Elements.{All-nil}
use Rattle.cb_chain.specs.Written.{IsFresh}
use Rattle.cb_chain.proofs.Chains.{behind_it, owned}
use Rattle.cb_chain.proofs.Linked.{filled_took, none_after, nothing_taken, stepped}
use Rattle.cb_chain.proofs.Stored.{ready_after}
use Rattle.cb_chain.proofs.dds.write_set.Goals as goal

pub returns-clause-value : goal.returns-clause-value
returns-clause-value g c =
    let l = c.args.layout.now in
    let job = c.args.job in
    let here = c.take_if-here.result in
    let old = g.S.RecordStore.queue c.args.store.now in
    let q = g.S.RecordStore.queue c.take_if-here.new.store in
    let new = g.S.RecordStore.queue c.put.new.self in
    let took = c.take_if-here.ensures.value.took in
    let taken : IsTaken job q here = c.take_if-here.ensures.value.is_held in
    let r = c.jfcb_record.result in
    let same : l ≡ q.layout = c.requires.layout ∙ sym took.layout in
    let step = stepped l job jfcb here q q q new [] false 0 r (ready_after (here ∷ []) old q c.requires.ready took) taken (nothing_taken q)
    (none_after job q) same
    c.jfcb_record.ensures.head c.put.ensures.value in
    let within : here ≤ l.most_records = subst (λ m. here ≤ m) (sym (ap (λ k. k.most_records) same)) taken.within in
    record {
      numbers = here ∷ [];
      count_is = refl;
      took = filled_took here [] old q new took step.filled;
      most = c.take_if-here.ensures.value.most;
      spells = λ later kept. (
        (
          refl,
          owned l later job here r (step.here_is later kept) taken.from_one within (step.here_used later kept) jfcb c.jfcb_record.ensures.head,
          subst (SpellsJfcb l c.args.set.now) (sym (step.here_is later kept)) c.jfcb_record.ensures.spells,
        ),
        behind_it l later job here r (step.here_is later kept) taken.from_one within (step.here_used later kept) jfcb [] (λ e. absurd (omega arith))
            c.jfcb_record.ensures.head c.jfcb_record.ensures.status
            (All-nil (λ n. IsFresh c.args.layout.now (later.at n))),
      );
    }
