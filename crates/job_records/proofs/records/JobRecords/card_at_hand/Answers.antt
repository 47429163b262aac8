use Rattle.std.proofs.Common.{◌-◌, arith, subst, sym}
use Rattle.job_records.specs.Recorded.{IsPassed, first_below}
use Rattle.job_records.proofs.Counted.{two_at_most}
use Rattle.job_records.proofs.records.JobRecords.card_at_hand.Goals as goal

pub returns-clause-is : goal.returns-clause-is
returns-clause-is g c =
    let q = g.S.RecordStore.queue c.args.self.now.store.now in
    let n = c.args.self.now.jct in
    let at = c.card_place-at.result in
    record {
      sct = c.dd_at_hand-hand.ensures.is.sct;
      siot = c.dd_at_hand-hand.ensures.is.siot;
      cards = λ _. subst (λ d. IsPassed q (first_below q n c.dd_at_hand-hand.result.step d) at.n (c.args.card - at.place)) (sym c.dd_at_hand-hand.ensures.dd)
          (subst (λ s. IsPassed q (first_below q n s c.args.dd) at.n (c.args.card - at.place)) (sym c.dd_at_hand-hand.ensures.step) c.card_place-at.ensures.passed);
    }

pub returns-clause-found : goal.returns-clause-found
returns-clause-found g c =
    let q = g.S.RecordStore.queue c.args.self.now.store.now in
    let there = c.card_place-at.ensures.there in
    let few = two_at_most q c.card_place-at.result.n in
    (omega arith, omega (arith, there, few))
