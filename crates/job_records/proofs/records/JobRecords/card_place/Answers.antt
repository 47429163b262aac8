use Rattle.std.proofs.Common.{◌∙◌, ap, subst, sym}
use Rattle.cb_read.specs.Chains.{plan_of}
use Rattle.job_text.specs.Places.{dd_at, step_at}
use Rattle.job_records.specs.Fields.{SiotFields, fields_of_siot}
use Rattle.job_records.specs.Recorded.{HasCard, IsCardPlace, IsPassed, first_below, siot_at}
use Rattle.job_records.proofs.Counted.{from_passed, place_on}
use Rattle.job_records.proofs.There.{dd_there, has_card}
use Rattle.job_records.proofs.records.JobRecords.card_place.Goals as goal

pub find_card-requires-clause-there : goal.find_card-requires-clause-there
find_card-requires-clause-there g c =
    let q = g.S.RecordStore.queue c.args.self.now.store.now in
    let n = c.args.self.now.jct in
    let dd = dd_at (step_at (plan_of q n).steps c.args.step).dds c.args.dd in
    let there = dd_there q n c.requires.reads.recorded c.args.step c.requires.step c.args.dd c.requires.dd in
    let has = has_card q (siot_at q n c.args.step c.args.dd) dd there c.args.card c.requires.card in
    let hand = c.args.self.now.at_hand in
    let first = first_below q n c.args.step c.args.dd in
    let passed : IsPassed q first hand.cards hand.card =
    subst (λ d. IsPassed q (first_below q n c.args.step d) hand.cards hand.card) c.if-hand-dd.true
    (subst (λ s. IsPassed q (first_below q n s hand.dd) hand.cards hand.card) c.if-hand-step.true (c.requires.reads.at_hand.cards c.if-hand-ne0.true)) in
    let behind = from_passed q first c.args.card hand.cards hand.card has passed c.if-hand-card.true in
    behind.has

pub returns-then-hand-card : goal.returns-then-hand-card
returns-then-hand-card g c =
    let q = g.S.RecordStore.queue c.args.self.now.store.now in
    let n = c.args.self.now.jct in
    let dd = dd_at (step_at (plan_of q n).steps c.args.step).dds c.args.dd in
    let there = dd_there q n c.requires.reads.recorded c.args.step c.requires.step c.args.dd c.requires.dd in
    let has = has_card q (siot_at q n c.args.step c.args.dd) dd there c.args.card c.requires.card in
    let hand = c.args.self.now.at_hand in
    let first = first_below q n c.args.step c.args.dd in
    let passed : IsPassed q first hand.cards hand.card =
    subst (λ d. IsPassed q (first_below q n c.args.step d) hand.cards hand.card) c.if-hand-dd.true
    (subst (λ s. IsPassed q (first_below q n s hand.dd) hand.cards hand.card) c.if-hand-step.true (c.requires.reads.at_hand.cards c.if-hand-ne0.true)) in
    let behind = from_passed q first c.args.card hand.cards hand.card has passed c.if-hand-card.true in
    place_on q first c.args.card hand.cards hand.card c.find_card.result behind passed c.if-hand-card.true c.find_card.ensures

pub find_card-requires-2-clause-there : goal.find_card-requires-2-clause-there
find_card-requires-2-clause-there g c =
    let q = g.S.RecordStore.queue c.args.self.now.store.now in
    let n = c.args.self.now.jct in
    let dd = dd_at (step_at (plan_of q n).steps c.args.step).dds c.args.dd in
    let there = dd_there q n c.requires.reads.recorded c.args.step c.requires.step c.args.dd c.requires.dd in
    let has = has_card q (siot_at q n c.args.step c.args.dd) dd there c.args.card c.requires.card in
    let below = c.below.ensures ∙ ap (λ (f : SiotFields). f.below) ((λ i. fields_of_siot (c.siot.ensures.layout i) c.siot.result.bytes.now) ∙ c.siot.ensures.fields) in
    subst (λ m. HasCard q m c.args.card) (sym below) has

pub returns : goal.returns
returns g c =
    let q = g.S.RecordStore.queue c.args.self.now.store.now in
    let n = c.args.self.now.jct in
    let below = c.below.ensures ∙ ap (λ (f : SiotFields). f.below) ((λ i. fields_of_siot (c.siot.ensures.layout i) c.siot.result.bytes.now) ∙ c.siot.ensures.fields) in
    subst (λ m. IsCardPlace q m c.args.card c.find_card-2.result) below c.find_card-2.ensures
