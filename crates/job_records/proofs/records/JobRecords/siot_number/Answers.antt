use Rattle.std.proofs.Common.{◌≡◌, ◌-◌, ◌∙◌, ap, arith}
use Rattle.cb_meaning.specs.Fields.{number_at}
use Rattle.job_records.specs.Fields.{SctFields}
use Rattle.job_records.specs.Recorded.{first_siot, siot_at}
use Rattle.job_records.proofs.There.{siot_behind, siots_behind}
use Rattle.job_records.proofs.records.JobRecords.siot_number.Goals as goal

pub dd_behind-requires-clause-kinds : goal.dd_behind-requires-clause-kinds
dd_behind-requires-clause-kinds g c =
    let q = g.S.RecordStore.queue c.args.self.now.store.now in
    let n = c.args.self.now.jct in
    let hand = c.args.self.now.at_hand in
    let within = c.requires.dd in
    let before = c.if-hand-dd.true in
    let is : hand.siot ≡ siot_at q n c.args.step hand.dd =
    c.requires.reads.at_hand.siot c.if-hand-ne0.true ∙ ap (λ s. siot_at q n s hand.dd) c.if-hand-step.true in
    siots_behind q n c.requires.reads.recorded c.args.step hand.dd (c.args.dd - hand.dd) hand.siot c.requires.step is (omega (arith, within, before))

pub returns-then-hand-dd : goal.returns-then-hand-dd
returns-then-hand-dd g c =
    let q = g.S.RecordStore.queue c.args.self.now.store.now in
    let n = c.args.self.now.jct in
    let hand = c.args.self.now.at_hand in
    let before = c.if-hand-dd.true in
    let is : hand.siot ≡ siot_at q n c.args.step hand.dd =
    c.requires.reads.at_hand.siot c.if-hand-ne0.true ∙ ap (λ s. siot_at q n s hand.dd) c.if-hand-step.true in
    c.dd_behind.ensures ∙ siot_behind q n c.args.step hand.dd (c.args.dd - hand.dd) hand.siot c.args.dd is (omega (arith, before))

pub dd_behind-requires-2-clause-kinds : goal.dd_behind-requires-2-clause-kinds
dd_behind-requires-2-clause-kinds g c =
    let q = g.S.RecordStore.queue c.args.self.now.store.now in
    let n = c.args.self.now.jct in
    let within = c.requires.dd in
    let is : c.first_dd.result ≡ first_siot q n c.args.step =
    c.first_dd.ensures ∙ (λ i. number_at c.sct.result.bytes.now ((c.sct.ensures.layout i).first_dd)) ∙ ap (λ (f : SctFields). f.first_dd) c.sct.ensures.fields in
    siots_behind q n c.requires.reads.recorded c.args.step 0 c.args.dd c.first_dd.result c.requires.step is (omega (arith, within))
