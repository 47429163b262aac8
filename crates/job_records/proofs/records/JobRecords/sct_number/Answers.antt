use Rattle.std.proofs.Common.{◌≡◌, ◌-◌, ◌∙◌, ap, arith}
use Rattle.cb_meaning.specs.Fields.{number_at}
use Rattle.job_records.specs.Fields.{JctFields}
use Rattle.job_records.specs.Recorded.{first_sct}
use Rattle.job_records.proofs.There.{sct_behind, scts_behind}
use Rattle.job_records.proofs.records.JobRecords.sct_number.Goals as goal

pub step_behind-requires-clause-kinds : goal.step_behind-requires-clause-kinds
step_behind-requires-clause-kinds g c =
    let q = g.S.RecordStore.queue c.args.self.now.store.now in
    let hand = c.args.self.now.at_hand in
    let within = c.requires.step in
    let before = c.if-hand-step.true in
    scts_behind q c.args.self.now.jct c.requires.reads.recorded hand.step (c.args.step - hand.step) hand.sct (c.requires.reads.at_hand.sct c.if-hand-ne0.true)
    (omega (arith, within, before))

pub returns-then-hand-step : goal.returns-then-hand-step
returns-then-hand-step g c =
    let q = g.S.RecordStore.queue c.args.self.now.store.now in
    let hand = c.args.self.now.at_hand in
    let before = c.if-hand-step.true in
    c.step_behind.ensures
    ∙ sct_behind q c.args.self.now.jct hand.step (c.args.step - hand.step) hand.sct c.args.step (c.requires.reads.at_hand.sct c.if-hand-ne0.true) (omega (arith, before))

pub step_behind-requires-2-clause-kinds : goal.step_behind-requires-2-clause-kinds
step_behind-requires-2-clause-kinds g c =
    let q = g.S.RecordStore.queue c.args.self.now.store.now in
    let within = c.requires.step in
    let is : c.first_step.result ≡ first_sct q c.args.self.now.jct =
    c.first_step.ensures ∙ (λ i. number_at c.head.result.bytes.now ((c.head.ensures.layout i).first_step)) ∙ ap (λ (f : JctFields). f.first_step) c.head.ensures.fields in
    scts_behind q c.args.self.now.jct c.requires.reads.recorded 0 c.args.step c.first_step.result is (omega (arith, within))
