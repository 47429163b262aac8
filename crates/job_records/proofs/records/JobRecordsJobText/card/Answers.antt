use Rattle.std.proofs.Common.{◌∙◌, sym}
use Rattle.cb_read.specs.Chains.{plan_of}
use Rattle.job_text.specs.Places.{dd_at, step_at}
use Rattle.job_records.specs.Recorded.{siot_at}
use Rattle.job_records.proofs.There.{card_is, dd_there}
use Rattle.job_records.proofs.records.JobRecordsJobText.card.Goals as goal

pub returns : goal.returns
returns g c =
    let q = g.S.RecordStore.queue c.args.self.now.store.now in
    let n = c.args.self.now.jct in
    let dd = dd_at (step_at (plan_of q n).steps c.args.step).dds c.args.dd in
    let there = dd_there q n c.requires.reads.recorded c.args.step c.requires.step c.args.dd c.requires.dd in
    c.card_there.ensures ∙ sym c.card_place.ensures.is ∙ sym (card_is q (siot_at q n c.args.step c.args.dd) dd there c.args.card c.requires.card)
