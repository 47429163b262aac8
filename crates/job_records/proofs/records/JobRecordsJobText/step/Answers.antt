use Rattle.std.proofs.Common.{◌∙◌, ap, subst, sym}
use Rattle.job_text.specs.Places.{step_at}
use Rattle.job_text.specs.Texts.{step_text}
use Rattle.cb_read.specs.Chains.{plan_of}
use Rattle.job_records.specs.Fields.{fields_of_sct}
use Rattle.job_records.specs.Recorded.{sct_at}
use Rattle.job_records.specs.Said.{AreStepNames, step_said}
use Rattle.job_records.proofs.There.{names_there, step_there}
use Rattle.job_records.proofs.records.JobRecordsJobText.step.Goals as goal

pub step_said-requires : goal.step_said-requires
step_said-requires g c =
    let q = g.S.RecordStore.queue c.args.self.now.store.now in
    let there = step_there q c.args.self.now.jct c.requires.reads.recorded c.args.step c.requires.step in
    let same = (λ i. fields_of_sct (c.sct.ensures.layout i) c.sct.result.bytes.now) ∙ c.sct.ensures.fields in
    subst AreStepNames (sym same)
    (names_there q (sct_at q c.args.self.now.jct c.args.step) (step_at (plan_of q c.args.self.now.jct).steps c.args.step) there)

pub returns : goal.returns
returns g c =
    let q = g.S.RecordStore.queue c.args.self.now.store.now in
    let there = step_there q c.args.self.now.jct c.requires.reads.recorded c.args.step c.requires.step in
    let same = (λ i. fields_of_sct (c.sct.ensures.layout i) c.sct.result.bytes.now) ∙ c.sct.ensures.fields in
    c.step_said.ensures ∙ ap step_said same ∙ sym (ap step_text there.is)
