use Rattle.std.proofs.Common.{◌∙◌, ap, subst, sym}
use Rattle.cb_meaning.specs.Readings.{step_test_read}
use Rattle.cb_read.specs.Chains.{plan_of}
use Rattle.cb_read.specs.Ranges.{IsTestInRange}
use Rattle.job_text.specs.Places.{step_at}
use Rattle.job_records.specs.Fields.{fields_of_sct}
use Rattle.job_records.specs.Recorded.{sct_at}
use Rattle.job_records.specs.Said.{test_bytes}
use Rattle.job_records.proofs.There.{step_there, test_few, test_in_range, test_is}
use Rattle.job_records.proofs.records.JobRecordsJobText.test.Goals as goal

pub test_said-requires-clause-there : goal.test_said-requires-clause-there
test_said-requires-clause-there g c =
    let q = g.S.RecordStore.queue c.args.self.now.store.now in
    let there = step_there q c.args.self.now.jct c.requires.reads.recorded c.args.step c.requires.step in
    let n = sct_at q c.args.self.now.jct c.args.step in
    let step = step_at (plan_of q c.args.self.now.jct).steps c.args.step in
    test_few q n step there c.args.test c.requires.test

pub test_said-requires-clause-range : goal.test_said-requires-clause-range
test_said-requires-clause-range g c =
    let q = g.S.RecordStore.queue c.args.self.now.store.now in
    let there = step_there q c.args.self.now.jct c.requires.reads.recorded c.args.step c.requires.step in
    let same = (λ i. fields_of_sct (c.sct.ensures.layout i) c.sct.result.bytes.now) ∙ c.sct.ensures.fields in
    let n = sct_at q c.args.self.now.jct c.args.step in
    let step = step_at (plan_of q c.args.self.now.jct).steps c.args.step in
    subst (λ f. IsTestInRange (step_test_read (test_bytes f c.args.test))) (sym same) (test_in_range q n step there c.args.test c.requires.test)

pub returns : goal.returns
returns g c =
    let q = g.S.RecordStore.queue c.args.self.now.store.now in
    let there = step_there q c.args.self.now.jct c.requires.reads.recorded c.args.step c.requires.step in
    let same = (λ i. fields_of_sct (c.sct.ensures.layout i) c.sct.result.bytes.now) ∙ c.sct.ensures.fields in
    let n = sct_at q c.args.self.now.jct c.args.step in
    let step = step_at (plan_of q c.args.self.now.jct).steps c.args.step in
    c.test_said.ensures ∙ ap (λ f. step_test_read (test_bytes f c.args.test)) same ∙ sym (test_is q n step there c.args.test c.requires.test)
