use Rattle.std.proofs.Common.{◌∙◌, ap, subst, sym}
use Rattle.jname_core.specs.Grammar.{IsName8}
use Rattle.jcl_plan.specs.Texts.{trimmed}
use Rattle.jcl_plan.specs.declared.plan.StepPlan.{StepPlan}
use Rattle.job_records.specs.Fields.{SctFields, fields_of_sct}
use Rattle.job_records.specs.Recorded.{sct_at}
use Rattle.job_text.specs.Places.{step_at}
use Rattle.cb_read.specs.Chains.{plan_of}
use Rattle.job_records.proofs.There.{names_there, step_there}
use Rattle.job_records.proofs.records.JobRecordsJobText.program.Goals as goal

pub name8-requires : goal.name8-requires
name8-requires g c =
    let q = g.S.RecordStore.queue c.args.self.now.store.now in
    let there = step_there q c.args.self.now.jct c.requires.reads.recorded c.args.step c.requires.step in
    let same = (λ i. fields_of_sct (c.sct.ensures.layout i) c.sct.result.bytes.now) ∙ c.sct.ensures.fields in
    subst (λ t. IsName8 (trimmed t)) (sym (c.program.ensures ∙ ap (λ (f : SctFields). f.program) same))
    (names_there q (sct_at q c.args.self.now.jct c.args.step) (step_at (plan_of q c.args.self.now.jct).steps c.args.step) there).program

pub returns : goal.returns
returns g c =
    let q = g.S.RecordStore.queue c.args.self.now.store.now in
    let there = step_there q c.args.self.now.jct c.requires.reads.recorded c.args.step c.requires.step in
    let same = (λ i. fields_of_sct (c.sct.ensures.layout i) c.sct.result.bytes.now) ∙ c.sct.ensures.fields in
    c.name8.ensures ∙ ap trimmed (c.program.ensures ∙ ap (λ (f : SctFields). f.program) same) ∙ sym (ap (λ (s : StepPlan). s.program) there.is)
