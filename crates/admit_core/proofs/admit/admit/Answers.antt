use Rattle.std.proofs.Common.{◌∙◌, subst, sym}
use Rattle.jcl_plan.specs.declared.plan.JobPlan.{JobPlan}
use Rattle.path_search.specs.Verdicts.{IsVerdict}
use Rattle.place_core.specs.Keepings.{AreApart}
use Rattle.admit_core.specs.Admitted.{IsAnswered, IsAssurance, admission_of}
use Rattle.admit_core.specs.declared.admission.Admission.{Admission}
use Rattle.admit_core.specs.declared.admission.Admission.TheVariants.{Risky, TooMany}
use Rattle.admit_core.specs.declared.admission.NamedJob.{NamedJob}
use Rattle.admit_core.proofs.Answering.{apart, many, risky, safe}
use Rattle.admit_core.proofs.admit.admit.Goals as goal

pub assure-requires-clause-apart : goal.assure-requires-clause-apart
assure-requires-clause-apart c =
    subst AreApart (sym c.as_slice.ensures.value)
    (apart c.made_is_configured.ensures c.args.store.now c.args.terms.now c.args.number c.args.job c.args.date c.in-Ok.field-0 c.in-Ok.ensures.judged
    _ (subst (IsVerdict _ c.args.job.plan _ c.args.terms.now.most_views) c.in-Safe.is c.in-Ok.ensures.judged.found.verdict))

pub returns-in-Ok-assure-clause-ok : goal.returns-in-Ok-assure-clause-ok
returns-in-Ok-assure-clause-ok c =
    subst (λ (a : Admission). IsAnswered c.args.store.now c.args.terms.now c.args.number c.args.job c.args.date c.assure.new.store (record { admission = a; path = c.in-Ok.field-0.finding.path }))
    (sym (c.admission_of.ensures ∙ (λ i. admission_of (record { plan = c.judge.ensures.same i; held = c.args.job.held })
    (record { places = c.in-Ok.field-0.places; meanings = c.in-Ok.field-0.meanings; date = c.args.date }) c.in-Ok-assure.assurance)))
    (safe c.made_is_configured.ensures c.args.store.now c.args.terms.now c.args.number c.args.job c.args.date c.in-Ok.field-0 c.in-Ok.ensures.judged
    c.in-Safe.made c.in-Safe.is (subst (IsVerdict _ c.args.job.plan _ c.args.terms.now.most_views) c.in-Safe.is c.in-Ok.ensures.judged.found.verdict)
    c.judge.new.store c.assure.new.store c.judge.ensures.store c.in-Ok-assure.assurance
    (subst (λ made. IsAssurance c.judge.new.store c.args.terms.now.programs.now c.args.number c.args.job.plan made c.assure.new.store c.in-Ok-assure.assurance)
    c.as_slice.ensures.value
    (subst (λ (plan : JobPlan). IsAssurance c.judge.new.store c.args.terms.now.programs.now c.args.number plan c.as_slice.result.now c.assure.new.store c.in-Ok-assure.assurance)
    (c.plan.ensures ∙ c.judge.ensures.same) c.in-Ok-assure.ensures.ok)))

pub returns-in-Ok-tell_risk-clause-ok : goal.returns-in-Ok-tell_risk-clause-ok
returns-in-Ok-tell_risk-clause-ok c =
    subst (λ (named : NamedJob). IsAnswered c.args.store.now c.args.terms.now c.args.number c.args.job c.args.date c.judge.new.store (record {
      admission = Risky (record { named = named; given = record { places = c.in-Ok.field-0.places; meanings = c.in-Ok.field-0.meanings; date = c.args.date } }) c.in-Risk.report;
      path = c.in-Ok.field-0.finding.path;
    }))
    (sym (c.answered-named.ensures ∙ (λ i. record { plan = c.judge.ensures.same i; held = c.args.job.held })))
    (risky c.made_is_configured.ensures c.args.store.now c.args.terms.now c.args.number c.args.job c.args.date c.in-Ok.field-0 c.in-Ok.ensures.judged
    c.in-Risk.report c.in-Risk.is (subst (IsVerdict _ c.args.job.plan _ c.args.terms.now.most_views) c.in-Risk.is c.in-Ok.ensures.judged.found.verdict)
    c.judge.new.store c.judge.ensures.store)

pub returns-in-Ok-push-clause-ok : goal.returns-in-Ok-push-clause-ok
returns-in-Ok-push-clause-ok c =
    subst (λ (named : NamedJob). IsAnswered c.args.store.now c.args.terms.now c.args.number c.args.job c.args.date c.judge.new.store (record {
      admission = TooMany (record { named = named; given = record { places = c.in-Ok.field-0.places; meanings = c.in-Ok.field-0.meanings; date = c.args.date } }) c.in-TooMany.step;
      path = c.in-Ok.field-0.finding.path;
    }))
    (sym (c.answered-named-in-Ok-push.ensures ∙ (λ i. record { plan = c.judge.ensures.same i; held = c.args.job.held })))
    (many c.made_is_configured.ensures c.args.store.now c.args.terms.now c.args.number c.args.job c.args.date c.in-Ok.field-0 c.in-Ok.ensures.judged
    c.in-TooMany.step c.in-TooMany.is (subst (IsVerdict _ c.args.job.plan _ c.args.terms.now.most_views) c.in-TooMany.is c.in-Ok.ensures.judged.found.verdict)
    c.judge.new.store c.judge.ensures.store)
